-- A tile of a lawful shard fits the cut that the shard's tag names.
use Rattle.std.proofs.Common.{◌≡◌, ℕ, subst, sym, Option, Some, None, IfSome}
use Rattle.std.specs.Prelude.{option_map}
use Rattle.std.specs.List.{All}
use Rattle.std.specs.Option.{option_map_or}
use Rattle.std.proofs.lemmas.Map.Entries.{All-lookup}
use Rattle.std.specs.Prelude.{nat_eq}
use Rattle.tex_world.specs.World.{Files}
use Rattle.tiff_format.specs.declared.cut.Cut.{Cut}
use Rattle.tile_store.specs.Tile.{CachedTile}
use Rattle.tile_store.specs.CachedTile.{EntryState, Entries, entry_at}
use Rattle.tile_store.specs.Changes.{kept_tile}
use Rattle.tile_store.specs.Lawful.{FitsCut}
use Rattle.shard_gate.specs.Gate.{IsTileOf}

module _ (files : Files) (cut : Cut) where
  -- the tile of the entry, if there is one, fits the cut
  abbrev FitsIfAny : Option EntryState → Type 0
  FitsIfAny entry = IfSome entry (λ e. FitsCut files cut e.tile)

  one_fits : (entry : Option EntryState) (tile : CachedTile) → FitsIfAny entry
      → Some tile ≡ option_map (λ (e : EntryState). e.tile) entry → FitsCut files cut tile
  one_fits None tile fits same = absurd (cc same)
  one_fits (Some e) tile fits same =
      let is : tile ≡ e.tile = cc same in
      subst (λ (t : CachedTile). FitsCut files cut t) (sym is) fits

  pub found_is : {A : Type 0} (value : A → CachedTile) (key : ℕ) (es : Entries) (found : Option A)
      → All (λ (e : ℕ × EntryState). FitsCut files cut e.1.tile) es
      → option_map value found ≡ option_map (λ (e : EntryState). e.tile) (entry_at key es)
      → IfSome found (λ t. (value t).key ≡ key)
      → IfSome found (λ t. IsTileOf files cut key (value t))
  found_is value key es None fits same keyed = tt
  found_is value key es (Some t) fits same keyed = record {
    keyed = keyed;
    fits = one_fits (entry_at key es) (value t)
        (All-lookup (λ (e : EntryState). FitsCut files cut e.tile) (nat_eq key) es fits) same;
  }

  kept_fits : (entry : Option EntryState) (tile : CachedTile) → FitsIfAny entry
      → FitsCut files cut tile
      → FitsCut files cut (option_map_or (λ (e : EntryState). e.tile) entry tile)
  kept_fits None tile fits own = own
  kept_fits (Some e) tile fits own = fits

  pub kept_is : (tile kept : CachedTile) (es : Entries)
      → All (λ (e : ℕ × EntryState). FitsCut files cut e.1.tile) es → FitsCut files cut tile
      → kept ≡ kept_tile tile es → kept.key ≡ tile.key → IsTileOf files cut tile.key kept
  kept_is tile kept es fits own is keyed = record {
    keyed = keyed;
    fits = subst (λ (t : CachedTile). FitsCut files cut t) (sym is)
        (kept_fits (entry_at tile.key es) tile
        (All-lookup (λ (e : EntryState). FitsCut files cut e.tile) (nat_eq tile.key) es fits) own);
  }
