-- What a pass asked for does not depend on which record it keeps.
use Rattle.std.proofs.Common.{◌≡◌, ℕ, ap, refl, sym, subst, ◌∙◌, List, inl, inr, arith}
use Rattle.std.proofs.Common.{[], ◌∷◌, length}
use Rattle.std.specs.Prelude.{if◌then◌else◌, IfOk}
use Rattle.tex_world.specs.World.{Files}
use Rattle.tile_layout.specs.Kept.{Kept}
use Rattle.tile_store.specs.Tile.{CachedTile}
use Rattle.file_table.specs.Record.{RecordState}
use Rattle.texel_filter.specs.Image.{Texel}
use Rattle.tile_source.specs.Pass.{PassState, SameCounts, counted, counted_together}
use Rattle.tile_source.specs.Pass.{KeepsAllBut, view_and_record}
use Rattle.tile_source.specs.Texel.{has_cell_at}
use Rattle.tile_source.specs.Call.{AsksForCellAt, Needs, NoneUncached}
use Rattle.image_cache.proofs.FillLemmas.{if_ok, needs_between}
use Rattle.image_cache.specs.Fetches.{at_of}
use Rattle.texture_sys.specs.Needs.{lookup_keys_on, AsksForEach, AsksForCells}

-- no need was uncached up to a moment with the same counts
none_to : (a b c : PassState) → SameCounts b c → NoneUncached a c → NoneUncached a b
none_to a b c same none = record { same = sym same.apart ∙ none.same; low = none.low }

none_from : (a b c : PassState) → SameCounts a b → NoneUncached a c → NoneUncached b c
none_from a b c same none = record {
  same = none.same ∙ sym same.apart;
  low = omega (arith, same.apart, none.low);
}

module _ (files : Files) (state : RecordState) where
  -- what was needed of a record is unchanged if the pass then keeps another record
  needs_from : (keys : Kept → List ℕ) (old mid new : PassState) → KeepsAllBut view_and_record old mid
      → IfOk state.layout (λ kept. Needs files (keys kept) mid new)
      → IfOk state.layout (λ kept. Needs files (keys kept) old new)
  needs_from keys old mid new same needs = if_ok state.layout
      (λ kept. Needs files (keys kept) mid new) (λ kept. Needs files (keys kept) old new)
      (λ kept. needs_between files (keys kept) old mid new new same.tiles.recent same.counts refl
      (record { needs = refl; hits = refl; apart = refl })) needs

  needs_to : (keys : Kept → List ℕ) (old mid new : PassState) → KeepsAllBut view_and_record mid new
      → IfOk state.layout (λ kept. Needs files (keys kept) old mid)
      → IfOk state.layout (λ kept. Needs files (keys kept) old new)
  needs_to keys old mid new same needs = if_ok state.layout
      (λ kept. Needs files (keys kept) old mid) (λ kept. Needs files (keys kept) old new)
      (λ kept. needs_between files (keys kept) old old mid new refl
      (record { needs = refl; hits = refl; apart = refl }) same.tiles.recent same.counts) needs

  -- the keys of the cells that hold these texels
  abbrev keys_of : List Texel → Kept → List ℕ
  keys_of texels kept = lookup_keys_on state.generation state.file state.cut kept texels

  each_to : (texels : List Texel) (old mid new : PassState) → KeepsAllBut view_and_record mid new
      → AsksForEach files state texels old mid → AsksForEach files state texels old new
  each_to [] old mid new same (counts, recent) = (
    record {
      needs = same.counts.needs ∙ counts.needs;
      hits = same.counts.hits ∙ counts.hits;
      apart = same.counts.apart ∙ counts.apart;
    },
    same.tiles.recent ∙ recent,
  )
  each_to (t ∷ texels) old mid new same (next, first, rest) =
      (next, first, each_to texels next mid new same rest)

  -- a pass with another record has asked for the same cells
  pub asks_to : (texels : List Texel) (old mid new : PassState) → KeepsAllBut view_and_record mid new
      → AsksForCells files state texels old mid → AsksForCells files state texels old new
  asks_to texels old mid new same asks = record {
    each = each_to texels old mid new same asks.each;
    needs = same.counts.needs ∙ asks.needs;
    keys = λ none. needs_to (keys_of texels) old mid new same
        (asks.keys (none_to old mid new same.counts none));
  }

  each_from : (texels : List Texel) (old mid new : PassState) → KeepsAllBut view_and_record old mid
      → AsksForEach files state texels mid new → AsksForEach files state texels old new
  each_from [] old mid new same (counts, recent) = (
    record {
      needs = counts.needs ∙ same.counts.needs;
      hits = counts.hits ∙ same.counts.hits;
      apart = counts.apart ∙ same.counts.apart;
    },
    recent ∙ same.tiles.recent,
  )
  each_from (t ∷ texels) old mid new same (next, first, rest) = (
    next,
    record {
      need = record {
        needs = first.need.needs ∙ ap counted same.counts.needs;
        hits = subst (λ (tiles : List CachedTile). next.hits
            ≡ (if has_cell_at state (at_of t) tiles then counted old.hits else old.hits))
            same.tiles.recent (subst (λ (n : ℕ). next.hits
            ≡ (if has_cell_at state (at_of t) mid.pinned.recent then counted n else n))
            same.counts.hits first.need.hits);
      };
      apart = record {
        later = omega (arith, first.apart.later, same.counts.apart);
        either = elim first.apart.either [
          | inl none ↦ inl (none ∙ same.counts.apart)
          | inr apart ↦
              inr (record {
                counted = apart.counted ∙ ap counted same.counts.apart;
                recent = λ tells. apart.recent tells ∙ same.tiles.recent;
              })
        ];
      };
      asked = λ none. subst (λ (tiles : List CachedTile). AsksForCellAt state (at_of t) tiles
          next.pinned.recent) same.tiles.recent
          (first.asked (none_from old mid next same.counts none));
      needs = λ none. needs_from (keys_of (t ∷ [])) old mid next same
          (first.needs (none_from old mid next same.counts none));
    },
    rest,
  )

  pub asks_from : (texels : List Texel) (old mid new : PassState) → KeepsAllBut view_and_record old mid
      → AsksForCells files state texels mid new → AsksForCells files state texels old new
  asks_from texels old mid new same asks = record {
    each = each_from texels old mid new same asks.each;
    needs = asks.needs ∙ ap (λ (n : ℕ). counted_together n (length texels)) same.counts.needs;
    keys = λ none. needs_from (keys_of texels) old mid new same
        (asks.keys (none_from old mid new same.counts none));
  }
