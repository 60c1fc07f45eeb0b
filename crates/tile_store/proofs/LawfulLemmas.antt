-- What is lawful stays so.
use Rattle.std.proofs.Common.{◌≡◌, ℕ, ◌≤◌, Bool, true, false, cond, not, nat_eq, nat_le, [], ◌∷◌, length}
use Rattle.std.proofs.Common.{Some, arith}
use Rattle.std.specs.List.{IsDistinct, filter, list_any}
use Rattle.std.specs.Map.{keys_of, values_of}
use Rattle.std.proofs.lemmas.List.Elements.{All-nil, All-cons, All-filter}
use Rattle.std.proofs.lemmas.List.Sums.{sum_by-cons}
use Rattle.tex_world.specs.World.{Files}
use Rattle.tile_store.specs.Tile.{CachedTile}
use Rattle.tile_store.specs.CachedTile.{EntryState, Entries, unpinned_bytes, loose_bytes, entry_at, HasPin}
use Rattle.tile_store.specs.CachedTile.{AreEntries, IsEntry, is_unpinned}
use Rattle.tile_store.specs.Changes.{pinned_first, unpinned_once, with_first, with_room, kept_within}
use Rattle.tile_store.specs.Changes.{without_last_unpinned, without_stale, is_stale, new_entry}
use Rattle.tile_store.specs.Tag.{share_in_tag, cut_of}
use Rattle.tile_store.specs.Lawful.{FitsCut, FitsTag, Lawful}
use Rattle.tile_store.proofs.PinLemmas.{loose-pinned_first, All-pinned_first, All-unpinned_once, some_entry}
use Rattle.tile_store.proofs.WithinLemmas.{All-kept_within}
use Rattle.tile_store.proofs.ShardLemmas.{All-with_room}

none_distinct : IsDistinct nat_eq (keys_of {K = ℕ} {X = EntryState} [])
unfolding IsDistinct
none_distinct = tt

pub empty_entries : AreEntries []
empty_entries = record { distinct = none_distinct; keyed = All-nil IsEntry; few = omega arith }

loose-without_last : (es : Entries) → loose_bytes (without_last_unpinned es) ≤ loose_bytes es
loose-without_last [] = omega arith
loose-without_last (e ∷ es) =
    elim (list_any is_unpinned es) as (λ b. loose_bytes (cond b (e ∷ without_last_unpinned es)
    (cond (is_unpinned e) es (e ∷ es))) ≤ loose_bytes (e ∷ es)) [
      | true ↦ omega (
        arith,
        loose-without_last es,
        sum_by-cons unpinned_bytes e.1 (values_of (without_last_unpinned es)),
        sum_by-cons unpinned_bytes e.1 (values_of es),
      )
      | false ↦ elim (is_unpinned e) as (λ u.
          loose_bytes (cond u es (e ∷ es)) ≤ loose_bytes (e ∷ es)) [
            | true ↦ omega (arith, sum_by-cons unpinned_bytes e.1 (values_of es))
            | false ↦ omega arith
          ]
    ]

loose-with_room : (slots : ℕ) (es : Entries) → loose_bytes (with_room slots es) ≤ loose_bytes es
loose-with_room slots es =
    elim (nat_le slots (length es)) as (λ full.
    loose_bytes (cond full (without_last_unpinned es) es) ≤ loose_bytes es) [
      | true ↦ loose-without_last es
      | false ↦ omega arith
    ]

loose-filter : (p : ℕ × EntryState → Bool) (es : Entries) → loose_bytes (filter p es) ≤ loose_bytes es
loose-filter p [] = omega arith
loose-filter p (e ∷ es) =
    elim (p e) as (λ b. loose_bytes (cond b (e ∷ filter p es) (filter p es)) ≤ loose_bytes (e ∷ es)) [
      | true ↦ omega (
        arith,
        loose-filter p es,
        sum_by-cons unpinned_bytes e.1 (values_of (filter p es)),
        sum_by-cons unpinned_bytes e.1 (values_of es),
      )
      | false ↦ omega (arith, loose-filter p es, sum_by-cons unpinned_bytes e.1 (values_of es))
    ]

module _ (files : Files) (tag : ℕ) where
  abbrev HasCell : ℕ × EntryState → Type 0
  HasCell e = FitsCut files (cut_of tag) e.1.tile

  pub lawful_empty : Lawful files tag []
  lawful_empty = record { distinct = none_distinct; cells = All-nil HasCell; share = omega arith }

  module _ (es : Entries) (lawful : Lawful files tag es) where
    was_within : loose_bytes es ≤ share_in_tag tag
    was_within = lawful.share

    pub lawful_pinned : (key : ℕ) (e : EntryState) → entry_at key es ≡ Some e
        → IsDistinct nat_eq (keys_of (pinned_first key es)) → Lawful files tag (pinned_first key es)
    lawful_pinned key e found distinct = record {
      distinct = distinct;
      cells = All-pinned_first key es e found HasCell (λ p. p) lawful.cells;
      share = omega (arith, was_within, loose-pinned_first key es e found);
    }

    pub lawful_inserted : (tile : CachedTile) (slots : ℕ) → FitsTag files tile tag
        → IsDistinct nat_eq (keys_of (with_first tile (with_room slots es)))
        → Lawful files tag (with_first tile (with_room slots es))
    lawful_inserted tile slots fits distinct = record {
      distinct = distinct;
      cells = All-cons HasCell (tile.key, new_entry tile) (with_room slots es) fits
          (All-with_room HasCell slots es lawful.cells);
      share = omega (
        arith,
        was_within,
        loose-with_room slots es,
        sum_by-cons unpinned_bytes (new_entry tile) (values_of (with_room slots es)),
      );
    }

    pub lawful_released : (key share : ℕ) → share_in_tag tag ≡ share → HasPin key es
        → IsDistinct nat_eq (keys_of (kept_within share (unpinned_once key es)))
        → loose_bytes (kept_within share (unpinned_once key es)) ≤ share
        → Lawful files tag (kept_within share (unpinned_once key es))
    lawful_released key share same pinned distinct within =
        let at = some_entry (entry_at key es) (λ e. 1 ≤ e.pins) pinned in
        record {
          distinct = distinct;
          cells = All-kept_within HasCell share (unpinned_once key es)
              (All-unpinned_once key es at.0 at.1 HasCell (λ k p. p) lawful.cells);
          share = omega arith;
        }

    pub lawful_purged : (file below : ℕ) → IsDistinct nat_eq (keys_of (without_stale file below es))
        → Lawful files tag (without_stale file below es)
    lawful_purged file below distinct = record {
      distinct = distinct;
      cells = All-filter (λ e. not (is_stale file below e)) HasCell es lawful.cells;
      share = omega (arith, was_within, loose-filter (λ e. not (is_stale file below e)) es);
    }
