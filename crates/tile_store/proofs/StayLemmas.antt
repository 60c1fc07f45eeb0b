-- The pinned entries stay, whichever of the others leave.
use Rattle.std.proofs.Common.{◌≡◌, ℕ, ◌&&◌, ◌-◌, true, false, cond, not, nat_le, nat_lt}
use Rattle.std.proofs.Common.{[], ◌∷◌, length, Some, None, refl, ap, arith}
use Rattle.std.proofs.lemmas.Bool.{leb-false}
use Rattle.std.specs.Prelude.{◌==◌}
use Rattle.std.specs.List.{filter}
use Rattle.std.specs.Option.{option_map_or}
use Rattle.tile_layout.specs.Key.{generation_of, file_of}
use Rattle.tile_store.specs.Tile.{CachedTile}
use Rattle.tile_store.specs.CachedTile.{EntryState, Entries, unpinned_bytes, is_unpinned, is_pinned, pinned_entries, entry_at}
use Rattle.tile_store.specs.Changes.{pinned_first, with_first, with_room, with_pin, inserted, new_entry}
use Rattle.tile_store.specs.Changes.{kept_within, without_last_unpinned, without_stale, KeepsPinned}
use Rattle.tile_store.proofs.WithinLemmas.{filter_without, unpinned_has}

pinned_twice : (es : Entries) → pinned_entries (pinned_entries es) ≡ pinned_entries es
pinned_twice [] = refl
pinned_twice (e ∷ es) =
    (elim (is_unpinned e) as (λ u. is_unpinned e ≡ u
    → pinned_entries (cond (not u) (e ∷ pinned_entries es) (pinned_entries es))
    ≡ cond (not u) (e ∷ pinned_entries es) (pinned_entries es)) [
      | true ↦ λ is. pinned_twice es
      | false ↦ λ is. rw is (ap (λ l. e ∷ l) (pinned_twice es))
    ]) refl

-- when unpinned entries beyond a share leave, the pinned ones stay
pub stay-kept_within : (share : ℕ) (es : Entries) → KeepsPinned es (kept_within share es)
stay-kept_within share [] = refl
stay-kept_within share (e ∷ es) =
    (elim (nat_le (unpinned_bytes e.1) share) as (λ fits. nat_le (unpinned_bytes e.1) share ≡ fits
    → pinned_entries (cond fits (e ∷ kept_within (share - unpinned_bytes e.1) es) (filter is_pinned es))
    ≡ pinned_entries (e ∷ es)) [
      | true ↦ λ fits. elim (is_unpinned e) as (λ u. cond (not u)
          (e ∷ pinned_entries (kept_within (share - unpinned_bytes e.1) es))
          (pinned_entries (kept_within (share - unpinned_bytes e.1) es))
          ≡ cond (not u) (e ∷ pinned_entries es) (pinned_entries es)) [
            | true ↦ stay-kept_within (share - unpinned_bytes e.1) es
            | false ↦ ap (λ l. e ∷ l) (stay-kept_within (share - unpinned_bytes e.1) es)
          ]
      | false ↦ λ past.
          let large = leb-false (unpinned_bytes e.1) share past in
          rw (unpinned_has e.1 (omega arith)) (pinned_twice es)
    ]) refl

-- when stale entries leave, the pinned ones stay
pub stay-without_stale : (file below : ℕ) (es : Entries)
    → KeepsPinned es (without_stale file below es)
stay-without_stale file below [] = refl
stay-without_stale file below (e ∷ es) =
    (elim (is_unpinned e) as (λ u. is_unpinned e ≡ u → pinned_entries
    (cond (not (u && (file_of e.0 == file) && nat_lt (generation_of e.0) below))
    (e ∷ without_stale file below es) (without_stale file below es))
    ≡ cond (not u) (e ∷ pinned_entries es) (pinned_entries es)) [
      | true ↦ λ is. elim ((file_of e.0 == file) && nat_lt (generation_of e.0) below) as (λ s.
          pinned_entries (cond (not s) (e ∷ without_stale file below es) (without_stale file below es))
          ≡ pinned_entries es) [
            | true ↦ stay-without_stale file below es
            | false ↦ rw is (stay-without_stale file below es)
          ]
      | false ↦ λ is. rw is (ap (λ l. e ∷ l) (stay-without_stale file below es))
    ]) refl

-- when an entry leaves for a new tile, the pinned ones stay
stay-with_room : (tile : CachedTile) (slots : ℕ) (es : Entries)
    → KeepsPinned (with_first tile es) (with_first tile (with_room slots es))
stay-with_room tile slots es =
    elim (nat_le slots (length es)) as (λ full.
    pinned_entries (with_first tile (cond full (without_last_unpinned es) es))
    ≡ pinned_entries (with_first tile es)) [
      | true ↦ ap (λ l. (tile.key, new_entry tile) ∷ l) (filter_without es)
      | false ↦ refl
    ]

pub stay-inserted : (tile : CachedTile) (slots : ℕ) (es : Entries)
    → KeepsPinned (with_pin tile es) (inserted tile slots es)
stay-inserted tile slots es =
    elim (entry_at tile.key es) as (λ at. pinned_entries
    (option_map_or (λ (_ : EntryState). pinned_first tile.key es) at (with_first tile (with_room slots es)))
    ≡ pinned_entries (option_map_or (λ (_ : EntryState). pinned_first tile.key es) at (with_first tile es))) [
      | None ↦ stay-with_room tile slots es
      | Some e ↦ refl
    ]
