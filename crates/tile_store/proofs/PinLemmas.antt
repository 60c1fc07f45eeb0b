-- What a pin more or less on an entry leaves of the sums over the entries.
use Rattle.std.proofs.Common.{◌≡◌, ℕ, ◌+◌, ◌<◌, ◌≤◌, ◌^◌, nat_eq, ◌∷◌, length}
use Rattle.std.proofs.Common.{Option, Some, None, option_map, IsSomeAnd, IfSome, refl, sym, subst, arith}
use Rattle.std.specs.List.{All, sum_by}
use Rattle.std.specs.Map.{values_of, remove_entry}
use Rattle.std.proofs.lemmas.Bool.{eqb-true}
use Rattle.std.proofs.lemmas.Bool.Decides.{nat_tests}
use Rattle.std.proofs.lemmas.List.Elements.{All-cons}
use Rattle.std.proofs.lemmas.List.Sums.{sum_by-cons}
use Rattle.std.proofs.lemmas.Map.{length-set_value}
use Rattle.std.proofs.lemmas.Map.Entries.{sum_by-remove_entry, sum_by-set_value}
use Rattle.tile_store.specs.Tile.{CachedTile}
use Rattle.tile_store.specs.CachedTile.{EntryState, Entries, unpinned_bytes, pin_sum, loose_bytes}
use Rattle.tile_store.specs.CachedTile.{entry_at, unpinned_at}
use Rattle.tile_store.specs.Changes.{one_more, one_less, pinned_first, unpinned_once}
use Rattle.tile_store.specs.Inside.{CanPin}
use Rattle.tile_store.proofs.MapLemmas.{found as lookup_found}
use Rattle.tile_store.proofs.MapLemmas.{length-remove_entry, All-remove_entry, All-set_value, lookup-set_value_same}

-- a pinned entry has no unpinned bytes
pub no_bytes : (entry : EntryState) → 1 ≤ entry.pins → unpinned_bytes entry ≡ 0
no_bytes entry h = grind (arith, nat_tests)

-- the entry that is there
pub some_entry : (o : Option EntryState) (P : EntryState → Type 0) → IsSomeAnd o P
    → (e : EntryState) × (o ≡ Some e) × P e
some_entry None P h = absurd h
some_entry (Some e) P h = (e, refl, h)

module _ (key : ℕ) (es : Entries) (e : EntryState) (found : entry_at key es ≡ Some e) where
  sum_rest : (f : EntryState → ℕ)
      → sum_by f (values_of (remove_entry (nat_eq key) es)) + f e ≡ sum_by f (values_of es)
  sum_rest f = rw found at (sum_by-remove_entry f (nat_eq key) es)

  -- the entry that is found has what each entry has
  pub All-found : (P : ℕ × EntryState → Type 0) → All P es → P (key, e)
  All-found P all =
      let on = lookup_found (nat_eq key) P es e found all in
      let same : key ≡ on.key = eqb-true key on.key on.passes in
      subst (λ k. P (k, e)) (sym same) on.so

  pub pins-le : e.pins ≤ pin_sum es
  pins-le = omega (arith, sum_rest (λ n. n.pins))

  pub bytes-le : unpinned_bytes e ≤ loose_bytes es
  bytes-le = omega (arith, sum_rest unpinned_bytes)

  -- ---- one pin more, and first
  pub pinned_first-found : pinned_first key es ≡ (key, one_more e) ∷ remove_entry (nat_eq key) es
  pinned_first-found = rw found refl

  pub pin_sum-pinned_first : pin_sum (pinned_first key es) ≡ pin_sum es + 1
  pin_sum-pinned_first = rw found (omega (
    arith,
    sum_rest (λ n. n.pins),
    sum_by-cons (λ (n : EntryState). n.pins) (one_more e) (values_of (remove_entry (nat_eq key) es)),
  ))

  pub loose-pinned_first : loose_bytes (pinned_first key es) + unpinned_bytes e ≡ loose_bytes es
  loose-pinned_first = rw found (omega (
    arith,
    sum_rest unpinned_bytes,
    no_bytes (one_more e) (omega arith),
    sum_by-cons unpinned_bytes (one_more e) (values_of (remove_entry (nat_eq key) es)),
  ))

  pub length-pinned_first : length (pinned_first key es) ≡ length es
  length-pinned_first = rw found (omega (arith, length-remove_entry (nat_eq key) es e found))

  pub All-pinned_first : (P : ℕ × EntryState → Type 0) → (P (key, e) → P (key, one_more e)) → All P es
      → All P (pinned_first key es)
  All-pinned_first P more all = rw found (All-cons P (key, one_more e) (remove_entry (nat_eq key) es)
      (more (All-found P all)) (All-remove_entry (nat_eq key) P es all))

  -- ---- one pin less
  pub pin_sum-unpinned_once : 1 ≤ e.pins → pin_sum (unpinned_once key es) + 1 ≡ pin_sum es
  pin_sum-unpinned_once h = rw found (omega (
    arith,
    sum_by-set_value (λ (n : EntryState). n.pins) (nat_eq key) es e (one_less e) found,
  ))

  pub loose-unpinned_once : 1 ≤ e.pins
      → loose_bytes (unpinned_once key es) ≡ loose_bytes es + unpinned_bytes (one_less e)
  loose-unpinned_once h = rw found (omega (
    arith,
    no_bytes e h,
    sum_by-set_value unpinned_bytes (nat_eq key) es e (one_less e) found,
  ))

  pub unpinned_at-unpinned_once : unpinned_at key (unpinned_once key es) ≡ unpinned_bytes (one_less e)
  unpinned_at-unpinned_once =
      rw found (rw (lookup-set_value_same (nat_eq key) es e (one_less e) found) refl)

  pub length-unpinned_once : length (unpinned_once key es) ≡ length es
  length-unpinned_once = rw found (length-set_value (nat_eq key) es (one_less e))

  pub All-unpinned_once : (P : ℕ × EntryState → Type 0) → ((k : ℕ) → P (k, e) → P (k, one_less e))
      → All P es → All P (unpinned_once key es)
  All-unpinned_once P less all = rw found (All-set_value (nat_eq key) P es e (one_less e) found less all)

-- ---- none or one

pub can_pin_at : (o : Option EntryState) (n : ℕ) → ((e : EntryState) → o ≡ Some e → e.pins ≤ n)
    → n + 1 < 2 ^ 32 → IfSome o (λ e. e.pins + 1 < 2 ^ 32)
can_pin_at None n le h = tt
can_pin_at (Some e) n le h = let fits = le e refl in omega arith

pub can_pin : (key : ℕ) (es : Entries) → pin_sum es + 1 < 2 ^ 32 → CanPin key es
can_pin key es h = can_pin_at (entry_at key es) (pin_sum es) (pins-le key es) h

-- the entry of a tile that was found
pub entry_from_tile : (o : Option EntryState) (tile : CachedTile)
    → Some tile ≡ option_map (λ (e : EntryState). e.tile) o → (e : EntryState) × (o ≡ Some e) × (tile ≡ e.tile)
entry_from_tile None tile h = absurd cc
entry_from_tile (Some e) tile h = (e, refl, cc)
