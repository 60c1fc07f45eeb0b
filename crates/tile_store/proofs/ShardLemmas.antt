-- What each call leaves of the numbers of a shard.
use Rattle.std.proofs.Common.{◌≡◌, ℕ, ◌+◌, ◌-◌, ◌*◌, ◌<◌, ◌≤◌, ◌^◌, ◌&&◌, ◌==◌, Bool, true, false, cond, not, nat_eq, nat_lt, nat_le}
use Rattle.std.proofs.Common.{List, [], ◌∷◌, length, Option, Some, None, refl, sym, ap, ◌∙◌, subst, arith}
use Rattle.std.specs.List.{All, list_any, filter}
use Rattle.std.specs.Option.{option_map_or}
use Rattle.std.specs.Map.{values_of}
use Rattle.std.proofs.lemmas.Bool.{eqb-true, leb-true, leb-false}
use Rattle.std.proofs.lemmas.Bool.Decides.{nat_tests}
use Rattle.std.proofs.lemmas.List.Elements.{All-cons, All-head, All-tail, All-filter}
use Rattle.std.proofs.lemmas.List.Sums.{sum_by-cons, length-filter, count_by-le-length}
use Rattle.tile_layout.specs.Cell.{max_cell_bytes}
use Rattle.tile_layout.specs.Key.{generation_of, file_of}
use Rattle.tile_store.specs.Tile.{CachedTile, tile_bytes}
use Rattle.tile_store.specs.CachedTile.{EntryState, Entries, unpinned_bytes, pin_sum, loose_bytes}
use Rattle.tile_store.specs.CachedTile.{entry_at, unpinned_at, IsEntry, is_unpinned, is_pinned, pinned_count}
use Rattle.tile_store.specs.Changes.{pinned_first, unpinned_once, with_first, with_room, kept_within}
use Rattle.tile_store.specs.Changes.{without_last_unpinned, without_stale, is_stale, one_less, inserted}
use Rattle.tile_store.specs.Changes.{new_entry}
use Rattle.tile_store.specs.Marks.{HasMark, IsOfOther, marked, unmarked}
use Rattle.tile_store.specs.Inside.{IsShard}
use Rattle.tile_store.proofs.MarkLemmas.{marked_own, noted_more, noted_kept}
use Rattle.tile_store.proofs.PinLemmas.{pin_sum-pinned_first, loose-pinned_first, length-pinned_first}
use Rattle.tile_store.proofs.PinLemmas.{All-pinned_first, pin_sum-unpinned_once, loose-unpinned_once}
use Rattle.tile_store.proofs.PinLemmas.{unpinned_at-unpinned_once, length-unpinned_once}
use Rattle.tile_store.proofs.PinLemmas.{All-unpinned_once, bytes-le}
use Rattle.tile_store.proofs.EvictLemmas.{or_false, pin_sum-without_last, length-without_last}
use Rattle.tile_store.proofs.EvictLemmas.{All-without_last}
use Rattle.tile_store.proofs.WithinLemmas.{pin_sum-kept_within, All-kept_within, filter_pins}

-- ---- counts

unpinned_le : (o : Option EntryState) (n : ℕ) → ((e : EntryState) → o ≡ Some e → unpinned_bytes e ≤ n)
    → option_map_or unpinned_bytes o 0 ≤ n
unpinned_le None n le = omega arith
unpinned_le (Some e) n le = le e refl

-- the bytes of one entry are among those of all
pub unpinned_at-le : (key : ℕ) (es : Entries) → unpinned_at key es ≤ loose_bytes es
unpinned_at-le key es = unpinned_le (entry_at key es) (loose_bytes es) (bytes-le key es)

-- no more entries are pinned than there are pins
pub pinned_count-le : (es : Entries) → pinned_count es ≤ pin_sum es
pinned_count-le [] = omega arith
pinned_count-le (e ∷ es) = grind (
  arith,
  nat_tests,
  pinned_count-le es,
  sum_by-cons (λ x. cond (is_pinned x) 1 0) e es,
  sum_by-cons (λ (n : EntryState). n.pins) e.1 (values_of es),
)

pinned_all : (es : Entries) → list_any is_unpinned es ≡ false → pinned_count es ≡ length es
pinned_all [] h = refl
pinned_all (e ∷ es) h =
    let parts = or_false (is_unpinned e) (list_any is_unpinned es) h in
    let one : cond {A = ℕ} (is_pinned e) 1 0 ≡ 1 = rw parts.0 refl in
    omega (arith, one, pinned_all es parts.1, sum_by-cons (λ x. cond (is_pinned x) 1 0) e es)

true_by : (b : Bool) → (b ≡ false → ⊥) → b ≡ true
true_by true h = refl
true_by false h = absurd (h refl)

-- if fewer entries are pinned than there are, some entry is unpinned
pub any_by_count : (es : Entries) → pinned_count es < length es → list_any is_unpinned es ≡ true
any_by_count es h =
    true_by (list_any is_unpinned es) (λ none. let all = pinned_all es none in omega arith)

small_entry : (e : EntryState) → tile_bytes e.tile ≤ max_cell_bytes
    → unpinned_bytes e ≤ max_cell_bytes
small_entry e h = elim (e.pins == 0) as (λ b. cond b (tile_bytes e.tile) 0 ≤ max_cell_bytes) [
  | true ↦ h
  | false ↦ omega arith
]

pub loose-bound : (es : Entries) → All IsEntry es → loose_bytes es ≤ length es * max_cell_bytes
loose-bound [] all = omega arith
loose-bound (e ∷ es) all =
    let head = All-head IsEntry e es all in
    let high = head.bytes in
    let rest = loose-bound es (All-tail IsEntry e es all) in
    let small : unpinned_bytes e.1 ≤ max_cell_bytes = small_entry e.1 high in
    omega (arith, sum_by-cons unpinned_bytes e.1 (values_of es))

pub length-kept_within : (share : ℕ) (es : Entries) → length (kept_within share es) ≤ length es
length-kept_within share [] = omega arith
length-kept_within share (e ∷ es) =
    elim (nat_le (unpinned_bytes e.1) share) as (λ fits. length (cond fits
    (e ∷ kept_within (share - unpinned_bytes e.1) es) (filter is_pinned es)) ≤ length (e ∷ es)) [
      | true ↦ omega (arith, length-kept_within (share - unpinned_bytes e.1) es)
      | false ↦ omega (arith, length-filter is_pinned es, count_by-le-length is_pinned es)
    ]

-- a tile whose key has no entry
pub inserted-new : (tile : CachedTile) (slots : ℕ) (es : Entries) → entry_at tile.key es ≡ None
    → inserted tile slots es ≡ with_first tile (with_room slots es)
inserted-new tile slots es none = rw none refl

-- a key without an entry still has none after an entry left
absent_without_last : (key : ℕ) (es : Entries) → entry_at key es ≡ None
    → entry_at key (without_last_unpinned es) ≡ None
absent_without_last key [] none = refl
absent_without_last key (e ∷ es) none =
    (elim (nat_eq key e.0) as (λ b. nat_eq key e.0 ≡ b → cond b (Some e.1) (entry_at key es) ≡ None
    → entry_at key (without_last_unpinned (e ∷ es)) ≡ None) [
      | true ↦ λ _ some. absurd cc
      | false ↦ λ other rest.
          elim (list_any is_unpinned es) as (λ b. entry_at key (cond b (e ∷ without_last_unpinned es)
          (cond (is_unpinned e) es (e ∷ es))) ≡ None) [
            | true ↦ rw other (absent_without_last key es rest)
            | false ↦ elim (is_unpinned e) as (λ u. entry_at key (cond u es (e ∷ es)) ≡ None) [
              | true ↦ rest
              | false ↦ rw other rest
            ]
          ]
    ]) refl none

pub absent_with_room : (key slots : ℕ) (es : Entries) → entry_at key es ≡ None
    → entry_at key (with_room slots es) ≡ None
absent_with_room key slots es none =
    elim (nat_le slots (length es)) as (λ full. entry_at key (cond full (without_last_unpinned es) es) ≡ None) [
      | true ↦ absent_without_last key es none
      | false ↦ none
    ]

-- one more entry fits
record HasRoom (slots : ℕ) (es : Entries) : Type 0 where
  pins : pin_sum (with_room slots es) ≡ pin_sum es
  few : length (with_room slots es) + 1 < 2 ^ 32

with_room-has : (slots : ℕ) (es : Entries) → length es < 2 ^ 32 → pinned_count es < slots
    → slots < 2 ^ 32 → HasRoom slots es
with_room-has slots es short room fits =
    (elim (nat_le slots (length es)) as (λ full. nat_le slots (length es) ≡ full
    → HasRoom slots es) [
      | true ↦ λ is.
          let full = leb-true slots (length es) is in
          let some = any_by_count es (omega arith) in
          record {
            pins = rw is (pin_sum-without_last es);
            few = rw is (omega (arith, length-without_last es some));
          }
      | false ↦ λ is.
          let free = leb-false slots (length es) is in
          record { pins = rw is refl; few = rw is (omega arith) }
    ]) refl

pub All-with_room : (P : ℕ × EntryState → Type 0) (slots : ℕ) (es : Entries) → All P es
    → All P (with_room slots es)
All-with_room P slots es all =
    elim (nat_le slots (length es)) as (λ full. All P (cond full (without_last_unpinned es) es)) [
      | true ↦ All-without_last P es all
      | false ↦ all
    ]

and_first : (a b c : Bool) → (a && b && c) ≡ true → a ≡ true
and_first true b c h = refl
and_first false b c h = absurd cc

not_false : (b : Bool) → not b ≡ false → b ≡ true
not_false true h = refl
not_false false h = absurd cc

pin_sum-without_stale : (file below : ℕ) (es : Entries)
    → pin_sum (without_stale file below es) ≡ pin_sum es
pin_sum-without_stale file below = filter_pins (λ e. not (is_stale file below e)) (λ e h.
    eqb-true e.1.pins 0 (and_first (is_unpinned e) (file_of e.0 == file) (nat_lt (generation_of e.0) below)
    (not_false (is_stale file below e) h)))

-- ---- the numbers of a shard

module _ (es : Entries) (marks : List Bool) (pins loose : ℕ) (is : IsShard es marks pins loose) where
  pins_are : pins ≡ pin_sum es
  pins_are = is.pins_is

  loose_are : loose ≡ loose_bytes es
  loose_are = is.loose_is

  all_keyed : All IsEntry es
  all_keyed = is.keyed

  few : length es < 2 ^ 32
  few = is.few

  all_noted : All (HasMark marks) es
  all_noted = is.noted

  pub loose_fits : loose < 2 ^ 57
  loose_fits = omega (arith, loose_are, few, loose-bound es all_keyed)

  module _ (new : Entries) where
    pub shard_pinned : (key : ℕ) (e : EntryState) → entry_at key es ≡ Some e
        → new ≡ pinned_first key es
        → IsShard new marks (pins + 1) (loose - unpinned_at key es)
    shard_pinned key e found entries =
        let bytes : unpinned_at key es ≡ unpinned_bytes e = rw found refl in
        record {
          pins_is = omega (
            arith,
            pins_are,
            ap pin_sum entries,
            pin_sum-pinned_first key es e found,
          );
          loose_is = omega (
            arith,
            loose_are,
            bytes,
            ap loose_bytes entries,
            loose-pinned_first key es e found,
          );
          keyed = subst (All IsEntry) (sym entries) (All-pinned_first key es e found IsEntry
              (λ p. record { key = p.key; bytes = p.bytes }) all_keyed);
          few = omega (arith, few, ap length entries, length-pinned_first key es e found);
          noted = subst (All (HasMark marks)) (sym entries)
              (All-pinned_first key es e found (HasMark marks) (λ p. p) all_noted);
        }

    pub shard_unpinned : (key : ℕ) (e : EntryState) → entry_at key es ≡ Some e → 1 ≤ e.pins
        → new ≡ unpinned_once key es
        → IsShard new marks (pins - 1) (loose + unpinned_at key new)
    shard_unpinned key e found some entries =
        let bytes : unpinned_at key new ≡ unpinned_bytes (one_less e) =
        ap (unpinned_at key) entries ∙ unpinned_at-unpinned_once key es e found in
        record {
          pins_is = omega (
            arith,
            pins_are,
            ap pin_sum entries,
            pin_sum-unpinned_once key es e found some,
          );
          loose_is = omega (
            arith,
            loose_are,
            bytes,
            ap loose_bytes entries,
            loose-unpinned_once key es e found some,
          );
          keyed = subst (All IsEntry) (sym entries) (All-unpinned_once key es e found IsEntry
              (λ k p. record { key = p.key; bytes = p.bytes }) all_keyed);
          few = omega (arith, few, ap length entries, length-unpinned_once key es e found);
          noted = subst (All (HasMark marks)) (sym entries)
              (All-unpinned_once key es e found (HasMark marks) (λ k p. p) all_noted);
        }

    pub shard_within : (share left : ℕ) → new ≡ kept_within share es
        → left ≡ loose_bytes new → IsShard new marks pins left
    shard_within share left entries sum = record {
      pins_is = omega (arith, pins_are, ap pin_sum entries, pin_sum-kept_within share es);
      loose_is = sum;
      keyed = subst (All IsEntry) (sym entries) (All-kept_within IsEntry share es all_keyed);
      few = omega (arith, few, ap length entries, length-kept_within share es);
      noted = subst (All (HasMark marks)) (sym entries) (All-kept_within (HasMark marks) share es all_noted);
    }

    pub shard_inserted : (tile : CachedTile) (slots bytes : ℕ) → tile_bytes tile ≤ max_cell_bytes
        → file_of tile.key < length marks
        → pinned_count es < slots → slots < 2 ^ 32
        → new ≡ with_first tile (with_room slots es)
        → loose_bytes (with_room slots es) + bytes ≡ loose_bytes es
        → IsShard new (marked (file_of tile.key) marks) (pins + 1) (loose - bytes)
    shard_inserted tile slots bytes small known room fits entries sum =
        let roomy = with_room-has slots es (omega arith) room fits in
        let file : ℕ = file_of tile.key in
        record {
          pins_is = omega (
            arith,
            pins_are,
            ap pin_sum entries,
            roomy.pins,
            sum_by-cons (λ (n : EntryState). n.pins) (new_entry tile) (values_of (with_room slots es)),
          );
          loose_is = omega (
            arith,
            loose_are,
            sum,
            ap loose_bytes entries,
            sum_by-cons unpinned_bytes (new_entry tile) (values_of (with_room slots es)),
          );
          keyed = subst (All IsEntry) (sym entries) (All-cons IsEntry (tile.key, new_entry tile)
              (with_room slots es) (record { key = refl; bytes = small })
              (All-with_room IsEntry slots es all_keyed));
          few = omega (arith, ap length entries, roomy.few);
          noted = subst (All (HasMark (marked file marks))) (sym entries)
              (All-cons (HasMark (marked file marks)) (tile.key, new_entry tile) (with_room slots es)
              (marked_own file marks known)
              (All-with_room (HasMark (marked file marks)) slots es (noted_more file marks es known all_noted)));
        }

    pub shard_purged : (file below bytes : ℕ) (stays : Bool) → new ≡ without_stale file below es
        → loose_bytes new + bytes ≡ loose_bytes es → (stays ≡ false → All (IsOfOther file) new)
        → IsShard new (cond stays marks (unmarked file marks)) pins (loose - bytes)
    shard_purged file below bytes stays entries sum others = record {
      pins_is = omega (arith, pins_are, ap pin_sum entries, pin_sum-without_stale file below es);
      loose_is = omega (arith, loose_are, sum);
      keyed = subst (All IsEntry) (sym entries)
          (All-filter (λ e. not (is_stale file below e)) IsEntry es all_keyed);
      few = omega (
        arith,
        few,
        ap length entries,
        length-filter (λ e. not (is_stale file below e)) es,
        count_by-le-length (λ e. not (is_stale file below e)) es,
      );
      noted = noted_kept file marks new stays others (subst (All (HasMark marks)) (sym entries)
          (All-filter (λ e. not (is_stale file below e)) (HasMark marks) es all_noted));
    }
