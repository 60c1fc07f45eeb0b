-- The pins in the words of the slots, which are those of all seats, are those of the entries.
use Rattle.std.proofs.Common.{◌≡◌, ◌≢◌, ℕ, zero, suc, ◌+◌, ◌<◌, ◌≤◌, cond, nat_eq, List, [], ◌∷◌}
use Rattle.std.proofs.Common.{◌++◌, length, map, Option, Some, None, get_or, refl, sym, ap, ◌∙◌}
use Rattle.std.proofs.Common.{ne_eqb, arith}
use Rattle.std.specs.Prelude.{slice_index, slice_index_or, Contains}
use Rattle.std.specs.List.{sum_by}
use Rattle.std.proofs.lemmas.Bool.{eq-eqb}
use Rattle.std.proofs.lemmas.List.{length-map}
use Rattle.std.proofs.lemmas.List.Sums.{sum_by-cons}
use mathlib.Core.Logic.{dite}
use native.Mathlib.Decide.{ℕ_discrete}
use mathlib.Core.Option.{some, some-injective, some-ne-none}
use lib.ListN.{get_elem?}
use Rattle.tile_store.specs.Keys.{key_in, slot_of}
use Rattle.tile_store.specs.Slots.{ShardState, AreInSlots}
use Rattle.tile_store.proofs.KeyLemmas.{slot_has, slot_by}
use Rattle.shard_gate.specs.declared.standing.Standing.{Standing}
use Rattle.shard_gate.specs.Words.{SlotWords, AreHeld, key_word, keys_of_pins, pins_on}
use Rattle.shard_gate.specs.Seated.{SeatAt}
use Rattle.shard_gate.specs.Kept.{keys_of_seats}
use Rattle.shard_gate.specs.Home.{pins_at, pins_in, words_of}
use Rattle.shard_gate.specs.Steps.{AreKeyed, AllKeyed, ArePinsIn}
use Rattle.shard_gate.specs.Everyone.{times, ArePinsOfAll}
use Rattle.shard_gate.proofs.EntryLemmas.{key_at, key_from, pins_of_slot, pins_none}
use Rattle.shard_gate.proofs.SlotLemmas.{slot_word}

-- ---- all seats of a table

-- the pins of a seat
abbrev pub pins_of : Standing → List (ℕ × ℕ)
pins_of v = v.pins

pins_sum : (slot : ℕ) (views : List Standing)
    → sum_by (pins_on slot) (map pins_of views) ≡ sum_by (λ (v : Standing). pins_on slot v.pins) views
pins_sum slot [] = refl
pins_sum slot (v ∷ views) = omega (
  arith,
  sum_by-cons (pins_on slot) v.pins (map pins_of views),
  sum_by-cons (λ (v : Standing). pins_on slot v.pins) v views,
  pins_sum slot views,
)

own_pins_at : (views : List Standing) (id : ℕ) (v : Standing) → get_elem? views id ≡ some v
    → slice_index_or (map pins_of views) id [] ≡ v.pins
own_pins_at [] id v at = absurd (some-ne-none v (sym at))
own_pins_at (w ∷ views) zero v at = ap pins_of (some-injective w v at)
own_pins_at (w ∷ views) (suc id) v at = own_pins_at views id v at

own_inside : (views : List Standing) (id : ℕ) (v : Standing) → get_elem? views id ≡ some v
    → id < length (map pins_of views)
own_inside [] id v at = absurd (some-ne-none v (sym at))
own_inside (w ∷ views) zero v at = omega arith
own_inside (w ∷ views) (suc id) v at = omega (arith, own_inside views id v at)

module _ (words : List ℕ) (known : SlotWords)
    (keys : (slot : ℕ) → slice_index words (key_word slot) ≡ slice_index known.keys slot) where
  keyed_as : (pins : List (ℕ × ℕ)) → AreHeld words pins → AreKeyed known pins
  keyed_as [] held = tt
  keyed_as (p ∷ pins) held = (sym (keys p.0) ∙ held.0, held.1, keyed_as pins held.2)

  all_keyed : (views : List Standing)
      → ((seat : ℕ) (v : Standing) → get_elem? views seat ≡ some v → AreHeld words v.pins)
      → AllKeyed known (map pins_of views)
  all_keyed [] held = tt
  all_keyed (v ∷ views) held =
      (keyed_as v.pins (held zero v refl), all_keyed views (λ seat w e. held (suc seat) w e))

  -- The pins in the words are those of all seats.
  pub all_pins : (views : List Standing) (id : ℕ) (v : Standing) → get_elem? views id ≡ some v
      → ((seat : ℕ) (w : Standing) → get_elem? views seat ≡ some w → AreHeld words w.pins)
      → ((slot : ℕ) → slice_index known.pins slot
      ≡ sum_by (λ (w : Standing). pins_on slot w.pins) views)
      → ArePinsIn v.pins known
  all_pins views id v at held sum = record {
    seats = map pins_of views;
    mine = id;
    inside = own_inside views id v at;
    own = own_pins_at views id v at;
    keyed = all_keyed views held;
    sum = λ slot. sum slot ∙ sym (pins_sum slot views);
  }

-- ---- the entries of a shard

module _ (s : ShardState) (in_slots : AreInSlots s) where
  -- a pin on a key is on the slot that has the key
  key_there : (key : ℕ) (p : ℕ × ℕ) → slice_index (words_of s).keys p.0 ≡ p.1 → 1 ≤ p.1
      → p.1 ≡ key → key_in s.slots p.0 ≡ Some key
  key_there key p is low e =
      key_from (key_in s.slots p.0) key (sym (key_at s.slots p.0) ∙ (is ∙ e)) (omega (arith, low, e))

  times_at : (key slot : ℕ) → slot_of key s.slots ≡ Some slot → (pins : List (ℕ × ℕ))
      → AreKeyed (words_of s) pins → times key (keys_of_pins pins) ≡ pins_on slot pins
  times_at key slot is [] keyed = refl
  times_at key slot is (p ∷ pins) keyed =
      let one : cond {A = ℕ} (nat_eq p.1 key) 1 0 ≡ cond (nat_eq p.0 slot) 1 0 =
      dite (ℕ_discrete p.0 slot)
      (λ (e : p.0 ≡ slot).
      let same : p.1 ≡ key =
      sym keyed.0 ∙ (ap (slice_index (words_of s).keys) e ∙ slot_word s s in_slots key slot is) in
      ap (λ b. cond {A = ℕ} b 1 0) (eq-eqb p.1 key same ∙ sym (eq-eqb p.0 slot e)))
      (λ (ne : p.0 ≢ slot).
      let other : p.1 ≢ key = λ e. ne (in_slots.apart p.0 slot key
      (key_there key p keyed.0 keyed.1 e) (slot_has key s.slots slot is)) in
      ap (λ b. cond {A = ℕ} b 1 0) (ne_eqb p.1 key other ∙ sym (ne_eqb p.0 slot ne))) in
      λ i. one i + times_at key slot is pins keyed.2 i

  times_none : (key : ℕ) → slot_of key s.slots ≡ None → (pins : List (ℕ × ℕ))
      → AreKeyed (words_of s) pins → times key (keys_of_pins pins) ≡ 0
  times_none key none [] keyed = refl
  times_none key none (p ∷ pins) keyed =
      let other : p.1 ≢ key = λ e.
      let both : None ≡ Some p.0 = sym none
      ∙ slot_by s.slots in_slots.apart key p.0 (key_there key p keyed.0 keyed.1 e) in
      absurd cc in
      let one : cond {A = ℕ} (nat_eq p.1 key) 1 0 ≡ 0 =
      ap (λ b. cond {A = ℕ} b 1 0) (ne_eqb p.1 key other) in
      λ i. one i + times_none key none pins keyed.2 i

  sum_at : (key slot : ℕ) → slot_of key s.slots ≡ Some slot → (seats : List (List (ℕ × ℕ)))
      → AllKeyed (words_of s) seats
      → sum_by (times key) (map keys_of_pins seats) ≡ sum_by (pins_on slot) seats
  sum_at key slot is [] keyed = refl
  sum_at key slot is (pins ∷ seats) keyed = omega (
    arith,
    sum_by-cons (times key) (keys_of_pins pins) (map keys_of_pins seats),
    sum_by-cons (pins_on slot) pins seats,
    times_at key slot is pins keyed.0,
    sum_at key slot is seats keyed.1,
  )

  sum_none : (key : ℕ) → slot_of key s.slots ≡ None → (seats : List (List (ℕ × ℕ)))
      → AllKeyed (words_of s) seats → sum_by (times key) (map keys_of_pins seats) ≡ 0
  sum_none key none [] keyed = refl
  sum_none key none (pins ∷ seats) keyed = omega (
    arith,
    sum_by-cons (times key) (keys_of_pins pins) (map keys_of_pins seats),
    times_none key none pins keyed.0,
    sum_none key none seats keyed.1,
  )

  keys_at : (seats : List (List (ℕ × ℕ))) (k : ℕ)
      → slice_index_or (map keys_of_pins seats) k [] ≡ keys_of_pins (slice_index_or seats k [])
  keys_at [] k = refl
  keys_at (pins ∷ seats) zero = refl
  keys_at (pins ∷ seats) (suc k) = keys_at seats k

  module _ (own : List (ℕ × ℕ)) (are : ArePinsIn own (words_of s)) where
    pins_by : (key : ℕ) (o : Option ℕ) → slot_of key s.slots ≡ o
        → pins_at key s.entries ≡ sum_by (times key) (map keys_of_pins are.seats)
    pins_by key None none =
        pins_none key s.entries (in_slots.none key none)
        ∙ sym (sum_none key none are.seats are.keyed)
    pins_by key (Some slot) is =
        sym (pins_of_slot s.entries s.slots slot
        ∙ ap (pins_in s.entries) (slot_has key s.slots slot is))
        ∙ (are.sum slot ∙ sym (sum_at key slot is are.seats are.keyed))

    -- The pins of the entries are those of all seats.
    pub entries_pins : ArePinsOfAll (keys_of_pins own) s.entries
    entries_pins = record {
      seats = map keys_of_pins are.seats;
      mine = are.mine;
      inside = omega (arith, are.inside, length-map {A = List (ℕ × ℕ)} {B = List ℕ});
      own = keys_at are.seats are.mine ∙ ap keys_of_pins are.own;
      all = λ key. pins_by key (slot_of key s.slots) refl;
    }

-- ---- the seats of one caller

times_append : (key : ℕ) (a b : List ℕ) → times key (a ++ b) ≡ times key a + times key b
times_append key [] b = omega arith
times_append key (k ∷ a) b = omega (arith, times_append key a b)

times_absent : (key : ℕ) (keys : List ℕ) → (Contains keys key → ⊥) → times key keys ≡ 0
times_absent key [] out = refl
times_absent key (k ∷ keys) out =
    let one : cond {A = ℕ} (nat_eq k key) 1 0 ≡ 0 =
    ap (λ b. cond {A = ℕ} b 1 0) (ne_eqb k key (λ e. out (zero, omega arith, e))) in
    λ i. one i + times_absent key keys (λ is. out (suc is.0, omega (arith, is.1), is.2)) i

elsewhere : (seats : List SeatAt) (key : ℕ) (d : SeatAt)
    → ((j : ℕ) → j < length seats → Contains (get_or seats j d).pins key → ⊥)
    → times key (keys_of_seats seats) ≡ 0
elsewhere [] key d out = refl
elsewhere (s ∷ seats) key d out = omega (
  arith,
  times_append key s.pins (keys_of_seats seats),
  times_absent key s.pins (out zero (omega arith)),
  elsewhere seats key d (λ j low. out (suc j) (omega (arith, low))),
)

-- A key that is pinned at one shard alone is pinned there as often as at all shards.
pub times_here : (seats : List SeatAt) (k key : ℕ) (d : SeatAt) → k < length seats
    → ((j : ℕ) → j < length seats → j ≢ k → Contains (get_or seats j d).pins key → ⊥)
    → times key (get_or seats k d).pins ≡ times key (keys_of_seats seats)
times_here [] k key d low out = absurd (omega arith)
times_here (s ∷ seats) zero key d low out = omega (
  arith,
  times_append key s.pins (keys_of_seats seats),
  elsewhere seats key d (λ j inside. out (suc j) (omega (arith, inside)) (λ e. absurd (omega arith))),
)
times_here (s ∷ seats) (suc k) key d low out = omega (
  arith,
  times_append key s.pins (keys_of_seats seats),
  times_absent key s.pins (out zero (omega arith) (λ e. absurd (omega arith))),
  times_here seats k key d (omega arith)
      (λ j inside ne. out (suc j) (omega (arith, inside)) (λ e. ne (omega (arith, e)))),
)
