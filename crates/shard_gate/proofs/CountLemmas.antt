-- How are a seat's pins related to the sum of the pins of a shard's entries?
use Rattle.std.proofs.Common.{◌≡◌, ℕ, ◌≤◌, true, false, cond, nat_eq, List, [], ◌∷◌, length}
use Rattle.std.proofs.Common.{Some, refl, sym, ap, ◌∙◌, arith}
use Rattle.std.specs.Prelude.{slice_index}
use Rattle.std.specs.List.{IsDistinct, sum_by}
use Rattle.std.specs.Map.{keys_of}
use Rattle.std.proofs.lemmas.Bool.{eqb-true, eq-eqb}
use Rattle.std.proofs.lemmas.List.Sums.{sum_by-cons}
use Rattle.tile_store.specs.CachedTile.{EntryState, Entries, entry_at, pin_sum}
use Rattle.tile_store.specs.Keys.{slot_of}
use Rattle.tile_store.specs.Slots.{ShardState, AreInSlots}
use Rattle.shard_gate.specs.declared.standing.Standing.{Standing}
use Rattle.shard_gate.specs.Words.{AreAmong, pins_on}
use Rattle.shard_gate.specs.Steps.{HasOwnPins}
use Rattle.shard_gate.specs.Home.{words_of}
use Rattle.shard_gate.proofs.EntryLemmas.{one_for, one_for_same}
use Rattle.shard_gate.proofs.HomeLemmas.{number_of, slots_of_entries, slots_distinct, slots_sum}
use Rattle.shard_gate.proofs.HomeLemmas.{are_found, is_there}
use Rattle.shard_gate.proofs.SumLemmas.{sum_plus, sum_same, sum_less, pins_of_seat}

module _ (s : ShardState) (in_slots : AreInSlots s) where
  -- the slots of some entries
  abbrev slots_in : Entries → List ℕ
  slots_in es = slots_of_entries s in_slots es

  -- The slot of an entry is one of those of all entries.
  slot_among : (key slot : ℕ) (e : EntryState) (es : Entries) → entry_at key es ≡ Some e
      → slot_of key s.slots ≡ Some slot → 1 ≤ sum_by (one_for slot) (slots_in es)
  slot_among key slot e [] found is = absurd cc
  slot_among key slot e (f ∷ es) found is =
      let first = number_of (slot_of f.0 s.slots) in
      let more = sum_by-cons (one_for slot) first (slots_in es) in
      (elim (nat_eq key f.0) as (λ b. nat_eq key f.0 ≡ b → cond b (Some f.1) (entry_at key es) ≡ Some e
      → 1 ≤ sum_by (one_for slot) (slots_in (f ∷ es))) [
        | true ↦ λ same _.
            let here : slot ≡ first =
            sym (ap number_of is) ∙ ap (λ k. number_of (slot_of k s.slots)) (eqb-true key f.0 same) in
            omega (arith, more, sym (ap (one_for slot) here) ∙ one_for_same slot)
        | false ↦ λ _ later. omega (arith, more, slot_among key slot e es later is)
      ]) refl found

  -- Each pin is of a slot of an entry.
  pins_among : (pins : List (ℕ × ℕ)) → AreAmong (words_of s) pins
      → length pins ≤ sum_by (λ slot. pins_on slot pins) (slots_in s.entries)
  pins_among [] among = omega arith
  pins_among (p ∷ ps) among =
      let own : cond {A = ℕ} (nat_eq p.0 p.0) 1 0 ≡ 1 =
      ap (λ b. cond {A = ℕ} b 1 0) (eq-eqb p.0 p.0 refl) in
      let there = is_there p.1 s (p ∷ ps) in_slots (record {
        slot = p.0;
        key_is = among.0;
        some = among.1;
        pin = among.2;
        own = omega arith;
      }) in
      omega (
        arith,
        sum_plus (λ slot. pins_on slot (p ∷ ps)) (one_for p.0) (λ slot. pins_on slot ps)
            (slots_in s.entries) (λ _. refl),
        slot_among p.1 p.0 there.entry s.entries there.found there.slot_is,
        pins_among ps among.3,
      )

  module _ (v : Standing) (distinct : IsDistinct nat_eq (keys_of s.entries))
      (own : HasOwnPins v (words_of s)) where
    abbrev all_slots : List ℕ
    all_slots = slots_in s.entries

    words_sum : sum_by (λ slot. slice_index (words_of s).pins slot) all_slots ≡ pin_sum s.entries
    words_sum = slots_sum s in_slots s.entries (are_found s.entries distinct)

    -- A seat has no more pins than the entries have,
    pub own_in_sum : AreAmong (words_of s) v.pins → length v.pins ≤ pin_sum s.entries
    own_in_sum among = omega (
      arith,
      pins_among v.pins among,
      sum_less (λ slot. pins_on slot v.pins) (λ slot. slice_index (words_of s).pins slot) all_slots
          own.own,
      words_sum,
    )

    -- the seat's pins are all pins, if it has all permits
    pub all_in_sum : AreAmong (words_of s) v.pins → v.permits ≡ v.passes
        → pin_sum s.entries ≡ length v.pins
    all_in_sum among all = omega (
      arith,
      own_in_sum among,
      sum_same (λ slot. slice_index (words_of s).pins slot) (λ slot. pins_on slot v.pins) all_slots
          (own.alone all),
      pins_of_seat v.pins all_slots
          (slots_distinct s in_slots s.entries distinct (are_found s.entries distinct)),
      words_sum,
    )
