-- What tiles that leave make of the words of the slots, and what telling those makes of that.
use Rattle.std.proofs.Common.{◌≡◌, ◌≢◌, ℕ, zero, suc, ◌+◌, ◌-◌, ◌<◌, ◌≤◌, Bool, true, false}
use Rattle.std.proofs.Common.{nat_eq, List, [], ◌∷◌, length, map, set, Option, Some}
use Rattle.std.proofs.Common.{None, ◌++◌, ◌||◌, refl, sym, ap, subst, ◌∙◌, arith}
use Rattle.std.specs.Prelude.{slice_index}
use Rattle.std.specs.List.{IsDistinct}
use Rattle.std.specs.Map.{keys_of}
use Rattle.std.proofs.lemmas.Bool.{false≢true}
use Rattle.std.proofs.lemmas.List.{length-set, get_or-set_same, get_or-set_other}
use mathlib.Core.Logic.{dite}
use native.Mathlib.Decide.{ℕ_discrete}
use Rattle.tile_store.specs.CachedTile.{EntryState, Entries, entry_at}
use Rattle.tile_store.specs.Changes.{unpinned_once}
use Rattle.tile_store.specs.Changes.{KeepsPinned}
use Rattle.tile_store.specs.Links.{is_in}
use Rattle.tile_store.specs.Keys.{key_in, slot_of}
use Rattle.tile_store.specs.Slots.{ShardState, AreInSlots, EmptiesSlots}
use Rattle.tile_store.proofs.KeyLemmas.{slot_has, no_slot}
use Rattle.shard_gate.specs.Words.{SlotWords, unpinned_words, keyed_words}
use Rattle.shard_gate.specs.Home.{key_number, pins_at, pins_in, words_of}
use Rattle.shard_gate.specs.Work.{AreBehind}
use Rattle.shard_gate.proofs.EntryLemmas.{long_as, same_items, key_at, pins_of_slot, one_for, pins_none, one_for_same, pins_less, keys_unpinned, pins_same}
use Rattle.shard_gate.proofs.SlotLemmas.{pins_set, slot_low, other_key, less_pins}
use Rattle.shard_gate.proofs.WordLemmas.{head_in, tail_in}

module _ (s new : ShardState) (in_slots : AreInSlots s) where
  -- ---- tiles leave

  module _ (mid : Entries) (new_slots : AreInSlots new) (none_left : s.left ≡ [])
      (empties : EmptiesSlots s new) (distinct : IsDistinct nat_eq (keys_of mid))
      (new_distinct : IsDistinct nat_eq (keys_of new.entries)) (kept : KeepsPinned mid new.entries) where
    emptied : new.left ≡ empties.emptied
    emptied = empties.left ∙ ap (λ l. l ++ empties.emptied) none_left

    same_pins : (o : Option ℕ) → pins_in new.entries o ≡ pins_in mid o
    same_pins None = refl
    same_pins (Some j) = pins_same j mid new.entries distinct new_distinct kept

    nowhere_by : (k q j : ℕ) → is_in k empties.emptied ≡ true → key_in s.slots k ≡ Some j
        → key_in new.slots q ≡ Some j → (b : Bool) → is_in q empties.emptied ≡ b → ⊥
    nowhere_by k q j gone there has true out =
        let both : None ≡ Some j = sym (empties.none q out) ∙ has in absurd cc
    nowhere_by k q j gone there has false stays =
        let one : q ≡ k = in_slots.apart q k j (sym (empties.kept q stays) ∙ has) there in
        false≢true (sym stays ∙ (ap (λ n. is_in n empties.emptied) one ∙ gone))

    gone_pins : (k : ℕ) → is_in k empties.emptied ≡ true → (o : Option ℕ) → key_in s.slots k ≡ o
        → pins_in mid o ≡ 0
    gone_pins k gone None there = refl
    gone_pins k gone (Some j) there =
        let nowhere : (q : ℕ) → key_in new.slots q ≡ Some j → ⊥ =
        λ q has. nowhere_by k q j gone there has (is_in q empties.emptied) refl in
        sym (same_pins (Some j)) ∙ pins_none j new.entries (new_slots.none j (no_slot j new.slots nowhere))

    left_by : (k : ℕ) (b : Bool) → is_in k empties.emptied ≡ b
        → pins_in new.entries (key_in new.slots k) ≡ pins_in mid (key_in s.slots k)
    left_by k true gone =
        ap (pins_in new.entries) (empties.none k gone) ∙ sym (gone_pins k gone (key_in s.slots k) refl)
    left_by k false stays =
        ap (pins_in new.entries) (empties.kept k stays) ∙ same_pins (key_in s.slots k)

    -- a tile that left had no pin
    left_pins : (k : ℕ) → pins_in new.entries (key_in new.slots k) ≡ pins_in mid (key_in s.slots k)
    left_pins k = left_by k (is_in k empties.emptied) refl

    left_keys : (k : ℕ) → is_in k new.left ≡ false
        → slice_index (map key_number s.slots) k ≡ slice_index (words_of new).keys k
    left_keys k stays = key_at s.slots k
        ∙ (ap key_number (sym (empties.kept k (ap (is_in k) (sym emptied) ∙ stays)))
        ∙ sym (key_at new.slots k))

    left_empty : (k : ℕ) → is_in k new.left ≡ true → key_in new.slots k ≡ None
    left_empty k gone = empties.none k (ap (is_in k) (sym emptied) ∙ gone)

    left_count : length (map key_number s.slots) ≡ length new.slots
    left_count = long_as key_number s.slots ∙ sym empties.count

  -- The stale tiles were removed.
  pub behind_purge : AreInSlots new → s.left ≡ [] → EmptiesSlots s new
      → IsDistinct nat_eq (keys_of s.entries) → IsDistinct nat_eq (keys_of new.entries)
      → KeepsPinned s.entries new.entries → AreBehind (words_of s) new
  behind_purge new_slots none_left empties distinct new_distinct kept = record {
    count = left_count s.entries new_slots none_left empties distinct new_distinct kept;
    pins = same_items (map (pins_in s.entries) s.slots) (map (pins_in new.entries) new.slots)
        (long_as (pins_in s.entries) s.slots ∙ (sym empties.count
        ∙ sym (long_as (pins_in new.entries) new.slots)))
        (λ k. pins_of_slot s.entries s.slots k
        ∙ (sym (left_pins s.entries new_slots none_left empties distinct new_distinct kept k)
        ∙ sym (pins_of_slot new.entries new.slots k)));
    keys = left_keys s.entries new_slots none_left empties distinct new_distinct kept;
    empty = left_empty s.entries new_slots none_left empties distinct new_distinct kept;
  }

  -- A pin of a key was released, and then some tiles were removed.
  pub behind_release : (key slot : ℕ) (e : EntryState) → slot_of key s.slots ≡ Some slot
      → entry_at key s.entries ≡ Some e → 1 ≤ e.pins
      → AreInSlots new → s.left ≡ [] → EmptiesSlots s new
      → IsDistinct nat_eq (keys_of s.entries) → IsDistinct nat_eq (keys_of new.entries)
      → KeepsPinned (unpinned_once key s.entries) new.entries
      → AreBehind (unpinned_words slot (words_of s)) new
  behind_release key slot e is found some new_slots none_left empties distinct new_distinct kept =
      let mid = unpinned_once key s.entries in
      let here = slot_has key s.slots slot is in
      let apart : IsDistinct nat_eq (keys_of mid) =
      subst (λ l. IsDistinct nat_eq l) (sym (keys_unpinned key s.entries)) distinct in
      let at : (k : ℕ) → pins_at k mid + one_for key k ≡ pins_at k s.entries =
      λ k. pins_less key k s.entries e found some in
      let left : (k : ℕ) → pins_in new.entries (key_in new.slots k) ≡ pins_in mid (key_in s.slots k) =
      left_pins mid new_slots none_left empties apart new_distinct kept in
      let were : slice_index (map (pins_in s.entries) s.slots) slot ≡ pins_at key s.entries =
      pins_of_slot s.entries s.slots slot ∙ ap (pins_in s.entries) here in
      let first : pins_in new.entries (key_in new.slots slot)
      ≡ slice_index (map (pins_in s.entries) s.slots) slot - 1 =
      left slot ∙ (ap (pins_in mid) here ∙ omega (arith, at key, were, one_for_same key)) in
      record {
        count = left_count mid new_slots none_left empties apart new_distinct kept;
        pins = sym (pins_set s.entries new.entries s.slots new.slots slot _ (slot_low s new in_slots key slot is)
            empties.count first
            (λ k ne. left k
            ∙ less_pins s new in_slots key mid (key_in s.slots k) (λ j there. other_key s new in_slots key slot k j here ne there) at));
        keys = left_keys mid new_slots none_left empties apart new_distinct kept;
        empty = left_empty mid new_slots none_left empties apart new_distinct kept;
      }

-- ---- the slots that are reported

past_end : (xs : List ℕ) (k : ℕ) → length xs ≤ k → slice_index xs k ≡ 0
past_end [] k past = refl
past_end (x ∷ xs) zero past = absurd (omega arith)
past_end (x ∷ xs) (suc k) past = past_end xs k (omega arith)

or_true : (b : Bool) → (b || true) ≡ true
or_true true = refl
or_true false = refl

more_in : (k slot : ℕ) (rest : List ℕ) → is_in k rest ≡ true → is_in k (slot ∷ rest) ≡ true
more_in k slot rest is = ap (λ b. nat_eq k slot || b) is ∙ or_true (nat_eq k slot)

module _ (known : SlotWords) (s new : ShardState) (slot : ℕ) (entries : new.entries ≡ s.entries)
    (slots : new.slots ≡ s.slots) (left : s.left ≡ slot ∷ new.left) (behind : AreBehind known s) where
  here_none : key_in s.slots slot ≡ None
  here_none = behind.empty slot (ap (is_in slot) left ∙ head_in slot new.left)

  pub told_free : slice_index known.pins slot ≡ 0
  told_free = ap (λ l. slice_index l slot) behind.pins
      ∙ (pins_of_slot s.entries s.slots slot ∙ ap (pins_in s.entries) here_none)

  now_zero : slice_index (words_of new).keys slot ≡ 0
  now_zero = key_at new.slots slot
      ∙ ap key_number (ap (λ l. key_in l slot) slots ∙ here_none)

  pins_still : known.pins ≡ (words_of new).pins
  pins_still = behind.pins
      ∙ sym (λ i. map (pins_in (entries i)) (slots i))

  empty_still : (k : ℕ) → is_in k new.left ≡ true → key_in new.slots k ≡ None
  empty_still k is = ap (λ l. key_in l k) slots
      ∙ behind.empty k (ap (is_in k) left ∙ more_in k slot new.left is)

  keys_still : (k : ℕ) → k ≢ slot → is_in k new.left ≡ false
      → slice_index known.keys k ≡ slice_index (words_of new).keys k
  keys_still k ne out = behind.keys k (ap (is_in k) left ∙ (tail_in k slot new.left ne ∙ out))
      ∙ ap (λ l. slice_index (map key_number l) k) (sym slots)

  -- The key word of the reported slot is now 0.
  pub told_more : slot < length s.slots → AreBehind (keyed_words slot 0 known) new
  told_more low = record {
    count = length-set known.keys slot 0 ∙ (behind.count ∙ ap length (sym slots));
    pins = pins_still;
    keys = λ k out. dite (ℕ_discrete k slot)
        (λ (e : k ≡ slot). subst
        (λ j. slice_index (set known.keys slot 0) j ≡ slice_index (words_of new).keys j) (sym e)
        (get_or-set_same known.keys slot 0 0 (omega (arith, behind.count)) ∙ sym now_zero))
        (λ (ne : k ≢ slot). get_or-set_other known.keys slot k 0 0 ne ∙ keys_still k ne out);
    empty = empty_still;
  }

  -- There is no such slot.
  pub told_none : length s.slots ≤ slot → AreBehind known new
  told_none past = record {
    count = behind.count ∙ ap length (sym slots);
    pins = pins_still;
    keys = λ k out. dite (ℕ_discrete k slot)
        (λ (e : k ≡ slot). subst
        (λ j. slice_index known.keys j ≡ slice_index (words_of new).keys j) (sym e)
        (past_end known.keys slot (omega (arith, behind.count)) ∙ sym now_zero))
        (λ (ne : k ≢ slot). keys_still k ne out);
    empty = empty_still;
  }

-- after each slot was reported, the words are those of the shard
pub all_told : (known : SlotWords) (s : ShardState) → AreBehind known s → s.left ≡ []
    → known ≡ words_of s
all_told known s behind none =
    let keys : known.keys ≡ (words_of s).keys = same_items known.keys (words_of s).keys
    (behind.count ∙ sym (long_as key_number s.slots))
    (λ k. behind.keys k (ap (is_in k) none)) in
    λ i. record { keys = keys i; pins = behind.pins i }
