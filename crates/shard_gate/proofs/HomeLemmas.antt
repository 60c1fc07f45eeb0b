-- What a seat knows of a shard by the words of its slots, and what those of a new shard are.
use Rattle.std.proofs.Common.{◌≡◌, ℕ, zero, suc, ◌*◌, ◌<◌, ◌≤◌, false}
use Rattle.std.proofs.Common.{nat_eq, List, [], ◌∷◌, length, Option, Some}
use Rattle.std.proofs.Common.{None, IsSome, ne_eqb, refl, sym, ap, subst, ◌∙◌, arith}
use Rattle.std.specs.Prelude.{slice_index, Contains}
use Rattle.std.specs.List.{AllByRecursion, IsDistinct, sum_by}
use Rattle.std.specs.Map.{keys_of, values_of}
use Rattle.std.proofs.lemmas.Bool.{eqb-false, eq-eqb, false≢true}
use Rattle.std.proofs.lemmas.List.Sums.{sum_by-cons}
use Rattle.tile_store.specs.CachedTile.{EntryState, Entries, entry_at}
use Rattle.tile_store.specs.CachedTile.{pin_sum}
use Rattle.tile_store.specs.Keys.{key_in, slot_of}
use Rattle.tile_store.specs.Slots.{ShardState, AreInSlots}
use Rattle.tile_store.proofs.KeyLemmas.{slot_has, slot_by}
use Rattle.shard_gate.specs.Words.{AreFewPins, AreBlank, max_pins, slots_of}
use Rattle.shard_gate.specs.Home.{key_number, pins_in, words_of, IsHome}
use Rattle.tex_world.specs.World.{Files}
use Rattle.tile_store.specs.Lawful.{Lawful}
use Rattle.tile_store.specs.Slots.{empty_shard}
use Rattle.shard_gate.specs.declared.rule.Terms.{Terms}
use Rattle.std.proofs.Common.{replicate}
use Rattle.std.proofs.lemmas.List.{length-replicate, get_or_default}
use Rattle.std.proofs.lemmas.List.Elements.{Contains-from_at}
use Rattle.shard_gate.specs.Given.{HaveSlots}
use Rattle.shard_gate.proofs.SlotLemmas.{slot_low, slot_word}
use Rattle.shard_gate.proofs.PinLemmas.{IsPinned}
use Rattle.shard_gate.proofs.EntryLemmas.{long_as, key_at, pins_of_slot, key_from, pins_found}

-- ---- what a seat knows of a shard

-- the slot and the entry of a key that is pinned
pub record IsThere (key : ℕ) (s : ShardState) (slot : ℕ) : Type 0 where
  pub entry : EntryState
  pub slot_is : slot_of key s.slots ≡ Some slot
  pub found : entry_at key s.entries ≡ Some entry
  pub pin : 1 ≤ entry.pins

entry_there : (o : Option EntryState) → IsSome o → (e : EntryState) × (o ≡ Some e)
entry_there None some = absurd (false≢true some)
entry_there (Some e) some = (e, refl)

pub is_there : (key : ℕ) (s : ShardState) (pins : List (ℕ × ℕ)) → AreInSlots s
    → (is : IsPinned (words_of s) key pins) → IsThere key s is.slot
is_there key s pins in_slots is =
    let has : key_in s.slots is.slot ≡ Some key =
    key_from (key_in s.slots is.slot) key (sym (key_at s.slots is.slot) ∙ is.key_is) is.some in
    let slot_is = slot_by s.slots in_slots.apart key is.slot has in
    let there = entry_there (entry_at key s.entries) (in_slots.some key is.slot slot_is) in
    let count : slice_index (words_of s).pins is.slot ≡ there.0.pins =
    pins_of_slot s.entries s.slots is.slot ∙ (ap (pins_in s.entries) has
    ∙ pins_found key s.entries there.0 there.1) in
    record {
      entry = there.0;
      slot_is = slot_is;
      found = there.1;
      pin = subst (λ n. 1 ≤ n) count is.pin;
    }

-- ---- the slots of the entries

has_slot : (s : ShardState) → AreInSlots s → (key : ℕ) (o : Option ℕ) → slot_of key s.slots ≡ o
    → IsSome (entry_at key s.entries) → Contains (words_of s).keys key
has_slot s in_slots key None none some =
    absurd (false≢true (subst (λ (o : Option EntryState). IsSome o) (in_slots.none key none) some))
has_slot s in_slots key (Some slot) is some =
    let keys = (words_of s).keys in
    let low : slot < length keys =
    omega (arith, long_as key_number s.slots, slot_low s s in_slots key slot is) in
    Contains-from_at keys key (
      slot,
      low,
      λ d. get_or_default keys slot d 0 low
          ∙ slot_word s s in_slots key slot is,
    )

-- The slots' keys say where each entry is.
pub have_slots : (s : ShardState) → AreInSlots s → HaveSlots (words_of s).keys s.entries
have_slots s in_slots = record {
  some = λ key some. has_slot s in_slots key (slot_of key s.slots) refl some;
  apart = λ i j low same.
      let key = slice_index (words_of s).keys i in
      in_slots.apart i j key
      (key_from (key_in s.slots i) key (sym (key_at s.slots i)) low)
      (key_from (key_in s.slots j) key (sym (key_at s.slots j) ∙ sym same) low);
}

-- ---- the pins of all entries

-- each of these entries is found under its key
abbrev pub AreFound : Entries → Entries → Type 0
AreFound all [] = Unit {0}
AreFound all (e ∷ es) = (entry_at e.0 all ≡ Some e.1) × AreFound all es

found_behind : (e : ℕ × EntryState) (all es : Entries)
    → AllByRecursion (λ other. nat_eq e.0 other ≡ false) (keys_of es) → AreFound all es
    → AreFound (e ∷ all) es
found_behind e all [] apart found = tt
found_behind e all (f ∷ es) apart found =
    let other : nat_eq f.0 e.0 ≡ false =
    ne_eqb f.0 e.0 (λ (is : f.0 ≡ e.0). eqb-false e.0 f.0 apart.0 (sym is)) in
    (rw other found.0, found_behind e all es apart.1 found.1)

pub are_found : (es : Entries) → IsDistinct nat_eq (keys_of es) → AreFound es es
unfolding IsDistinct
are_found [] distinct = tt
are_found (e ∷ es) distinct =
    (rw (eq-eqb e.0 e.0 refl) refl, found_behind e es es distinct.0 (are_found es distinct.1))

-- the number of a slot, if there is one
abbrev pub number_of : Option ℕ → ℕ
number_of None = 0
number_of (Some slot) = slot

module _ (s : ShardState) (in_slots : AreInSlots s) where
  -- the slots of some entries
  abbrev pub slots_of_entries : Entries → List ℕ
  slots_of_entries [] = []
  slots_of_entries (e ∷ es) = number_of (slot_of e.0 s.slots) ∷ slots_of_entries es

  slot_by_entry : (key : ℕ) (e : EntryState) (o : Option ℕ) → slot_of key s.slots ≡ o
      → entry_at key s.entries ≡ Some e → key_in s.slots (number_of o) ≡ Some key
  slot_by_entry key e None none found =
      let both : None ≡ Some e = sym (in_slots.none key none) ∙ found in absurd cc
  slot_by_entry key e (Some slot) is found = slot_has key s.slots slot is

  slot_of_entry : (e : ℕ × EntryState) → entry_at e.0 s.entries ≡ Some e.1
      → key_in s.slots (number_of (slot_of e.0 s.slots)) ≡ Some e.0
  slot_of_entry e found = slot_by_entry e.0 e.1 (slot_of e.0 s.slots) refl found

  slots_apart : (e : ℕ × EntryState) (es : Entries) → entry_at e.0 s.entries ≡ Some e.1
      → AllByRecursion (λ other. nat_eq e.0 other ≡ false) (keys_of es) → AreFound s.entries es
      → AllByRecursion (λ other. nat_eq (number_of (slot_of e.0 s.slots)) other ≡ false)
      (slots_of_entries es)
  slots_apart e [] found apart rest = tt
  slots_apart e (f ∷ es) found apart rest = (
    ne_eqb (number_of (slot_of e.0 s.slots)) (number_of (slot_of f.0 s.slots))
        (λ (is : number_of (slot_of e.0 s.slots) ≡ number_of (slot_of f.0 s.slots)).
        let both : Some e.0 ≡ Some f.0 = sym (slot_of_entry e found)
        ∙ (ap (key_in s.slots) is ∙ slot_of_entry f rest.0) in
        let one : e.0 ≡ f.0 = cc in
        eqb-false e.0 f.0 apart.0 one),
    slots_apart e es found apart.1 rest.1,
  )

  pub slots_distinct : (es : Entries) → IsDistinct nat_eq (keys_of es) → AreFound s.entries es
      → IsDistinct nat_eq (slots_of_entries es)
  unfolding IsDistinct
  slots_distinct [] distinct found = tt
  slots_distinct (e ∷ es) distinct found =
      (slots_apart e es found.0 distinct.0 found.1, slots_distinct es distinct.1 found.1)

  pub slots_sum : (es : Entries) → AreFound s.entries es
      → sum_by (λ slot. slice_index (words_of s).pins slot) (slots_of_entries es) ≡ pin_sum es
  slots_sum [] found = refl
  slots_sum (e ∷ es) found =
      let slot = number_of (slot_of e.0 s.slots) in
      let here : slice_index (words_of s).pins slot ≡ e.1.pins =
      pins_of_slot s.entries s.slots slot ∙ (ap (pins_in s.entries) (slot_of_entry e found.0)
      ∙ pins_found e.0 s.entries e.1 found.0) in
      omega (
        arith,
        sum_by-cons (λ (k : ℕ). slice_index (words_of s).pins k) slot (slots_of_entries es),
        sum_by-cons (λ (n : EntryState). n.pins) e.1 (values_of es),
        slots_sum es found.1,
      )

  -- The entries have no more pins than all seats may hold.
  pub few_pins_in : (passes : ℕ) → IsDistinct nat_eq (keys_of s.entries)
      → AreFewPins passes (words_of s) → pin_sum s.entries ≤ max_pins * passes
  few_pins_in passes distinct few =
      let found = are_found s.entries distinct in
      omega (
        arith,
        few (slots_of_entries s.entries) (slots_distinct s.entries distinct found),
        slots_sum s.entries found,
      )

-- ---- a shard without a tile

none_in : (count k : ℕ) → key_in (replicate count None) k ≡ None
none_in zero k = refl
none_in (suc count) zero = refl
none_in (suc count) (suc k) = none_in count k

pub blank_words : (passes : ℕ) (s : ShardState) → s ≡ empty_shard (slots_of passes)
    → AreBlank passes (words_of s)
blank_words passes s is =
    let count = slots_of passes in
    let long : length s.slots ≡ count =
    ap (λ (t : ShardState). length t.slots) is ∙ length-replicate count None in
    let none : (k : ℕ) → key_in s.slots k ≡ None =
    λ k. ap (λ (t : ShardState). key_in t.slots k) is ∙ none_in count k in
    record {
      key_count = long_as key_number s.slots ∙ long;
      pin_count = long_as (pins_in s.entries) s.slots ∙ long;
      keys = λ k. key_at s.slots k ∙ ap key_number (none k);
      pins = λ k. pins_of_slot s.entries s.slots k ∙ ap (pins_in s.entries) (none k);
    }

pub blank_home : (files : Files) (terms : Terms) (s : ShardState)
    → s ≡ empty_shard (slots_of terms.passes) → Lawful files terms.tag s.entries → AreInSlots s
    → IsHome files terms s
blank_home files terms s is lawful in_slots = record {
  stored = record {
    entries = lawful;
    in_slots = in_slots;
    count = ap (λ (t : ShardState). length t.slots) is
        ∙ length-replicate (slots_of terms.passes) None;
  };
  left = ap (λ (t : ShardState). t.left) is;
}
