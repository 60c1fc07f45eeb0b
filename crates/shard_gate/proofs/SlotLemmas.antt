-- What one pin more and a tile that is kept leave of the words of the slots.
use Rattle.std.proofs.Common.{◌≡◌, ◌≢◌, ℕ, zero, suc, ◌+◌, ◌<◌, ◌≤◌}
use Rattle.std.proofs.Common.{nat_eq, List, [], ◌∷◌, length, map, set, Option, Some}
use Rattle.std.proofs.Common.{None, IsSome, refl, sym, ap, subst, ◌∙◌, ⊎_elim, arith}
use Rattle.std.specs.Prelude.{slice_index}
use Rattle.std.specs.List.{IsDistinct}
use Rattle.std.specs.Map.{keys_of}
use Rattle.std.proofs.lemmas.Bool.{cases_lt, false≢true}
use Rattle.std.proofs.lemmas.List.{length-set, get_or-set_same, get_or-set_other}
use mathlib.Core.Logic.{dite}
use native.Mathlib.Decide.{ℕ_discrete}
use Rattle.tile_store.specs.Tile.{CachedTile}
use Rattle.tile_store.specs.CachedTile.{EntryState, Entries, entry_at}
use Rattle.tile_store.specs.Changes.{new_entry, pinned_first, with_first, with_pin}
use Rattle.tile_store.specs.Changes.{KeepsPinned}
use Rattle.tile_store.specs.Keys.{key_in, slot_of}
use Rattle.tile_store.specs.Slots.{ShardState, AreInSlots, SlotsAfterInsert}
use Rattle.tile_store.proofs.KeyLemmas.{low_key, slot_has, slot_by, no_slot}
use Rattle.shard_gate.specs.Words.{pinned_words, keyed_words}
use Rattle.shard_gate.specs.Home.{key_number, pins_at, pins_in, words_of}
use Rattle.tile_store.specs.Changes.{inserted}
use Rattle.shard_gate.specs.Work.{PinsSlot, InsertsSlot}
use Rattle.shard_gate.proofs.EntryLemmas.{long_as, same_items, key_at, pins_of_slot, one_for, pins_none, pins_head, pins_tail, one_for_same, one_for_other, pins_more, pins_same, apart_from}

-- ---- one slot

pub set_again : (xs : List ℕ) (k x : ℕ) → slice_index xs k ≡ x → set xs k x ≡ xs
set_again [] k x is = refl
set_again (y ∷ xs) zero x is = λ i. sym is i ∷ xs
set_again (y ∷ xs) (suc k) x is = ap (λ l. y ∷ l) (set_again xs k x is)

-- The pins change in one slot.
pub pins_set : (es fs : Entries) (slots new : List (Option ℕ)) (slot n : ℕ) → slot < length slots
    → length new ≡ length slots → pins_in fs (key_in new slot) ≡ n
    → ((k : ℕ) → k ≢ slot → pins_in fs (key_in new k) ≡ pins_in es (key_in slots k))
    → map (pins_in fs) new ≡ set (map (pins_in es) slots) slot n
pins_set es fs slots new slot n low long here others =
    let were = map (pins_in es) slots in
    let count : length were ≡ length slots = long_as (pins_in es) slots in
    same_items (map (pins_in fs) new) (set were slot n)
    (omega (arith, length-set were slot n, count, long, long_as (pins_in fs) new))
    (λ k. pins_of_slot fs new k ∙ dite (ℕ_discrete k slot)
    (λ (is : k ≡ slot). subst (λ j. pins_in fs (key_in new j) ≡ slice_index (set were slot n) j)
    (sym is) (here ∙ sym (get_or-set_same were slot n 0 (omega arith))))
    (λ (ne : k ≢ slot). others k ne
    ∙ sym (get_or-set_other were slot k n 0 ne ∙ pins_of_slot es slots k)))

pub set_past : (xs : List (Option ℕ)) (k : ℕ) (x : Option ℕ) → length xs ≤ k → set xs k x ≡ xs
set_past [] k x past = refl
set_past (y ∷ xs) zero x past = absurd (omega arith)
set_past (y ∷ xs) (suc k) x past = ap (λ l. y ∷ l) (set_past xs k x (omega arith))

pub distinct_with : (key : ℕ) (es : Entries) → entry_at key es ≡ None → IsDistinct nat_eq (keys_of es)
    → IsDistinct nat_eq (key ∷ keys_of es)
unfolding IsDistinct
distinct_with key es absent distinct = (apart_from key es absent, distinct)

pub keys_set : (slots : List (Option ℕ)) (slot key : ℕ)
    → map key_number (set slots slot (Some key)) ≡ set (map key_number slots) slot key
keys_set [] slot key = refl
keys_set (s ∷ slots) zero key = refl
keys_set (s ∷ slots) (suc slot) key = ap (λ l. key_number s ∷ l) (keys_set slots slot key)

module _ (s new : ShardState) (in_slots : AreInSlots s) where
  -- The slot of a key is a slot, and its word is the key.
  pub slot_word : (key slot : ℕ) → slot_of key s.slots ≡ Some slot
      → slice_index (words_of s).keys slot ≡ key
  slot_word key slot is =
      key_at s.slots slot ∙ ap key_number (slot_has key s.slots slot is)

  pub slot_low : (key slot : ℕ) → slot_of key s.slots ≡ Some slot → slot < length s.slots
  slot_low key slot is = low_key s.slots slot key (slot_has key s.slots slot is)

  -- another slot has another key
  pub other_key : (key slot k j : ℕ) → key_in s.slots slot ≡ Some key → k ≢ slot
      → key_in s.slots k ≡ Some j → j ≢ key
  other_key key slot k j here ne there is =
      ne (in_slots.apart k slot key (there ∙ ap Some is) here)

  pub less_pins : (key : ℕ) (mid : Entries) (o : Option ℕ) → ((j : ℕ) → o ≡ Some j → j ≢ key)
      → ((k : ℕ) → pins_at k mid + one_for key k ≡ pins_at k s.entries)
      → pins_in mid o ≡ pins_in s.entries o
  less_pins key mid None apart at = refl
  less_pins key mid (Some j) apart at =
      omega (arith, at j, one_for_other key j (apart j refl))

  -- the pins of another key stay
  pub other_pins : (key : ℕ) (o : Option ℕ) → ((j : ℕ) → o ≡ Some j → j ≢ key)
      → ((k : ℕ) → pins_at k new.entries ≡ pins_at k s.entries + one_for key k)
      → pins_in new.entries o ≡ pins_in s.entries o
  other_pins key None apart at = refl
  other_pins key (Some j) apart at =
      omega (arith, at j, one_for_other key j (apart j refl))

  -- ---- a key has one pin more

  pub words_pinned : (key slot : ℕ) (e : EntryState) → slot_of key s.slots ≡ Some slot
      → new.slots ≡ s.slots → entry_at key s.entries ≡ Some e
      → new.entries ≡ pinned_first key s.entries
      → words_of new ≡ pinned_words slot (words_of s)
  words_pinned key slot e is same found entries =
      let here = slot_has key s.slots slot is in
      let at : (k : ℕ) → pins_at k new.entries ≡ pins_at k s.entries + one_for key k =
      λ k. ap (pins_at k) entries ∙ pins_more key k s.entries e found in
      let were : slice_index (map (pins_in s.entries) s.slots) slot ≡ pins_at key s.entries =
      pins_of_slot s.entries s.slots slot ∙ ap (pins_in s.entries) here in
      let first : pins_in new.entries (key_in new.slots slot)
      ≡ slice_index (map (pins_in s.entries) s.slots) slot + 1 =
      ap (λ l. pins_in new.entries (key_in l slot)) same ∙ (ap (pins_in new.entries) here
      ∙ omega (arith, at key, were, one_for_same key)) in
      let pins : map (pins_in new.entries) new.slots
      ≡ set (map (pins_in s.entries) s.slots) slot (slice_index (map (pins_in s.entries) s.slots) slot + 1) =
      pins_set s.entries new.entries s.slots new.slots slot _ (slot_low key slot is)
      (ap length same) first
      (λ k ne. ap (λ l. pins_in new.entries (key_in l k)) same
      ∙ other_pins key (key_in s.slots k) (λ j there. other_key key slot k j here ne there) at) in
      λ i. record { keys = map key_number (same i); pins = pins i }

  pub pins_slot : (key slot : ℕ) (e : EntryState) → slot_of key s.slots ≡ Some slot
      → new.slots ≡ s.slots → entry_at key s.entries ≡ Some e
      → new.entries ≡ pinned_first key s.entries → PinsSlot key slot s new
  pins_slot key slot e is same found entries = record {
    inside = slot_low key slot is;
    key_is = slot_word key slot is;
    words = words_pinned key slot e is same found entries;
  }

  -- ---- a tile is kept

  -- If the key was there, the slot still has it.
  pub inserts_again : (key slot : ℕ) (e : EntryState) → slot_of key s.slots ≡ Some slot
      → new.slots ≡ s.slots → entry_at key s.entries ≡ Some e
      → new.entries ≡ pinned_first key s.entries → InsertsSlot key slot s new
  inserts_again key slot e is same found entries =
      let word = slot_word key slot is in
      let again : keyed_words slot key (words_of s) ≡ words_of s = λ i. record {
        keys = set_again (words_of s).keys slot key word i;
        pins = (words_of s).pins;
      } in
      record {
        inside = slot_low key slot is;
        free = λ other. absurd (other word);
        words = words_pinned key slot e is same found entries ∙ ap (pinned_words slot) (sym again);
      }

  -- Else it has a slot that had no key, or whose tile has left.
  module _ (key slot filled : ℕ) (tile_new : EntryState) (one : tile_new.pins ≡ 1)
      (new_slots : AreInSlots new)
      (absent : entry_at key s.entries ≡ None)
      (slots : new.slots ≡ set s.slots filled (Some key)) (is : slot_of key new.slots ≡ Some slot)
      (distinct : IsDistinct nat_eq (keys_of s.entries))
      (new_distinct : IsDistinct nat_eq (keys_of new.entries))
      (kept : KeepsPinned ((key, tile_new) ∷ s.entries) new.entries) where
    no_key : (k : ℕ) → key_in s.slots k ≡ Some key → ⊥
    no_key k there = false≢true (subst (λ o. IsSome o) absent
        (in_slots.some key k (slot_by s.slots in_slots.apart key k there)))

    inside : filled < length s.slots
    inside = ⊎_elim (λ low. low)
        (λ (past : length s.slots ≤ filled).
        let stays : new.slots ≡ s.slots = slots ∙ set_past s.slots filled (Some key) past in
        absurd (no_key slot (ap (λ l. key_in l slot) (sym stays) ∙ slot_has key new.slots slot is)))
        (cases_lt filled (length s.slots))

    now : key_in new.slots filled ≡ Some key
    now = ap (λ l. key_in l filled) slots ∙ get_or-set_same s.slots filled (Some key) None inside

    same_slot : slot ≡ filled
    same_slot = new_slots.apart slot filled key (slot_has key new.slots slot is) now

    beside : (k : ℕ) → k ≢ filled → key_in new.slots k ≡ key_in s.slots k
    beside k ne = ap (λ l. key_in l k) slots ∙ get_or-set_other s.slots filled k (Some key) None ne

    with_new : IsDistinct nat_eq (key ∷ keys_of s.entries)
    with_new = distinct_with key s.entries absent distinct

    pins_now : (k : ℕ) → pins_at k new.entries ≡ pins_at k ((key, tile_new) ∷ s.entries)
    pins_now k = pins_same k ((key, tile_new) ∷ s.entries) new.entries with_new new_distinct kept

    other_now : (o : Option ℕ) → ((j : ℕ) → o ≡ Some j → j ≢ key)
        → pins_in new.entries o ≡ pins_in s.entries o
    other_now None apart = refl
    other_now (Some j) apart = pins_now j ∙ pins_tail j key tile_new s.entries (apart j refl)

    not_key : (k j : ℕ) → key_in s.slots k ≡ Some j → j ≢ key
    not_key k j there same = no_key k (there ∙ ap Some same)

    -- the tile that was in the slot has left, so it had no pin
    free_of : (o : Option ℕ) → key_in s.slots filled ≡ o → pins_in s.entries o ≡ 0
    free_of None there = refl
    free_of (Some j) there =
        let ne : j ≢ key = not_key filled j there in
        let nowhere : (k : ℕ) → key_in new.slots k ≡ Some j → ⊥ = λ k has. dite (ℕ_discrete k filled)
        (λ (e : k ≡ filled).
        let both : Some key ≡ Some j = sym now ∙ (ap (key_in new.slots) (sym e) ∙ has) in
        let one_key : key ≡ j = cc in
        ne (sym one_key))
        (λ (apart : k ≢ filled).
        apart (in_slots.apart k filled j (sym (beside k apart) ∙ has) there)) in
        let gone = new_slots.none j (no_slot j new.slots nowhere) in
        sym (pins_tail j key tile_new s.entries ne) ∙ (sym (pins_now j) ∙ pins_none j new.entries gone)

    free_pins : slice_index (words_of s).pins slot ≡ 0
    free_pins = pins_of_slot s.entries s.slots slot
        ∙ (ap (λ k. pins_in s.entries (key_in s.slots k)) same_slot ∙ free_of (key_in s.slots filled) refl)

    pub inserts_new : InsertsSlot key slot s new
    inserts_new =
        let first : pins_in new.entries (key_in new.slots slot) ≡ slice_index (words_of s).pins slot + 1 =
        ap (pins_in new.entries) (slot_has key new.slots slot is)
        ∙ omega (arith, pins_now key, pins_head key tile_new s.entries, one, free_pins) in
        let low : slot < length s.slots = subst (λ k. k < length s.slots) (sym same_slot) inside in
        let pins : map (pins_in new.entries) new.slots
        ≡ set (map (pins_in s.entries) s.slots) slot (slice_index (map (pins_in s.entries) s.slots) slot + 1) =
        pins_set s.entries new.entries s.slots new.slots slot _ low
        (ap length slots ∙ length-set s.slots filled (Some key)) first
        (λ k ne.
        let apart : k ≢ filled = λ e. ne (e ∙ sym same_slot) in
        ap (pins_in new.entries) (beside k apart)
        ∙ other_now (key_in s.slots k) (λ j there. not_key k j there)) in
        let keys : map key_number new.slots ≡ set (map key_number s.slots) slot key =
        ap (map key_number) slots ∙ (keys_set s.slots filled key
        ∙ ap (λ k. set (map key_number s.slots) k key) (sym same_slot)) in
        record {
          inside = low;
          free = λ _. free_pins;
          words = λ i. record { keys = keys i; pins = pins i };
        }

-- ---- a tile that is kept

pub inserts_slot : (s new : ShardState) → AreInSlots s → (tile : CachedTile) (count slot : ℕ)
    → AreInSlots new → slot_of tile.key new.slots ≡ Some slot
    → new.entries ≡ inserted tile count s.entries → SlotsAfterInsert tile.key s new
    → KeepsPinned (with_pin tile s.entries) new.entries → IsDistinct nat_eq (keys_of s.entries)
    → IsDistinct nat_eq (keys_of new.entries) → InsertsSlot tile.key slot s new
inserts_slot s new in_slots tile count slot new_slots is entries after kept distinct new_distinct =
    (elim (entry_at tile.key s.entries) as (λ o. entry_at tile.key s.entries ≡ o
    → InsertsSlot tile.key slot s new) [
      | None ↦ λ absent.
          let fills = after.filled absent in
          let whole : with_pin tile s.entries ≡ with_first tile s.entries = rw absent refl in
          inserts_new s new in_slots tile.key slot fills.slot (new_entry tile) refl new_slots absent
          fills.slots is distinct new_distinct
          (subst (λ l. KeepsPinned l new.entries) whole kept)
      | Some e ↦ λ found.
          let same = after.kept (subst (λ o. IsSome o) (sym found) refl) in
          let whole : inserted tile count s.entries ≡ pinned_first tile.key s.entries = rw found refl in
          inserts_again s new in_slots tile.key slot e
          (ap (slot_of tile.key) (sym same.slots) ∙ is) same.slots found (entries ∙ whole)
    ]) refl
