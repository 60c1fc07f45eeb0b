-- Which words does a table have, and what do they say of the slots of its shard?
--
-- The lock and the tag come first. Then each slot has a word for its key, which is 0 if it is
-- empty, and one for its pins.
use Rattle.std.specs.Prelude.{◌≡◌, ℕ, ◌+◌, ◌-◌, ◌*◌, ◌≤◌, cond, nat_eq, List, [], ◌∷◌, length}
use Rattle.std.specs.Prelude.{slice_index, slice_set, map}
use Rattle.std.specs.List.{sum_by, IsDistinct}

-- the greatest number of permits of all seats together, with which a shard has 65536 slots
abbrev pub max_permits : ℕ
max_permits = 9216

-- the pins that a seat may hold for each of its permits
abbrev pub max_pins : ℕ
max_pins = 7

-- the slots of a shard in addition to those that all seats may pin
abbrev pub more_slots : ℕ
more_slots = 1024

-- the number of slots of a shard, for this number of permits
abbrev pub slots_of : ℕ → ℕ
slots_of all_permits = max_pins * all_permits + more_slots

-- the index of the lock word: 1 while a seat has the lock, otherwise 0
abbrev pub turn_word : ℕ
turn_word = 16

-- the index of the table's tag
abbrev pub tag_word : ℕ
tag_word = 17

-- The slots' words begin here, so that the 128 bytes around the lock contain nothing that is
-- written without it.
abbrev pub first_word : ℕ
first_word = 32

-- the number of words of a table
abbrev pub word_count : ℕ → ℕ
word_count all_permits = first_word + 2 * slots_of all_permits

-- the index of a slot's key, which is 0 if the slot is empty
abbrev pub key_word : ℕ → ℕ
key_word slot = 32 + 2 * slot

-- the index of a slot's pins
abbrev pub pin_word : ℕ → ℕ
pin_word slot = 33 + 2 * slot

-- the numbers in the words of all slots
pub record SlotWords : Type 0 where
  pub keys : List ℕ
  pub pins : List ℕ

-- no words
abbrev pub no_words : SlotWords
no_words = record { keys = []; pins = [] }

-- These are the numbers in the words of the slots.
pub record AreWords (all_permits : ℕ) (words : List ℕ) (known : SlotWords) : Type 0 where
  pub key_count : length known.keys ≡ slots_of all_permits
  pub pin_count : length known.pins ≡ slots_of all_permits
  pub keys : (slot : ℕ) → slice_index words (key_word slot) ≡ slice_index known.keys slot
  pub pins : (slot : ℕ) → slice_index words (pin_word slot) ≡ slice_index known.pins slot

-- No slot has a key or a pin.
pub record AreBlank (all_permits : ℕ) (known : SlotWords) : Type 0 where
  pub key_count : length known.keys ≡ slots_of all_permits
  pub pin_count : length known.pins ≡ slots_of all_permits
  pub keys : (slot : ℕ) → slice_index known.keys slot ≡ 0
  pub pins : (slot : ℕ) → slice_index known.pins slot ≡ 0

-- the numbers after a slot got one more pin
abbrev pub pinned_words : ℕ → SlotWords → SlotWords
pinned_words slot known =
    record known { pins = slice_set known.pins slot (slice_index known.pins slot + 1) }

-- the numbers after a slot lost one pin
abbrev pub unpinned_words : ℕ → SlotWords → SlotWords
unpinned_words slot known =
    record known { pins = slice_set known.pins slot (slice_index known.pins slot - 1) }

-- the numbers after a slot got this key; 0 means none
abbrev pub keyed_words : ℕ → ℕ → SlotWords → SlotWords
keyed_words slot key known = record known { keys = slice_set known.keys slot key }

-- ---- pins, each a slot and the key that it had when it was pinned

-- the keys of the pins
abbrev pub keys_of_pins : List (ℕ × ℕ) → List ℕ
keys_of_pins pins = map (λ p. p.1) pins

-- how many of the pins are on a slot
abbrev pub pins_on : ℕ → List (ℕ × ℕ) → ℕ
pins_on slot [] = 0
pins_on slot (p ∷ ps) = cond (nat_eq p.0 slot) 1 0 + pins_on slot ps

-- the pins without one on this slot
abbrev pub without_pin_of : ℕ → List (ℕ × ℕ) → List (ℕ × ℕ)
without_pin_of slot [] = []
without_pin_of slot (p ∷ ps) = cond (nat_eq p.0 slot) ps (p ∷ without_pin_of slot ps)

-- The slot of each pin has the pin's key, which is not 0.
abbrev pub AreHeld : List ℕ → List (ℕ × ℕ) → Type 0
AreHeld words [] = Unit {0}
AreHeld words (p ∷ ps) =
    (slice_index words (key_word p.0) ≡ p.1) × (1 ≤ p.1) × AreHeld words ps

-- By these numbers, the slot of each pin has the pin's key, which is not 0, and at least one pin.
abbrev pub AreAmong : SlotWords → List (ℕ × ℕ) → Type 0
AreAmong known [] = Unit {0}
AreAmong known (p ∷ ps) = (slice_index known.keys p.0 ≡ p.1) × (1 ≤ p.1)
    × (1 ≤ slice_index known.pins p.0) × AreAmong known ps

-- The slots together have no more pins than all seats may hold.
abbrev pub AreFewPins : ℕ → SlotWords → Type 0
AreFewPins all_permits known = (slots : List ℕ) → IsDistinct nat_eq slots
    → sum_by (λ slot. slice_index known.pins slot) slots ≤ max_pins * all_permits
