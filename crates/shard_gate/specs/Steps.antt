-- What does each kind of atomic step need, and what does it tell its seat?
use Rattle.std.specs.Prelude.{◌≡◌, ◌≢◌, ℕ, ◌+◌, ◌*◌, ◌<◌, ◌≤◌, true, List, [], ◌∷◌}
use Rattle.std.specs.Prelude.{length, slice_index, slice_index_or}
use Rattle.std.specs.List.{sum_by}
use Rattle.tile_store.specs.CachedTile.{Entries}
use Rattle.atomic_table.specs.Table.{Me, Step}
use Rattle.shard_gate.specs.declared.standing.Standing.{Standing}
use Rattle.shard_gate.specs.declared.rule.Terms.{Terms}
use Rattle.shard_gate.specs.Words.{key_word, pin_word, max_pins, slots_of}
use Rattle.shard_gate.specs.Words.{SlotWords, pins_on}
use Rattle.shard_gate.specs.Words.{AreAmong, AreFewPins}
use Rattle.shard_gate.specs.Turn.{terms_of, with_turn, without_turn, with_pin, without_pin, with_key}

-- The pin word of each slot includes the seat's own pins, and has no others if the seat has all
-- permits.
pub record HasOwnPins (v : Standing) (known : SlotWords) : Type 0 where
  pub own : (slot : ℕ) → pins_on slot v.pins ≤ slice_index known.pins slot
  pub alone : v.permits ≡ v.passes
      → (slot : ℕ) → slice_index known.pins slot ≡ pins_on slot v.pins

-- The seat may read the key of the slot.
pub record MayLook (slot : ℕ) (v : Standing) : Type 0 where
  pub inside : slot < slots_of v.passes
  pub live : v.live ≡ true
  pub turn : v.has_turn ≡ true

-- The seat may pin the slot: the slot has a key, and the seat may have another pin.
pub record MayPin (slot : ℕ) (v : Standing) : Type 0 where
  pub inside : slot < slots_of v.passes
  pub live : v.live ≡ true
  pub turn : v.has_turn ≡ true
  pub room : length v.pins + 1 ≤ max_pins * v.permits
  pub key : 1 ≤ slice_index v.known.keys slot

-- The seat may unpin the slot, because it has a pin on it.
pub record MayUnpin (slot : ℕ) (v : Standing) : Type 0 where
  pub inside : slot < slots_of v.passes
  pub live : v.live ≡ true
  pub turn : v.has_turn ≡ true
  pub own : 1 ≤ pins_on slot v.pins

-- The seat may write the key of the slot, because no seat has a pin on it.
pub record MayFill (slot : ℕ) (v : Standing) : Type 0 where
  pub inside : slot < slots_of v.passes
  pub live : v.live ≡ true
  pub turn : v.has_turn ≡ true
  pub unpinned : slice_index v.known.pins slot ≡ 0

-- By these numbers, the slot of each pin has the pin's key, which is not 0.
abbrev pub AreKeyed : SlotWords → List (ℕ × ℕ) → Type 0
AreKeyed known [] = Unit {0}
AreKeyed known (p ∷ ps) = (slice_index known.keys p.0 ≡ p.1) × (1 ≤ p.1) × AreKeyed known ps

-- the same for the pins of each seat
abbrev pub AllKeyed : SlotWords → List (List (ℕ × ℕ)) → Type 0
AllKeyed known [] = Unit {0}
AllKeyed known (pins ∷ seats) = AreKeyed known pins × AllKeyed known seats

-- The pins in the words are those of all seats together, of which one has these pins.
pub record ArePinsIn (own_pins : List (ℕ × ℕ)) (known : SlotWords) : Type 0 where
  -- the pins of each seat
  pub seats : List (List (ℕ × ℕ))
  -- the index of the seat that has the given pins
  pub mine : ℕ
  pub inside : mine < length seats
  pub own : slice_index_or seats mine [] ≡ own_pins
  pub keyed : AllKeyed known seats
  pub sum : (slot : ℕ) → slice_index known.pins slot ≡ sum_by (pins_on slot) seats

module _ {S : Type 0} where
  -- The seat has the lock and a lawful body, which began a visit. It knows the words of the slots,
  -- whose pins are those of all seats and include its own.
  abbrev pub HasBody : (Terms → S → Type 0) → (S → Entries) → (S → SlotWords) → Standing
      → Me S Standing → Type 0
  HasBody lawful shown words_in old new = (body : S)
      × (new ≡ (with_turn (shown body) (words_in body) old, (0, body) ∷ []))
      × lawful (terms_of old) body × AreAmong (words_in body) old.pins
      × AreFewPins old.passes (words_in body) × HasOwnPins old (words_in body)
      × ArePinsIn old.pins (words_in body)

  -- the entries of the body that a seat has taken
  abbrev pub entries_of : (S → Entries) → List (ℕ × S) → Entries
  entries_of shown [] = []
  entries_of shown (slot ∷ slots) = shown slot.1

  -- These places are one body, which is lawful for the terms and has these words.
  abbrev pub AreLawful : (Terms → S → Type 0) → (S → SlotWords) → Standing → List (ℕ × S) → Type 0
  AreLawful lawful words_in v slots = (body : S) × (slots ≡ (0, body) ∷ [])
      × lawful (terms_of v) body × (v.known ≡ words_in body)

  -- After a try to lock: if the lock was free, the seat has it; otherwise nothing changed.
  pub record Took (lawful : Terms → S → Type 0) (shown : S → Entries) (words_in : S → SlotWords)
      (step : Step S) (old : Me S Standing) (found : ℕ) (new : Me S Standing) : Type 0 where
    pub won : found ≡ 0 → HasBody lawful shown words_in old.0 new
    pub lost : found ≢ 0 → new ≡ old

  -- After unlocking, the seat has neither lock nor body, and its last visit has ended.
  pub record Gave (shown : S → Entries) (step : Step S) (old : Me S Standing) (found : ℕ)
      (new : Me S Standing) : Type 0 where
    pub view : new.0 ≡ without_turn (entries_of shown old.1) old.0
    pub slots : new.1 ≡ []

  -- A load of the lock word changes nothing. It shows that the seat has no more permits than all
  -- seats together.
  pub record Counted (step : Step S) (old : Me S Standing) (found : ℕ) (new : Me S Standing)
      : Type 0 where
    pub same : new ≡ old
    pub few : old.0.permits ≤ old.0.passes

  -- A load of a key word changes nothing, and finds what the seat knows.
  pub record Looked (step : Step S) (old : Me S Standing) (found : ℕ) (new : Me S Standing)
      : Type 0 where
    pub same : new ≡ old
    pub key : (slot : ℕ) → step.word ≡ key_word slot
        → found ≡ slice_index old.0.known.keys slot

  -- After a pin, the seat has one more pin, on the slot whose word was changed.
  pub record Pinned (step : Step S) (old : Me S Standing) (found : ℕ) (new : Me S Standing)
      : Type 0 where
    pub pin : (slot : ℕ) → step.word ≡ pin_word slot → new ≡ (with_pin slot old.0, old.1)

  -- After an unpin, the seat has one pin less on the slot whose word was changed.
  pub record Unpinned (step : Step S) (old : Me S Standing) (found : ℕ) (new : Me S Standing)
      : Type 0 where
    pub pin : (slot : ℕ) → step.word ≡ pin_word slot → new ≡ (without_pin slot old.0, old.1)

  -- After a fill, the slot whose word was changed has the key that was written.
  pub record Filled (step : Step S) (old : Me S Standing) (found : ℕ) (new : Me S Standing)
      : Type 0 where
    pub key : (slot : ℕ) → step.word ≡ key_word slot
        → new ≡ (with_key slot step.first old.0, old.1)
