-- What does a visit to a shard answer, and which entries does it leave?
use Rattle.std.specs.Prelude.{◌≡◌, ◌≢◌, ℕ, ◌+◌, ◌*◌, ◌<◌, ◌≤◌, true, false, List, [], ◌∷◌}
use Rattle.std.specs.Prelude.{◌^◌, length}
use Rattle.std.specs.Prelude.{slice_index, Result, Option}
use Rattle.std.specs.Prelude.{None, IfOk}
use Rattle.tex_world.specs.World.{Files}
use Rattle.tile_store.specs.Tile.{CachedTile}
use Rattle.tile_store.specs.Tag.{cut_of}
use Rattle.tile_store.specs.CachedTile.{Entries, pin_sum}
use Rattle.tile_store.specs.Links.{is_in}
use Rattle.tile_store.specs.Keys.{key_in}
use Rattle.tile_store.specs.Slots.{ShardState}
use Rattle.tile_store.specs.Lawful.{FitsCut, Lawful}
use Rattle.shard_gate.specs.Seated.{SeatAt}
use Rattle.shard_gate.specs.Gate.{IsTileOf, IfFound}
use Rattle.shard_gate.specs.Words.{SlotWords, pinned_words, keyed_words, slots_of, max_pins}
use Rattle.shard_gate.specs.Home.{words_of, IsStored, IsHome}
use Rattle.shard_gate.specs.Turn.{terms_of, with_pin, with_key}
use Rattle.shard_gate.specs.declared.standing.Standing.{Standing}
use Rattle.atomic_table.specs.Table.{Me}

-- The seat is at the same shard, with the same permits, and has taken over no other seat.
pub record IsSeatOf (old new : SeatAt) : Type 0 where
  pub shard : new.shard ≡ old.shard
  pub permits : new.permits ≡ old.permits
  pub joined : new.joined ≡ old.joined

-- One more tile can be pinned: not every slot has a pin, and the pins can still be counted.
pub record HasRoom (s : ShardState) : Type 0 where
  pub slot : pin_sum s.entries < length s.slots
  pub count : pin_sum s.entries + 1 < 2 ^ 32

-- A tile that was found has the key, and fits the cut in the tag.
abbrev pub FoundUnder
    : {A E : Type 0} → (A → CachedTile) → Files → ℕ → ℕ → Result (Option A) E → Type 0
FoundUnder value files tag key answer =
    IfFound answer (λ found. IsTileOf files (cut_of tag) key (value found))

-- The tile that is kept has the key, and fits the cut in the tag.
abbrev pub KeptUnder : {A E : Type 0} → (A → CachedTile) → Files → ℕ → ℕ → Result A E → Type 0
KeptUnder value files tag key answer =
    IfOk answer (λ kept. IsTileOf files (cut_of tag) key (value kept))

-- what is true of a found tile, for each tag for which the entries are lawful
abbrev pub FoundAmong
    : {A E : Type 0} → (A → CachedTile) → Files → Entries → ℕ → Result (Option A) E → Type 0
FoundAmong value files es key answer =
    (tag : ℕ) → Lawful files tag es → FoundUnder value files tag key answer

-- what is true of a kept tile, for each such tag whose cut the new tile fits
abbrev pub KeptAmong
    : {A E : Type 0} → (A → CachedTile) → Files → Entries → CachedTile → Result A E → Type 0
KeptAmong value files es tile answer = (tag : ℕ) → Lawful files tag es
    → FitsCut files (cut_of tag) tile → KeptUnder value files tag tile.key answer

-- ---- the words of the slots

-- The slot of this key has one more pin.
pub record PinsSlot (key slot : ℕ) (old new : ShardState) : Type 0 where
  pub inside : slot < length old.slots
  pub key_is : slice_index (words_of old).keys slot ≡ key
  pub words : words_of new ≡ pinned_words slot (words_of old)

-- The slot has this key and one more pin. If it had another key or none before, it had no pin.
pub record InsertsSlot (key slot : ℕ) (old new : ShardState) : Type 0 where
  pub inside : slot < length old.slots
  pub free : slice_index (words_of old).keys slot ≢ key → slice_index (words_of old).pins slot ≡ 0
  pub words : words_of new ≡ pinned_words slot (keyed_words slot key (words_of old))

-- These are the words of the shard, except that emptied slots not yet reported still have their
-- keys.
pub record AreBehind (known : SlotWords) (s : ShardState) : Type 0 where
  pub count : length known.keys ≡ length s.slots
  pub pins : known.pins ≡ (words_of s).pins
  pub keys : (slot : ℕ) → is_in slot s.left ≡ false
      → slice_index known.keys slot ≡ slice_index (words_of s).keys slot
  pub empty : (slot : ℕ) → is_in slot s.left ≡ true → key_in s.slots slot ≡ None

-- ---- a seat that has the lock

-- the seat with this key and one more pin on the slot, which it has filled or found with the key
abbrev pub with_kept : ℕ → ℕ → List ℕ → Standing → Standing
with_kept slot key filled v = record (with_pin slot (with_key slot key v)) { filled = filled }

-- The seat may write this key into the slot and pin it: the slot has the key, or it has no pin.
pub record MayKeep (slot key : ℕ) (v : Standing) : Type 0 where
  pub inside : slot < slots_of v.passes
  pub live : v.live ≡ true
  pub turn : v.has_turn ≡ true
  pub count : slot < length v.known.keys
  pub room : length v.pins + 1 ≤ max_pins * v.permits
  pub some : 1 ≤ key
  pub free : slice_index v.known.keys slot ≢ key → slice_index v.known.pins slot ≡ 0

module _ {W : Type 0} (value : W → ShardState) (files : Files) where
  -- The seat has the lock and the shard. It knows the shard's words, except for emptied slots that
  -- are not yet reported.
  pub record IsTellingOf (me : Me W Standing) : Type 0 where
    pub body : W
    pub slots : me.1 ≡ (0, body) ∷ []
    pub live : me.0.live ≡ true
    pub turn : me.0.has_turn ≡ true
    pub behind : AreBehind me.0.known (value body)
    pub stored : IsStored files (terms_of me.0) (value body)

  -- Every emptied slot was reported. The seat knows the words of the shard, whose entries are
  -- unchanged.
  pub record HasToldOf (old new : Me W Standing) : Type 0 where
    pub body : W
    pub before : W
    pub slots : new.1 ≡ (0, body) ∷ []
    pub slots_before : old.1 ≡ (0, before) ∷ []
    pub view : new.0 ≡ record old.0 { known = words_of (value body); filled = new.0.filled }
    pub entries : (value body).entries ≡ (value before).entries
    pub home : IsHome files (terms_of old.0) (value body)
