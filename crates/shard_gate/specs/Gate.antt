-- How do contracts see a gate and a caller's seat, and what does each call leave of the seat?
use Rattle.std.specs.Prelude.{◌≡◌, ℕ, ◌+◌, ◌-◌, ◌*◌, ◌/◌, ◌%◌, ◌^◌, ◌≤◌, List, [], ◌∷◌}
use Rattle.std.specs.Prelude.{◌<◌, ◌++◌, cond, nat_eq, length, IsPermutation, Result, Option}
use Rattle.std.specs.Prelude.{IfOk, IfSome, IfNone}
use Rattle.std.specs.List.{All, sum_by}
use Rattle.tex_world.specs.World.{Files}
use Rattle.tiff_format.specs.declared.cut.Cut.{Cut}
use Rattle.tiff_format.specs.declared.shard_count.ShardCount.{ShardCount}
use Rattle.tiff_format.specs.Cut.{IsCut}
use Rattle.tile_layout.specs.Key.{generation_of, file_of, level_of, index_of}
use Rattle.tile_store.specs.Tile.{CachedTile}
use Rattle.tile_store.specs.Told.{ToldBy}
use Rattle.tile_store.specs.CachedTile.{Entries}
use Rattle.tile_store.specs.Tag.{tag_of}
use Rattle.tile_store.specs.Lawful.{HasCell, FitsCut, Lawful}
pub use Rattle.shard_gate.specs.Words.{max_permits, max_pins, more_slots, slots_of}
use Rattle.shard_gate.specs.Visit.{Visit, visits_at, joined_at}
use Rattle.shard_gate.specs.Given.{IsCountOf}
use Rattle.shard_gate.specs.Seated.{ShardId}
use Rattle.shard_gate.specs.declared.error.NotPinned.{NotPinned}
use Rattle.shard_gate.specs.declared.error.NotPinned.TheVariants.{NoMemory, Busy}

-- the greatest budget in bytes
abbrev pub max_budget : ℕ
max_budget = 2 ^ 40

-- the greatest number of shards
abbrev pub max_shards : ℕ
max_shards = 64

-- the shard of a key
abbrev pub shard_of : ℕ → ℕ → ℕ
shard_of shards key =
    (index_of key + 7 * level_of key + 13 * file_of key + 31 * generation_of key) % shards

-- 1 for a key of this shard, otherwise 0
abbrev pub one_of_shard : ℕ → ℕ → ℕ → ℕ
one_of_shard shards shard key = cond (nat_eq (shard_of shards key) shard) 1 0

-- how many of these keys belong to the shard
abbrev pub own_pins : ℕ → ℕ → List ℕ → ℕ
own_pins shards shard keys = sum_by (one_of_shard shards shard) keys

-- A gate, as contracts see it.
pub record GateState : Type 0 where
  -- its shards, which identify it: no two gates have the same
  pub id : List ShardId
  -- the bytes that the unpinned tiles of a shard may take
  pub share : ℕ
  -- the cut of the levels that its tiles belong to
  pub cut : Cut
  -- the permits of all its seats together
  pub passes : ℕ

-- A caller's seat, as contracts see it.
pub record PinSeatState : Type 0 where
  -- the gate that it belongs to
  pub gate : List ShardId
  pub permits : ℕ
  -- the keys of its pins, each as often as it was pinned
  pub pins : List ℕ
  -- its visits to each shard, the last one first
  pub visits : List (List Visit)
  -- those of the seats that it has taken over: for each shard, a list for each seat
  pub joined : List (List (List Visit))

-- A pin, as contracts see it.
pub record PinState : Type 0 where
  pub tile : CachedTile

-- The limits within which a gate can be made.
pub record AreLimits (budget shards passes : ℕ) (cut : Cut) : Type 0 where
  pub budget_high : budget ≤ max_budget
  pub shards_low : 1 ≤ shards
  pub shards_high : shards ≤ max_shards
  pub passes_low : 1 ≤ passes
  pub passes_high : passes ≤ max_permits
  pub cut_is : IsCut cut

-- The budget is divided equally, and the tag of each shard encodes its share and the cut.
pub record IsNewGate (budget shards passes : ℕ) (cut_given : Cut) (gate : GateState) : Type 0 where
  pub count : length gate.id ≡ shards
  pub share : gate.share ≡ budget / shards
  pub cut : gate.cut ≡ cut_given
  pub all_permits : gate.passes ≡ passes
  pub tags : All (λ id. id.tag ≡ tag_of (budget / shards) cut_given) gate.id

-- The first seat of a gate has all permits, no pin, and no visit.
pub record IsFirstSeat (made : GateState) (seat : PinSeatState) : Type 0 where
  pub gate : seat.gate ≡ made.id
  pub permits : seat.permits ≡ made.passes
  pub pins : seat.pins ≡ []
  pub visits : (k : ℕ) → visits_at k seat.visits ≡ []
  pub joined : (k : ℕ) → joined_at k seat.joined ≡ []

-- in a modelled world, the key names a cell of its file under the cut, and the tile has the cell's
-- rectangle
abbrev pub HasCellRect : Files → Cut → CachedTile → Type 0
HasCellRect files cut tile = ToldBy files tile.key (λ bytes. HasCell cut bytes tile)

-- The tile has this key and, in a modelled world, is the cell under the cut.
pub record IsTileOf (files : Files) (cut : Cut) (key : ℕ) (tile : CachedTile) : Type 0 where
  pub keyed : tile.key ≡ key
  pub fits : FitsCut files cut tile

-- `P` holds of what was found, if something was found
abbrev pub IfFound : {A E : Type 0} → Result (Option A) E → (A → Type 0) → Type 0
IfFound result P = IfOk result (λ found. IfSome found P)

-- `P` holds if nothing was found
abbrev pub IfNotFound : {A E : Type 0} → Result (Option A) E → Type 0 → Type 0
IfNotFound result P = IfOk result (λ found. IfNone found P)

-- The count is that of entries which are lawful for the tag.
pub record CountsLawful (files : Files) (tag : ℕ) (count : ShardCount) : Type 0 where
  pub entries : Entries
  pub numbers : IsCountOf entries count
  pub lawful : Lawful files tag entries

-- The seat belongs to the same gate, with the same permits and pins. It took over no other seat, so
-- all visits since are its own.
pub record SamePins (old new : PinSeatState) : Type 0 where
  pub gate : new.gate ≡ old.gate
  pub permits : new.permits ≡ old.permits
  pub pins : new.pins ≡ old.pins
  pub joined : new.joined ≡ old.joined

-- The seat has one more pin, with this key.
pub record OnePinMore (key : ℕ) (old new : PinSeatState) : Type 0 where
  pub gate : new.gate ≡ old.gate
  pub permits : new.permits ≡ old.permits
  pub pins : IsPermutation (key ∷ old.pins) new.pins
  pub joined : new.joined ≡ old.joined

-- The seat has one pin less, with this key.
pub record OnePinLess (key : ℕ) (old new : PinSeatState) : Type 0 where
  pub gate : new.gate ≡ old.gate
  pub permits : new.permits ≡ old.permits
  pub pins : IsPermutation old.pins (key ∷ new.pins)
  pub joined : new.joined ≡ old.joined

-- The seat is unchanged.
pub record IsSameSeat (old new : PinSeatState) : Type 0 where
  pub gate : new.gate ≡ old.gate
  pub permits : new.permits ≡ old.permits
  pub pins : new.pins ≡ old.pins
  pub visits : new.visits ≡ old.visits
  pub joined : new.joined ≡ old.joined

-- The tile comes back if the waiter gave up.
abbrev pub GivesBackIfBusy : {W B : Type 0} → CachedTile → NotPinned W B → Type 0
GivesBackIfBusy tile NoMemory = Unit {0}
GivesBackIfBusy tile (Busy back busy) = back ≡ tile

-- The new seat has one permit, no pin, and no visit.
pub record IsSecondSeat (old seat : PinSeatState) : Type 0 where
  pub gate : seat.gate ≡ old.gate
  pub permits : seat.permits ≡ 1
  pub pins : seat.pins ≡ []
  pub visits : (k : ℕ) → visits_at k seat.visits ≡ []
  pub joined : (k : ℕ) → joined_at k seat.joined ≡ []

-- The seat keeps all pins, and all permits but one.
pub record AfterSplit (old new : PinSeatState) : Type 0 where
  pub gate : new.gate ≡ old.gate
  pub permits : new.permits ≡ old.permits - 1
  pub pins : new.pins ≡ old.pins
  pub visits : new.visits ≡ old.visits
  pub joined : new.joined ≡ old.joined

-- to each shard, the visits of the seats that were taken over are now those of `other` and of the
-- seats that it took over, and the earlier ones
abbrev pub JoinsVisits : PinSeatState → PinSeatState → PinSeatState → Type 0
JoinsVisits other old new = (k : ℕ) → k < length old.gate → joined_at k new.joined
    ≡ (visits_at k other.visits ∷ joined_at k other.joined) ++ joined_at k old.joined

-- The seat has the permits of both seats, and its own pins and visits. It lists the visits of the
-- other seat apart from its own.
pub record AfterJoin (other old new : PinSeatState) : Type 0 where
  pub gate : new.gate ≡ old.gate
  pub permits : new.permits ≡ old.permits + other.permits
  pub pins : new.pins ≡ old.pins
  pub visits : new.visits ≡ old.visits
  pub joined : JoinsVisits other old new
