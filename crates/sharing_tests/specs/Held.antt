-- What does a test know of a seat that has no pin, or one?
use Rattle.std.specs.Prelude.{◌≡◌, ℕ, List, [], ◌∷◌}
use Rattle.std.specs.List.{sum_by}
use Rattle.shard_gate.specs.Seated.{ShardId}
use Rattle.shard_gate.specs.Gate.{PinSeatState}

-- the seat belongs to this gate and has no pin
abbrev pub IsIdleAt : List ShardId → PinSeatState → Type 0
IsIdleAt id seat = (seat.gate ≡ id) × (seat.pins ≡ [])

-- the seat belongs to this gate and has one pin, with this key
abbrev pub HoldsAt : List ShardId → ℕ → PinSeatState → Type 0
HoldsAt id key seat = (seat.gate ≡ id) × (seat.pins ≡ key ∷ [])

-- The seat belongs to the same gate and has the same permits. Its pins have the same keys, in any
-- order, so that every sum over them is unchanged.
pub record SameKeys (old new : PinSeatState) : Type 0 where
  pub gate : new.gate ≡ old.gate
  pub permits : new.permits ≡ old.permits
  pub keys : (f : ℕ → ℕ) → sum_by f new.pins ≡ sum_by f old.pins
