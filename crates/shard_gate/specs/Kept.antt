-- What is true of the fields of a gate and of a seat?
use Rattle.std.specs.Prelude.{◌≡◌, ℕ, ◌*◌, ◌<◌, ◌≤◌, List, [], ◌∷◌, ◌++◌, map, length}
use Rattle.std.specs.Prelude.{Contains, slice_index_or}
use Rattle.std.specs.List.{All}
use Rattle.tiff_format.specs.declared.cut.Cut.{Cut}
use Rattle.tiff_format.specs.Cut.{IsCut}
use Rattle.tile_store.specs.Tag.{tag_of}
use Rattle.shard_gate.specs.Visit.{Visit}
use Rattle.shard_gate.specs.Seated.{ShardId, SeatAt, shard_of_seat, IsMadeBy}
use Rattle.shard_gate.specs.Gate.{GateState, PinSeatState}
use Rattle.shard_gate.specs.Gate.{max_shards, max_permits, max_pins, max_budget, shard_of}

-- the visits of a seat
abbrev pub visits_of_seat : SeatAt → List Visit
visits_of_seat s = s.visits

-- the visits of the seats that a seat has taken over
abbrev pub joined_of_seat : SeatAt → List (List Visit)
joined_of_seat s = s.joined

-- the keys of the pins of these seats
abbrev pub keys_of_seats : List SeatAt → List ℕ
keys_of_seats [] = []
keys_of_seats (s ∷ seats) = s.pins ++ keys_of_seats seats

-- a caller's seat, as contracts see it, made of its seats at the shards
abbrev pub seat_state : List SeatAt → ℕ → PinSeatState
seat_state seats permits = record {
  gate = map shard_of_seat seats;
  permits = permits;
  pins = keys_of_seats seats;
  visits = map visits_of_seat seats;
  joined = map joined_of_seat seats;
}

-- The seat at a shard has these permits, and no more than there may be passes.
pub record IsPartOf (permits : ℕ) (s : SeatAt) : Type 0 where
  pub same : s.permits ≡ permits
  pub few : permits ≤ s.shard.passes
  pub most : s.shard.passes ≤ max_permits

-- Each pin is at the shard of its key.
abbrev pub ArePlaced : List SeatAt → Type 0
ArePlaced seats = (k key : ℕ) (d : SeatAt) → k < length seats
    → Contains (slice_index_or seats k d).pins key → shard_of (length seats) key ≡ k

-- A caller has a seat at each shard, at least one permit, and not too many pins.
pub record IsPinSeat (seats : List SeatAt) (permits : ℕ) : Type 0 where
  pub parts : All (IsPartOf permits) seats
  pub some : 0 < length seats
  pub least : 1 ≤ permits
  pub few : length (keys_of_seats seats) ≤ max_pins * permits
  pub placed : ArePlaced seats

-- the gate with these shards, as contracts see it
abbrev pub gate_state : List ShardId → ℕ → Cut → ℕ → GateState
gate_state shards share cut passes =
    record { id = shards; share = share; cut = cut; passes = passes }

-- Each shard was made with the tag of the share and the cut, and for this number of passes.
pub record IsGate (shards : List ShardId) (share : ℕ) (cut : Cut) (passes : ℕ) : Type 0 where
  pub made : All (IsMadeBy (tag_of share cut) passes) shards
  pub some : 0 < length shards
  pub few : length shards ≤ max_shards
  pub cut_is : IsCut cut
  pub share_high : share ≤ max_budget
  pub passes_high : passes ≤ max_permits
