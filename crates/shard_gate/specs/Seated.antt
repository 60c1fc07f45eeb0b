-- How do contracts see a table, and a seat at it that does not have the lock?
use Rattle.std.specs.Prelude.{◌≡◌, ℕ, ◌+◌, ◌-◌, ◌≤◌, true, false, List, [], ◌∷◌, ◌++◌}
use Rattle.atomic_table.specs.Table.{Me}
use Rattle.atomic_table.specs.Seated.{TableId}
use Rattle.atomic_table.specs.declared.shared.Seat.{Seat}
use Rattle.shard_gate.specs.Words.{word_count, max_permits, keys_of_pins}
use Rattle.shard_gate.specs.Visit.{Visit}
use Rattle.std.specs.List.{All}
use Rattle.shard_gate.specs.declared.standing.Standing.{Standing}
use Rattle.shard_gate.specs.declared.rule.Terms.{Terms}

-- The identity of a shard. No two shards have the same.
pub record ShardId : Type 0 where
  -- it encodes the share and the cut
  pub tag : ℕ
  -- the permits of all seats together
  pub passes : ℕ
  -- the table with its words and its body
  pub table : TableId

-- the shard in this table, made with these terms
abbrev pub shard_id : Terms → TableId → ShardId
shard_id terms table = record { tag = terms.tag; passes = terms.passes; table = table }

-- The shard was made with this tag and this number of permits.
pub record IsMadeBy (lawful_tag all_permits : ℕ) (id : ShardId) : Type 0 where
  pub tag : id.tag ≡ lawful_tag
  pub passes : id.passes ≡ all_permits

-- Each shard was made with these terms.
abbrev pub AreMadeBy : Terms → List ShardId → Type 0
AreMadeBy terms ids = All (IsMadeBy terms.tag terms.passes) ids

-- A seat at a shard, as contracts see it.
pub record SeatAt : Type 0 where
  -- the shard that it belongs to
  pub shard : ShardId
  pub permits : ℕ
  -- the keys of its pins
  pub pins : List ℕ
  -- its visits to the shard, the last one first
  pub visits : List Visit
  -- those of the seats that it has taken over, a list for each seat
  pub joined : List (List Visit)

-- The table has all its words, and one place for the body.
pub record IsLaid (passes : ℕ) (table : TableId) : Type 0 where
  pub words : table.words ≡ word_count passes
  pub slots : table.slots ≡ 1
  pub few : passes ≤ max_permits

module _ {S : Type 0} where
  -- this seat, as contracts see it
  abbrev pub seat_at : Seat S Standing → SeatAt
  seat_at seat = record {
    shard = record {
      tag = seat.me.0.tag;
      passes = seat.me.0.passes;
      table = seat.table_id;
    };
    permits = seat.me.0.permits;
    pins = keys_of_pins seat.me.0.pins;
    visits = seat.me.0.visits;
    joined = seat.me.0.joined;
  }

  -- The seat has neither the lock nor the body.
  pub record IsIdle (me : Me S Standing) : Type 0 where
    pub live : me.0.live ≡ true
    pub turn : me.0.has_turn ≡ false
    pub slots : me.1 ≡ []

  -- The seat is idle, and has this number of permits.
  pub record IsSeated (me : Me S Standing) (count : ℕ) : Type 0 where
    pub idle : IsIdle me
    pub permits : me.0.permits ≡ count

-- the shard of a seat
abbrev pub shard_of_seat : SeatAt → ShardId
shard_of_seat s = s.shard

-- the first seat at a shard, which has all permits
abbrev pub first_seat : ShardId → SeatAt
first_seat id =
    record { shard = id; permits = id.passes; pins = []; visits = []; joined = [] }

-- the seat after it gave away one permit
abbrev pub kept_seat : SeatAt → SeatAt
kept_seat s = record s { permits = s.permits - 1 }

-- the new seat with that permit, without pins or visits
abbrev pub new_seat : SeatAt → SeatAt
new_seat s = record s { permits = 1; pins = []; visits = []; joined = [] }

-- A seat with the permits of both, and its own pins. It lists the other's visits apart from its own.
abbrev pub both_seats : SeatAt → SeatAt → SeatAt
both_seats own other = record own {
  permits = own.permits + other.permits;
  joined = (other.visits ∷ other.joined) ++ own.joined;
}

-- at each shard, a seat with the permits of both
abbrev pub joined_seats : List SeatAt → List SeatAt → List SeatAt
joined_seats [] ys = []
joined_seats (x ∷ xs) [] = x ∷ xs
joined_seats (x ∷ xs) (y ∷ ys) = both_seats x y ∷ joined_seats xs ys
