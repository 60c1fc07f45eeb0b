-- What has a pass pinned, what is true of it, and what do its own steps change?
use Rattle.std.specs.Prelude.{◌≡◌, ℕ, ◌+◌, ◌≤◌, Bool, List, [], ◌∷◌, ◌++◌, map, length}
use Rattle.std.specs.Prelude.{Option, Some, None, IfSome}
use Rattle.std.specs.List.{All, sum_by}
use Rattle.std.specs.Option.{option_map, option_to_list}
use Rattle.tex_world.specs.World.{Files}
use Rattle.tiff_format.specs.declared.cut.Cut.{Cut}
use Rattle.tile_store.specs.Tile.{CachedTile}
use Rattle.tile_store.specs.Lawful.{FitsCut}
use Rattle.shard_gate.specs.Gate.{GateState, PinSeatState, PinState, one_of_shard}
use Rattle.shard_gate.specs.Visit.{visits_at, joined_at}
use Rattle.micro.specs.Items.{HasKey, key_first}
use Rattle.micro.specs.Recent.{AreRecent}
use Rattle.micro.specs.Runs.{IsAsked}

-- the greatest number of tiles that a pass may hold
abbrev pub max_holds : ℕ
max_holds = 4

-- What a pass has pinned.
pub record PinnedState : Type 0 where
  -- its permits and its pins
  pub seat : PinSeatState
  -- the cut of the levels that the tiles belong to
  pub cut : Cut
  -- its microcache: the tiles that it read last, the most recent first
  pub recent : List CachedTile
  -- the tiles that it holds, the oldest first
  pub holds : List CachedTile
  -- a tile whose pin could not be given back yet
  pub hand : Option CachedTile

-- the key of a tile
abbrev pub key_in : CachedTile → ℕ
key_in tile = tile.key

-- the tile of a pin
abbrev pub tile_of_pin : PinState → CachedTile
tile_of_pin pin = pin.tile

-- a pass that has pinned these tiles, as contracts see it
abbrev pub pinned_tiles : PinSeatState → Cut → List CachedTile → List CachedTile
    → Option CachedTile → PinnedState
pinned_tiles seat cut recent holds hand =
    record { seat = seat; cut = cut; recent = recent; holds = holds; hand = hand }

-- a pass that has pinned these tiles, given by their pins
abbrev pub pinned_state : PinSeatState → Cut → List CachedTile → List PinState → Option PinState
    → PinnedState
pinned_state seat cut recent holds hand =
    pinned_tiles seat cut recent (map tile_of_pin holds) (option_map tile_of_pin hand)

-- ---- comparing pins with tiles
--
-- Two lists have the same keys, each as often, if and only if every sum over one equals the sum
-- over the other.

-- the sum over the keys of tiles
abbrev pub key_sum : (ℕ → ℕ) → List CachedTile → ℕ
key_sum f tiles = sum_by (λ tile. f tile.key) tiles

-- the sum over a tile that may be missing
abbrev pub hand_sum : (ℕ → ℕ) → Option CachedTile → ℕ
hand_sum f None = 0
hand_sum f (Some tile) = f tile.key

-- how many of the tiles belong to this shard
abbrev pub tiles_at : ℕ → ℕ → PinnedState → ℕ
tiles_at shards shard p = hand_sum (one_of_shard shards shard) p.hand
    + (key_sum (one_of_shard shards shard) p.recent + key_sum (one_of_shard shards shard) p.holds)

-- The pins are those of the tiles: at most two in the microcache and four held. In a modelled world
-- each tile is a cell of its file under the cut.
pub record ArePinned (files : Files) (p : PinnedState) : Type 0 where
  pub pins : (f : ℕ → ℕ)
      → sum_by f p.seat.pins ≡ hand_sum f p.hand + (key_sum f p.recent + key_sum f p.holds)
  pub hand_cell : IfSome p.hand (FitsCut files p.cut)
  pub recent_cells : All (FitsCut files p.cut) p.recent
  pub hold_cells : All (FitsCut files p.cut) p.holds
  pub two_latest : length p.recent ≤ 2
  pub few : length p.holds ≤ max_holds
  pub some : 1 ≤ p.seat.permits

-- the pass pins tiles of this gate
pub record PinsAt (gate : GateState) (p : PinnedState) : Type 0 where
  pub at : p.seat.gate ≡ gate.id
  pub under : p.cut ≡ gate.cut

-- The seat belongs to the same gate with the same permits and has taken over no other, so that all
-- visits since are its own. The cut is the same.
pub record SameSeat (old new : PinnedState) : Type 0 where
  pub gate : new.seat.gate ≡ old.seat.gate
  pub permits : new.seat.permits ≡ old.seat.permits
  pub joined : new.seat.joined ≡ old.seat.joined
  pub cut : new.cut ≡ old.cut

-- The microcache and the holds are unchanged.
pub record KeepsTiles (old new : PinnedState) : Type 0 where
  pub seat : SameSeat old new
  pub recent : new.recent ≡ old.recent
  pub holds : new.holds ≡ old.holds

-- The same tiles are pinned, in the same places.
pub record KeepsPinned (old new : PinnedState) : Type 0 where
  pub pins : new.seat.pins ≡ old.seat.pins
  pub hand : new.hand ≡ old.hand
  pub tiles : KeepsTiles old new

-- The microcache is unchanged.
pub record KeepsRecent (old new : PinnedState) : Type 0 where
  pub seat : SameSeat old new
  pub recent : new.recent ≡ old.recent

-- The holds are unchanged.
pub record KeepsHolds (old new : PinnedState) : Type 0 where
  pub seat : SameSeat old new
  pub holds : new.holds ≡ old.holds

-- Only the permits, and the seats that were taken over, may have changed.
pub record KeepsAllButPermits (old new : PinnedState) : Type 0 where
  pub gate : new.seat.gate ≡ old.seat.gate
  pub pins : new.seat.pins ≡ old.seat.pins
  pub visits : new.seat.visits ≡ old.seat.visits
  pub cut : new.cut ≡ old.cut
  pub recent : new.recent ≡ old.recent
  pub holds : new.holds ≡ old.holds
  pub hand : new.hand ≡ old.hand

-- Nothing is pinned, at this seat and under this cut.
pub record IsNewPart (seat_given : PinSeatState) (cut_given : Cut) (new : PinnedState)
    : Type 0 where
  pub seat : new.seat ≡ seat_given
  pub cut : new.cut ≡ cut_given
  pub recent : new.recent ≡ []
  pub holds : new.holds ≡ []
  pub hand : new.hand ≡ None

-- It has one permit, nothing pinned and no visit, at the same gate and under the same cut.
pub record IsSecondPart (old new : PinnedState) : Type 0 where
  pub gate : new.seat.gate ≡ old.seat.gate
  pub permits : new.seat.permits ≡ 1
  pub visits : (shard : ℕ) → visits_at shard new.seat.visits ≡ []
  pub joined : (shard : ℕ) → joined_at shard new.seat.joined ≡ []
  pub cut : new.cut ≡ old.cut
  pub recent : new.recent ≡ []
  pub holds : new.holds ≡ []
  pub hand : new.hand ≡ None

-- ---- asking the microcache for a key

-- A key was asked for: its tile, found or newly placed, is now first.
abbrev pub IsAskedFor : ℕ → List CachedTile → List CachedTile → Type 0
IsAskedFor key old new = (hit : Bool) × IsAsked key_in old key hit new

-- If the microcache had the last of the keys that it was asked for, it still has after being asked
-- for this one.
abbrev pub AsksFor : ℕ → List CachedTile → List CachedTile → Type 0
AsksFor key old new = (asked : List ℕ) → AreRecent key_in asked old
    → AreRecent key_in (asked ++ key ∷ []) new

-- The tile of the key is first, so that asking for it again changes nothing.
pub record StaysAskedFor (key : ℕ) (tiles : List CachedTile) : Type 0 where
  pub there : HasKey key_in key tiles
  pub moved : tiles ≡ key_first key_in key tiles
  pub again : AsksFor key tiles tiles

-- ---- all of its tiles

-- all tiles in the order in which they were pinned last: the holds, the microcache from the most
-- recent on, and the one in hand
abbrev pub tiles_in : PinnedState → List CachedTile
tiles_in p = p.holds ++ (p.recent ++ option_to_list p.hand)

-- A first part of these tiles is left; the pins of the others were given back.
abbrev pub LeavesPart : PinnedState → PinnedState → Type 0
LeavesPart old new = (rest : List CachedTile) × (tiles_in new ++ rest ≡ tiles_in old)
