-- How is a cache made, and how are its passes made, split and joined?
use Rattle.std.specs.Prelude.{◌≡◌, ℕ, ◌+◌, ◌-◌, max, []}
use Rattle.std.specs.Prelude.{None, slice_index}
use Rattle.shard_gate.specs.Gate.{GateState, PinSeatState, IsNewGate, JoinsVisits}
use Rattle.shard_gate.specs.Since.{PurgesNone}
use Rattle.shard_gate.specs.Visit.{visits_at, joined_at}
use Rattle.image_cache.specs.declared.options.Options.{Options}
use Rattle.tile_source.specs.Pass.{CacheState, PassState, IsPassOf, counted_together, SameTiles}
use Rattle.tile_source.specs.Pass.{SameCounts, SameView, SameSeat}

-- The cache was made with these options.
pub record IsNewCache (o : Options) (count : ℕ) (cache : CacheState) : Type 0 where
  pub files : cache.files.board.files ≡ count
  pub cap : cache.files.cap ≡ o.handles
  pub cut : cache.files.cut ≡ o.cut
  pub gate : IsNewGate o.budget o.shards o.passes o.cut cache.gate
  pub slots : cache.slots ≡ o.slots

-- The pass is empty: no tile, no record, and counts of 0.
pub record IsFresh (pass : PassState) : Type 0 where
  pub recent : pass.pinned.recent ≡ []
  pub holds : pass.pinned.holds ≡ []
  pub hand : pass.pinned.hand ≡ None
  pub latest : pass.latest ≡ None
  pub needs : pass.needs ≡ 0
  pub hits : pass.hits ≡ 0
  pub apart : pass.apart ≡ 0

-- The pass is the first of the cache. It has all permits and has seen nothing.
pub record IsFirstPass (cache : CacheState) (pass : PassState) : Type 0 where
  pub of : IsPassOf cache pass
  pub fresh : IsFresh pass
  pub permits : pass.pinned.seat.permits ≡ cache.gate.passes
  pub seen : (file : ℕ) → slice_index pass.view.seen file ≡ 0

-- The new pass has one permit and no visit, and has seen what the other has seen.
pub record IsSecondPass (old pass : PassState) : Type 0 where
  pub board : pass.view.board ≡ old.view.board
  pub gate : pass.pinned.seat.gate ≡ old.pinned.seat.gate
  pub cut : pass.pinned.cut ≡ old.pinned.cut
  pub fresh : IsFresh pass
  pub permits : pass.pinned.seat.permits ≡ 1
  pub visits : (shard : ℕ) → visits_at shard pass.pinned.seat.visits ≡ []
  pub joined : (shard : ℕ) → joined_at shard pass.pinned.seat.joined ≡ []
  pub seen : pass.view.seen ≡ old.view.seen
  pub steps : pass.view.steps ≡ old.view.steps

-- One permit went to another pass; nothing else changed.
pub record PassAfterSplit (old new : PassState) : Type 0 where
  pub board : new.view.board ≡ old.view.board
  pub gate : new.pinned.seat.gate ≡ old.pinned.seat.gate
  pub cut : new.pinned.cut ≡ old.pinned.cut
  pub permits : new.pinned.seat.permits ≡ old.pinned.seat.permits - 1
  pub seat : SameSeat old new
  pub tiles : SameTiles old new
  pub counts : SameCounts old new
  pub view : SameView old new
  pub latest : new.latest ≡ old.latest

-- The pass has seen the newer of both generations of each file.
abbrev pub SeesBoth : PassState → PassState → PassState → Type 0
SeesBoth other old new = (file : ℕ) → slice_index new.view.seen file
    ≡ max (slice_index old.view.seen file) (slice_index other.view.seen file)

-- The pass has the permits of both, has seen the newer of both, and the sum of both counts. Its
-- tiles, their pins and its record are unchanged, and its own seat made no visit.
pub record PassAfterJoin (other old new : PassState) : Type 0 where
  pub board : new.view.board ≡ old.view.board
  pub gate : new.pinned.seat.gate ≡ old.pinned.seat.gate
  pub cut : new.pinned.cut ≡ old.pinned.cut
  pub permits : new.pinned.seat.permits ≡ old.pinned.seat.permits + other.pinned.seat.permits
  pub pins : new.pinned.seat.pins ≡ old.pinned.seat.pins
  pub visits : new.pinned.seat.visits ≡ old.pinned.seat.visits
  pub tiles : SameTiles old new
  pub latest : new.latest ≡ old.latest
  pub seen : SeesBoth other old new
  pub steps : new.view.steps ≡ old.view.steps
  pub needs : new.needs ≡ counted_together old.needs other.needs
  pub hits : new.hits ≡ counted_together old.hits other.hits
  pub apart : new.apart ≡ counted_together old.apart other.apart

-- The seat of a pass lists the visits of the other one, which gave back its pins and purged nothing,
-- apart from its own.
pub record JoinsReleased (gate : GateState) (other old new : PassState) : Type 0 where
  -- the other seat without its pins
  pub last : PinSeatState
  pub released : PurgesNone gate other.pinned.seat last
  pub joined : JoinsVisits last old.pinned.seat new.pinned.seat
