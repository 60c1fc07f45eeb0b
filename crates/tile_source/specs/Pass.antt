-- How do contracts see a cache and its passes, and which parts of a pass may a call change?
use Rattle.std.specs.Prelude.{◌≡◌, ℕ, ◌+◌, ◌-◌, ◌^◌, ◌≤◌, min, Bool, true, false, ⊤}
use Rattle.std.specs.Prelude.{Option, IfSome, slice_index, length}
use Rattle.std.specs.Option.{option_map}
use Rattle.std.specs.declared.sync.Arc.{Arc}
use Rattle.std.specs.Arc.{arc_value}
use Rattle.tex_world.specs.World.{Files, max_files}
use Rattle.tiff_format.specs.Cut.{IsCut}
use Rattle.gen_board.specs.View.{ViewState}
use Rattle.file_table.specs.Files.{FilesState}
use Rattle.file_table.specs.Record.{RecordState}
use Rattle.shard_gate.specs.Gate.{GateState}
use Rattle.pinned_tiles.specs.Pinned.{PinnedState, ArePinned}

-- A cache, as contracts see it.
pub record CacheState : Type 0 where
  -- its records and idle handles
  pub files : FilesState
  pub gate : GateState
  -- the number of its slots for parts of rows
  pub slots : ℕ

-- A pass, as contracts see it.
pub record PassState : Type 0 where
  -- what it has seen of each file
  pub view : ViewState
  -- the tiles that it has pinned
  pub pinned : PinnedState
  -- the record that it keeps for its next lookup
  pub latest : Option RecordState
  -- how many cells its answers needed, how many of the needs were hits, and how many were uncached
  pub needs : ℕ
  pub hits : ℕ
  pub apart : ℕ

abbrev pub cache_state : FilesState → GateState → ℕ → CacheState
cache_state files gate slots = record { files = files; gate = gate; slots = slots }

-- The counts of a pass.
pub record PassCounts : Type 0 where
  pub needs : ℕ
  pub hits : ℕ
  pub apart : ℕ

-- the counts of a new pass
abbrev pub no_counts : PassCounts
no_counts = record { needs = 0; hits = 0; apart = 0 }

abbrev pub pass_state : ViewState → PinnedState → Option RecordState → PassCounts → PassState
pass_state view pinned latest counts = record {
  view = view;
  pinned = pinned;
  latest = latest;
  needs = counts.needs;
  hits = counts.hits;
  apart = counts.apart;
}

-- a pass whose record, if it has one, is shared
abbrev pub kept_pass : {Z : Type 0} → ViewState → PinnedState → Option (Arc RecordState Z)
    → PassCounts → PassState
kept_pass view pinned latest counts = pass_state view pinned (option_map arc_value latest) counts

-- the three counts as a record
abbrev pub pass_counts : ℕ → ℕ → ℕ → PassCounts
pass_counts needs hits apart = record { needs = needs; hits = hits; apart = apart }

-- True of every pass. Its pins are those of its tiles, each of which is a cell of its file if the
-- world is modelled. Its record has its cut and a generation that it has seen.
pub record IsPass (files : Files) (pass : PassState) : Type 0 where
  pub are : ArePinned files pass.pinned
  pub cut : IfSome pass.latest (λ r. r.cut ≡ pass.pinned.cut)
  pub seen : IfSome pass.latest (λ r. r.generation ≤ slice_index pass.view.seen r.file)
  pub counted : pass.hits ≤ pass.needs

-- The record is used under the cut of the pass, which has seen its generation.
pub record IsKeptBy (pass : PassState) (r : RecordState) : Type 0 where
  pub cut : r.cut ≡ pass.pinned.cut
  pub seen : r.generation ≤ slice_index pass.view.seen r.file

-- the pass belongs to this cache
pub record IsPassOf (cache : CacheState) (pass : PassState) : Type 0 where
  pub board : pass.view.board ≡ cache.files.board
  pub gate : pass.pinned.seat.gate ≡ cache.gate.id
  pub cut : pass.pinned.cut ≡ cache.gate.cut

-- True of every cache: its files and its tiles use one cut, and the number of files is in range.
pub record IsCache (cache : CacheState) : Type 0 where
  pub cut : cache.files.cut ≡ cache.gate.cut
  pub few : cache.files.board.files ≤ max_files
  pub side : IsCut cache.gate.cut

-- ---- counts

-- the greatest value of a count
abbrev pub max_count : ℕ
max_count = 2 ^ 64 - 1

-- one more, unless the count has its greatest value
abbrev pub counted : ℕ → ℕ
counted n = min (n + 1) max_count

-- the sum of two counts, or the greatest value of a count
abbrev pub counted_together : ℕ → ℕ → ℕ
counted_together m n = min (m + n) max_count

-- ---- what calls leave

-- The pass belongs to the same cache, with the same cut and permits. It has taken over no other, so
-- all its seat's visits are its own.
pub record SamePlace (old new : PassState) : Type 0 where
  pub board : new.view.board ≡ old.view.board
  pub gate : new.pinned.seat.gate ≡ old.pinned.seat.gate
  pub cut : new.pinned.cut ≡ old.pinned.cut
  pub permits : new.pinned.seat.permits ≡ old.pinned.seat.permits
  pub joined : new.pinned.seat.joined ≡ old.pinned.seat.joined

-- The pass has the same tiles.
pub record SameTiles (old new : PassState) : Type 0 where
  pub recent : new.pinned.recent ≡ old.pinned.recent
  pub holds : new.pinned.holds ≡ old.pinned.holds
  pub hand : new.pinned.hand ≡ old.pinned.hand

-- The counts are the same.
pub record SameCounts (old new : PassState) : Type 0 where
  pub needs : new.needs ≡ old.needs
  pub hits : new.hits ≡ old.hits
  pub apart : new.apart ≡ old.apart

-- The pass has seen and counted the same.
pub record SameView (old new : PassState) : Type 0 where
  pub seen : new.view.seen ≡ old.view.seen
  pub steps : new.view.steps ≡ old.view.steps

-- The seat has the same pins and has made no visit.
pub record SameSeat (old new : PassState) : Type 0 where
  pub pins : new.pinned.seat.pins ≡ old.pinned.seat.pins
  pub visits : new.pinned.seat.visits ≡ old.pinned.seat.visits
  pub joined : new.pinned.seat.joined ≡ old.pinned.seat.joined

-- What may a call do with the seat: nothing, visit shards, or pin and unpin as well?
pub data SeatUse : Type 0 where
  unused : SeatUse
  visiting : SeatUse
  pinning : SeatUse

abbrev pub SeatAfter : SeatUse → PassState → PassState → Type 0
SeatAfter unused old new = new.pinned.seat ≡ old.pinned.seat
SeatAfter visiting old new = new.pinned.seat.pins ≡ old.pinned.seat.pins
SeatAfter pinning old new = ⊤

-- Which tiles does a call keep: all, all but the one in hand, the held ones, or the microcache?
pub data TilesKept : Type 0 where
  all_stay : TilesKept
  both_stay : TilesKept
  holds_stay : TilesKept
  recent_stay : TilesKept
  some_stay : TilesKept

-- The microcache and the holds are unchanged.
pub record SameKept (old new : PassState) : Type 0 where
  pub recent : new.pinned.recent ≡ old.pinned.recent
  pub holds : new.pinned.holds ≡ old.pinned.holds

-- The holds and the hand are unchanged, and the microcache has at most two tiles.
pub record SameHolds (old new : PassState) : Type 0 where
  pub few : length new.pinned.recent ≤ 2
  pub holds : new.pinned.holds ≡ old.pinned.holds
  pub hand : new.pinned.hand ≡ old.pinned.hand

abbrev pub TilesAfter : TilesKept → PassState → PassState → Type 0
TilesAfter all_stay old new = SameTiles old new
TilesAfter both_stay old new = SameKept old new
TilesAfter holds_stay old new = SameHolds old new
TilesAfter recent_stay old new = new.pinned.recent ≡ old.pinned.recent
TilesAfter some_stay old new = ⊤

-- The parts of a pass that a call may change.
pub record Parts : Type 0 where
  pub view : Bool
  -- the pins and the visits of its seat
  pub seat : SeatUse
  pub tiles : TilesKept
  pub counts : Bool
  pub latest : Bool

-- the part is unchanged unless the call may change it
abbrev pub Unless : Bool → Type 0 → Type 0
Unless true same = ⊤
Unless false same = same

-- All parts but these are unchanged.
pub record KeepsAllBut (may : Parts) (old new : PassState) : Type 0 where
  pub place : SamePlace old new
  pub view : Unless may.view (new.view ≡ old.view)
  pub seat : SeatAfter may.seat old new
  pub tiles : TilesAfter may.tiles old new
  pub counts : Unless may.counts (SameCounts old new)
  pub latest : Unless may.latest (new.latest ≡ old.latest)

-- no part
abbrev pub nothing : Parts
nothing = record { view = false; seat = unused; tiles = all_stay; counts = false; latest = false }

abbrev pub the_view : Parts
the_view = record nothing { view = true }

-- what it has seen, and the record that it keeps
abbrev pub view_and_record : Parts
view_and_record = record nothing { view = true; latest = true }

abbrev pub its_visits : Parts
its_visits = record nothing { seat = visiting }

-- the tile in hand
abbrev pub its_hand : Parts
its_hand = record nothing { seat = pinning; tiles = both_stay }

-- the held tiles, and the hand through which they come and go
abbrev pub its_holds : Parts
its_holds = record nothing { seat = pinning; tiles = recent_stay }

abbrev pub its_tiles : Parts
its_tiles = record nothing { seat = pinning; tiles = some_stay }

-- the order of the microcache, and the counts
abbrev pub recent_and_counts : Parts
recent_and_counts = record nothing { tiles = holds_stay; counts = true }

-- Only the counts may have changed.
pub record CountsAlone (old new : PassState) : Type 0 where
  pub view : new.view ≡ old.view
  pub pinned : new.pinned ≡ old.pinned
  pub latest : new.latest ≡ old.latest
