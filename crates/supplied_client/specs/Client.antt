-- Which state is behind a C handle, what is C told of its counts, and what does a call change of it?
use Rattle.std.specs.Prelude.{◌≡◌, ◌⊎◌, ℕ, ◌-◌, ◌≤◌}
use Rattle.shard_gate.specs.Since.{PurgesNone}
use Rattle.tile_source.specs.Pass.{CacheState, PassState, PassCounts, pass_counts}
use Rattle.waiter.specs.declared.tries.GaveUp.{GaveUp}
use Rattle.tile_source.specs.Call.{NoneFalls}
use Rattle.image_cache.specs.Call.{AfterCall}
use Rattle.image_cache.specs.Invalid.{IsEmptied, MayAsk}
use Rattle.supplied_tap.specs.declared.tap.SuppliedTap.{SuppliedTap}
use Rattle.image_cache.specs.Caller.{CallerState, caller_state, Call, call}
use Rattle.supplied_tap.specs.SuppliedTap.{tap_state, HasNoSupplies}
use Rattle.supplied_tap.specs.SuppliedWorld.{supplied_files}

-- the shared cache, a pass of it, and what was supplied for the current call
pub record ClientState : Type 0 where
  pub cache : CacheState
  pub pass : PassState
  pub tap : SuppliedTap
  -- the counts of the pass when the current round began
  pub begun : PassCounts
  -- what the pass counted in rounds that are repeated, so that it counts that again
  pub twice : PassCounts

abbrev pub client_state : CacheState → PassState → SuppliedTap → PassCounts → PassCounts
    → ClientState
client_state cache pass tap begun twice = record {
  cache = cache;
  pass = pass;
  tap = tap;
  begun = begun;
  twice = twice;
}

-- the client's caller of the cache
abbrev pub caller_of : ClientState → CallerState SuppliedTap
caller_of c = caller_state c.cache c.pass c.tap

-- a call of the cache that leads from one state of the client to another
abbrev pub round : ClientState → ClientState → Call
round old new = call supplied_files tap_state (caller_of old) (caller_of new)

-- All but the pass is unchanged.
pub record KeepsAllButPass (old new : ClientState) : Type 0 where
  pub cache : new.cache ≡ old.cache
  pub tap : new.tap ≡ old.tap
  pub begun : new.begun ≡ old.begun
  pub twice : new.twice ≡ old.twice

-- All but the tap is unchanged.
pub record KeepsRest (old new : ClientState) : Type 0 where
  pub cache : new.cache ≡ old.cache
  pub pass : new.pass ≡ old.pass
  pub begun : new.begun ≡ old.begun
  pub twice : new.twice ≡ old.twice

-- ---- counts

-- the three counts of a pass
abbrev pub counts_of : PassState → PassCounts
counts_of pass = pass_counts pass.needs pass.hits pass.apart

-- the first counts without the second ones
abbrev pub counts_without : PassCounts → PassCounts → PassCounts
counts_without all some =
    pass_counts (all.needs - some.needs) (all.hits - some.hits) (all.apart - some.apart)

-- No count is greater than that of the others.
pub record AreWithin (few many : PassCounts) : Type 0 where
  pub needs : few.needs ≤ many.needs
  pub hits : few.hits ≤ many.hits
  pub apart : few.apart ≤ many.apart

-- Both have the same three counts.
pub record AreSame (a b : PassCounts) : Type 0 where
  pub needs : a.needs ≡ b.needs
  pub hits : a.hits ≡ b.hits
  pub apart : a.apart ≡ b.apart

-- what C is told that the pass has counted: a call counts once, however often it was repeated
abbrev pub told_counts : ClientState → PassCounts
told_counts c = counts_without (counts_of c.pass) c.twice

-- what C was told when the current round began
abbrev pub told_before : ClientState → PassCounts
told_before c = counts_without c.begun c.twice

-- C makes the same call again: it needs something, its buffer is too small, or the waiter gave up on
-- a lock.
abbrev pub IsRepeated : ℕ → Type 0
IsRepeated code = (code ≡ 1) ⊎ ((code ≡ 5) ⊎ (code ≡ 19))

-- ---- what a call leaves

-- What a round of a call on a file leaves: of the pass what the cache's own call leaves. No tile is
-- purged. The counts before it are noted.
pub record LeavesRound (file : ℕ) (old new : ClientState) : Type 0 where
  pub cache : new.cache ≡ old.cache
  pub pass : AfterCall file old.pass new.pass
  pub visits : PurgesNone old.cache.gate old.pass.pinned.seat new.pass.pinned.seat
  pub tap : NoneFalls (tap_state old.tap) (tap_state new.tap)
  pub begun : new.begun ≡ counts_of old.pass
  pub twice : new.twice ≡ old.twice

-- Nothing is supplied any more, and nothing else has changed.
pub record DropsSupplies (old new : ClientState) : Type 0 where
  pub cache : new.cache ≡ old.cache
  pub pass : new.pass ≡ old.pass
  pub state : tap_state new.tap ≡ tap_state old.tap
  pub none : HasNoSupplies new.tap
  pub begun : new.begun ≡ old.begun
  pub twice : new.twice ≡ old.twice

-- What the end of a round leaves that was not answered. Unless the call needs something, nothing is
-- supplied any more. If C repeats the call, what this round counted is not told.
pub record EndsRound (code : ℕ) (old new : ClientState) : Type 0 where
  pub cache : new.cache ≡ old.cache
  pub pass : new.pass ≡ old.pass
  pub state : tap_state new.tap ≡ tap_state old.tap
  pub none : ¬ (code ≡ 1) → HasNoSupplies new.tap
  pub repeated : IsRepeated code → AreSame (told_counts new) (told_before old)
  pub done : ¬ IsRepeated code → new.twice ≡ old.twice

-- What a call on a file leaves, whatever it answers. Of the pass only what it has seen of the file,
-- its tiles, its counts and its record may have changed, and no tile was purged. Unless it needs
-- something, nothing is supplied any more. What C is told of the counts changes only once, however
-- often the call is repeated.
pub record LeavesFile (file code : ℕ) (old new : ClientState) : Type 0 where
  pub cache : new.cache ≡ old.cache
  pub pass : AfterCall file old.pass new.pass
  pub visits : PurgesNone old.cache.gate old.pass.pinned.seat new.pass.pinned.seat
  pub tap : NoneFalls (tap_state old.tap) (tap_state new.tap)
  pub none : ¬ (code ≡ 1) → HasNoSupplies new.tap
  pub repeated : IsRepeated code → AreSame (told_counts new) (told_counts old)
  pub done : ¬ IsRepeated code → new.twice ≡ old.twice

-- What a round of a freshness check leaves: the pass has no record and an empty microcache. The
-- counts before it are noted.
pub record LeavesCheck (old new : ClientState) : Type 0 where
  pub cache : new.cache ≡ old.cache
  pub pass : IsEmptied GaveUp old.pass new.pass
  pub tap : MayAsk (tap_state old.tap) (tap_state new.tap)
  pub begun : new.begun ≡ counts_of old.pass
  pub twice : new.twice ≡ old.twice

-- What a freshness check leaves, whatever it answers: the pass as it was, or without record and with
-- an empty microcache. Unless it needs something, nothing is supplied any more. What C is told of
-- the counts does not change.
pub record LeavesChecked (code : ℕ) (old new : ClientState) : Type 0 where
  pub cache : new.cache ≡ old.cache
  pub pass : (new.pass ≡ old.pass) ⊎ IsEmptied GaveUp old.pass new.pass
  pub tap : MayAsk (tap_state old.tap) (tap_state new.tap)
  pub none : ¬ (code ≡ 1) → HasNoSupplies new.tap
  pub told : AreSame (told_counts new) (told_counts old)
