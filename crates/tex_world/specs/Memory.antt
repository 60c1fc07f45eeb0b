-- How do contracts see a feed and a sink in memory, and how do calls change their counts?
use Rattle.std.specs.Prelude.{◌≡◌, ℕ, ◌+◌, min, List, Some, Result, IsOk, IsErr}
use Rattle.tex_world.specs.Counts.{last_count, RisesByOne}
use Rattle.tex_world.specs.declared.planned.Planned.{Planned}

-- the bytes that a feed has left, and its calls
pub record FeedView : Type 0 where
  pub left : List ℕ
  pub planned : Planned

-- the bytes that a sink has, and its calls
pub record SinkView : Type 0 where
  pub holds : List ℕ
  pub planned : Planned

-- the next call is the one that fails
abbrev pub IsPlanned : Planned → Type 0
IsPlanned planned = planned.fail ≡ Some (planned.calls + 1)

-- The call was counted, and a failed one also as a failure. The plan is unchanged.
pub record AfterCall {T E : Type 0} (old new : Planned) (result : Result T E) : Type 0 where
  pub calls : new.calls ≡ min (old.calls + 1) last_count
  pub fail : new.fail ≡ old.fail
  pub failed : IsErr result → RisesByOne old.faults new.faults
  pub answered : IsOk result → new.faults ≡ old.faults
