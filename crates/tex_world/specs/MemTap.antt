-- What does a tap in memory count, and which of its calls fail?
use Rattle.std.specs.Prelude.{◌≡◌, ℕ, ◌+◌, ◌/◌, IsTrue, length, List, Result, IsOk, IsErr}
use Rattle.tex_world.specs.Counts.{RisesByOne}
use Rattle.tex_world.specs.Tap.{TapState, Named}
use Rattle.tex_world.specs.TapCounters.{counted}
use Rattle.tex_world.specs.TapPlan.{TapPlan, is_failing_call}
use Rattle.tex_world.specs.Share.{share_plan}
use Rattle.tex_world.specs.declared.reading.ReadRequest.{ReadRequest}
use Rattle.tex_world.specs.declared.mem_tap.MemTap.{MemTap}

-- the counts, and the last answer of a newest generation
abbrev pub tap_state : {T : Type 0} → MemTap T → TapState
tap_state tap = counted tap.counters

-- what is left of the tap's share of the plan
abbrev pub tap_plan : {T : Type 0} → MemTap T → TapPlan
tap_plan tap = share_plan tap.share

-- the next call is planned to fail by its number
abbrev pub IsPlannedCall : {T : Type 0} → MemTap T → Type 0
IsPlannedCall tap = IsTrue (is_failing_call (tap_plan tap) ((tap_state tap).calls + 1))

-- A failed call is counted as an I/O error, a successful one is not. The share of the plan is
-- unchanged.
pub record AfterTapCall {T R E : Type 0} (old new : MemTap T) (result : Result R E) : Type 0 where
  pub failed : IsErr result → RisesByOne (tap_state old).faults (tap_state new).faults
  pub answered : IsOk result → (tap_state new).faults ≡ (tap_state old).faults
  pub planned : tap_plan new ≡ tap_plan old

-- the read of rows through a handle, `size` bytes together
abbrev pub rows_reading : Named → ℕ → ℕ → ℕ → ℕ → ReadRequest
rows_reading handle at stride row size = record {
  file = handle.file;
  generation = handle.generation;
  at = at;
  stride = stride;
  row = row;
  count = size / row;
}

-- the read of a buffer from a place on, as rows of one byte
abbrev pub reading : Named → ℕ → List ℕ → ReadRequest
reading handle at buf = record {
  file = handle.file;
  generation = handle.generation;
  at = at;
  stride = 1;
  row = 1;
  count = length buf;
}

-- the read is of this generation of this file
pub record IsReadOf (handle : Named) (read : ReadRequest) : Type 0 where
  pub file : read.file ≡ handle.file
  pub generation : read.generation ≡ handle.generation
