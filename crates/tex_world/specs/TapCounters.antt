-- What do the counters of a tap hold, and how exactly do they rise?
use Rattle.std.specs.Prelude.{◌≡◌, ℕ, Result, Ok, Err}
use Rattle.tex_world.specs.Counts.{Rises, RisesByOne}
use Rattle.tex_world.specs.Tap.{TapState, Named, IsMove}
use Rattle.tex_world.specs.declared.fault.OpenError.{OpenError}
use Rattle.tex_world.specs.declared.fault.OpenError.TheVariants as opening
use Rattle.tex_world.specs.declared.fault.ReadError.{ReadError}
use Rattle.tex_world.specs.declared.fault.ReadError.TheVariants.{Failed, Gone}
use Rattle.tex_world.specs.declared.tap_counters.TapCounters.{TapCounters}

-- the counts, and the last answer of a newest generation
abbrev pub counted : TapCounters → TapState
counted counters = record {
  faults = counters.faults;
  calls = counters.calls;
  opens = counters.opens;
  asks = counters.asks;
  moves = counters.moves;
  lost = counters.lost;
  newest = counters.newest;
}

-- An `open` that fails by an I/O error raises their count by one.
abbrev pub CountsFault : {H : Type 0} → TapState → TapState → Result H OpenError → Type 0
CountsFault old new result = result ≡ Err opening.Failed → RisesByOne old.faults new.faults

-- an `open` of a newer generation than was asked for raises the moves by one
abbrev pub CountsMove : ℕ → TapState → TapState → Named → Type 0
CountsMove least old new handle =
    IsMove least handle.generation → RisesByOne old.moves new.moves

-- A failed read raises the I/O errors by one; one that meets a newer generation raises the moves.
-- Otherwise the I/O errors are unchanged.
pub record CountsRead (old new : TapState) (result : Result (Unit {0}) ReadError) : Type 0 where
  pub failed : result ≡ Err Failed → RisesByOne old.faults new.faults
  pub others : (result ≡ Err Failed → ⊥) → new.faults ≡ old.faults
  pub gone : (to : ℕ) → result ≡ Err (Gone to) → RisesByOne old.moves new.moves
  pub lost : (to : ℕ) → result ≡ Err (Gone to) → RisesByOne old.lost new.lost

-- the counts that a failed read raises
abbrev pub RisesFor : TapState → TapState → ReadError → Type 0
RisesFor old new Failed = Rises old.faults new.faults
RisesFor old new (Gone to) = Rises old.moves new.moves × Rises old.lost new.lost
