-- What does a call leave of the sink that it writes to?
use Rattle.std.specs.Prelude.{ℕ, ◌≤◌, List, Option, Result, OnOk, OnErr}
use Rattle.tex_world.specs.Counts.{Rises}
use Rattle.tex_world.specs.Stream.{Appends, AppendsPart}

-- how often a sink has failed and, if it is modelled, the bytes that it has
pub record SinkState : Type 0 where
  pub faults : ℕ
  pub holds : Option (List ℕ)

-- a sink, as its ghost members describe it
abbrev pub sink_state : {O : Type 0} → (O → ℕ) → (O → Option (List ℕ)) → O → SinkState
sink_state faults holds sink = record { faults = faults sink; holds = holds sink }

-- the bytes were written, or the sink failed after a first part of them
pub record Puts {E : Type 0} (bytes : List ℕ) (old new : SinkState)
    (result : Result (Unit {0}) E) : Type 0 where
  pub ok : OnOk result (Appends bytes old.holds new.holds)
  pub part : OnErr result (AppendsPart bytes old.holds new.holds)
  pub faults : old.faults ≤ new.faults
  pub cause : OnErr result (Rises old.faults new.faults)
