-- What is on the page, and what becomes of it and of the sink?
use Rattle.std.specs.Prelude.{◌≡◌, ℕ, ◌+◌, ◌≤◌, List, ◌++◌, Option, Result, Ok, Err}
use Rattle.tex_world.specs.Counts.{Rises}
use Rattle.tex_world.specs.Stream.{Appends, AppendsPart}
use Rattle.request_lang.specs.Appending.{max_part_bytes, room_values}
use Rattle.tex_world.specs.declared.sink.Sink as a_sink

-- a sink: how often it has failed and, if it is modelled, the bytes that it has
pub record SinkState : Type 0 where
  pub faults : ℕ
  pub holds : Option (List ℕ)

-- a sink, as its ghost members describe it
abbrev pub sink_state : {O : Type 0} → (O → ℕ) → (O → Option (List ℕ)) → O → SinkState
sink_state faults holds sink = record { faults = faults sink; holds = holds sink }

-- a sink, as its ghost members describe it, given as one value
abbrev pub sink_of : {O : Type 0} → a_sink.Ghosts O → O → SinkState
sink_of s sink = sink_state s.faults s.holds sink

-- the bytes on the page, and the sink that they will be written to
pub record Outgoing : Type 0 where
  pub waits : List ℕ
  pub sink : SinkState

-- a page before a sink
abbrev pub outgoing_of : List ℕ → SinkState → Outgoing
outgoing_of page sink = record { waits = page; sink = sink }

-- a page and a sink, as its ghost members describe it
abbrev pub outgoing : {O : Type 0} → a_sink.Ghosts O → List ℕ → O → Outgoing
outgoing s page sink = outgoing_of page (sink_of s sink)

-- A text was added to the page. A first part of the page's bytes was written, in order, and the
-- rest is still on the page.
pub record Passes (text : List ℕ) (old new : Outgoing) : Type 0 where
  pub put : List ℕ
  pub all : put ++ new.waits ≡ old.waits ++ text
  pub appended : Appends put old.sink.holds new.sink.holds
  pub faults : old.sink.faults ≤ new.sink.faults

-- A first part of a text was written, and then the sink failed.
pub record PutsPart (text : List ℕ) (old new : SinkState) : Type 0 where
  pub part : AppendsPart text old.holds new.holds
  pub cause : Rises old.faults new.faults

-- A text was added to the page, or the sink failed after a first part of what was on it.
abbrev pub AddsOn : {A E : Type 0} → List ℕ → Outgoing → Outgoing → Result A E → Type 0
AddsOn text old new (Ok a) = Passes text old new
AddsOn text old new (Err e) = PutsPart old.waits old.sink new.sink

-- A text was added to the page, or the sink failed after a first part of what was on it and of the
-- text.
abbrev pub PassesOn : {A E : Type 0} → List ℕ → Outgoing → Outgoing → Result A E → Type 0
PassesOn text old new (Ok a) = Passes text old new
PassesOn text old new (Err e) = PutsPart (old.waits ++ text) old.sink new.sink

-- ---- sizes

-- the number of bytes at which a page is full
abbrev pub page_bytes : ℕ
page_bytes = 65536

-- the bytes that a page can hold: a full page and one more part of a line
abbrev pub room_bytes : ℕ
room_bytes = page_bytes + max_part_bytes

-- the number of values in a part of a line
abbrev pub part_values : ℕ
part_values = room_values
