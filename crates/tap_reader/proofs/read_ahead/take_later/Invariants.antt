-- Each list has bytes of the file, whatever was exchanged so far.
use Rattle.std.proofs.Common.{ℕ}
use Rattle.tex_world.specs.World.{Files}
use Rattle.tap_reader.specs.ReadAhead.{AreStretchesOf}
use Rattle.tap_reader.proofs.read_ahead.take_later.Given as goal

abbrev pub invariant-loop-k : goal.invariant-loop-k
invariant-loop-k l = (files : Files) → (file generation : ℕ)
    → AreStretchesOf files file generation l.initial.own.items
    → AreStretchesOf files file generation l.initial.other.items
    → AreStretchesOf files file generation l.own.items
    × AreStretchesOf files file generation l.other.items
