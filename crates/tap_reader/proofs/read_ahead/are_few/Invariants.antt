-- The bytes of the stretches so far, and those that may still be kept, are as many as may be.
use Rattle.std.proofs.Common.{◌≡◌, ◌+◌, take}
use Rattle.tap_reader.specs.ReadAhead.{max_ahead_bytes, bytes_of}
use Rattle.tap_reader.proofs.read_ahead.are_few.Given as goal

abbrev pub invariant-loop-stretch : goal.invariant-loop-stretch
invariant-loop-stretch l =
    l.left + bytes_of (take l.stretch-index l.stretches) ≡ max_ahead_bytes
