-- The stretches shared so far have bytes of the file.
use Rattle.std.specs.List.{All}
use Rattle.tap_reader.specs.ReadAhead.{held_in, StandAsRows}
use Rattle.tap_reader.proofs.read_ahead.ReadAhead.share.Given as goal

abbrev pub invariant-loop-stretch : goal.invariant-loop-stretch
invariant-loop-stretch g l = All (λ s. StandAsRows g.W.World.files
    l.self-inside.file l.self-inside.generation s.rows (held_in s)) l.shared.items
