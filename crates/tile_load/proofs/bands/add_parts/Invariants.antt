-- What was read ahead stays as it was.
use Rattle.std.proofs.Common.{◌≡◌}
use Rattle.tile_load.proofs.bands.add_parts.Given as goal

abbrev pub invariant-loop-part : goal.invariant-loop-part
invariant-loop-part g l = l.ahead ≡ l.initial.ahead
