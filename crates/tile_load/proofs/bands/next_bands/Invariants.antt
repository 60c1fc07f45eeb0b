-- What was read ahead stays as it was.
use Rattle.std.proofs.Common.{◌≡◌}
use Rattle.tile_load.proofs.bands.next_bands.Given as goal

abbrev pub invariant-loop-plane : goal.invariant-loop-plane
invariant-loop-plane g l = l.ahead ≡ l.initial.ahead
