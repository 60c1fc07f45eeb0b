-- The slots so far were made.
use Rattle.std.proofs.Common.{◌≡◌, length}
use Rattle.tile_slots.proofs.slots.empty_slots.Given as goal

abbrev pub invariant-loop-made : goal.invariant-loop-made
invariant-loop-made g l = length l.slots.items ≡ l._made
