-- With one more pin one fewer is allowed, and a pin is there as long as its key is.
use Rattle.std.proofs.Common.{arith, ◌∙◌, ◌≤◌}
use Rattle.sharing_tests.proofs.HeldLemmas.{room_inside, still_there}
use Rattle.sharing_tests.proofs.gate_pins.+counts_inside.Goals as goal

pub counts_inside-requires : goal.counts_inside-requires
counts_inside-requires t c =
    let some : 1 ≤ c.args.left = omega (arith, c.if-left-eq0.false) in (
      omega (arith, c.decreases, some),
      (
        c.in_ok-pin.ensures.gate ∙ c.requires.gate,
        (
          c.requires.shards,
          (
            omega (arith, c.requires.few),
            room_inside _ _ _ _ c.in_ok-pin.ensures c.requires.room some,
          ),
        ),
      ),
    )

pub unpin-requires-clause-made : goal.unpin-requires-clause-made
unpin-requires-clause-made t c =
    still_there _ _ _ _ c.in_ok-pin.ensures c.in_ok-inside.ensures
