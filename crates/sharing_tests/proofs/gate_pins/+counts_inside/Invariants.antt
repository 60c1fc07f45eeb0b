-- Each step pins one cell less.
use Rattle.sharing_tests.proofs.gate_pins.+counts_inside.Given as goal

abbrev pub decreases-counts_inside : goal.decreases-counts_inside
decreases-counts_inside l = l.left
