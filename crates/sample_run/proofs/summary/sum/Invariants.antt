use Rattle.std.proofs.Common.{◌≡◌, ◌≤◌, ◌*◌, take}
use Rattle.std.specs.Prelude.{sum}
use Rattle.sample_run.proofs.summary.sum.Given as goal

abbrev pub invariant-loop-byte : goal.invariant-loop-byte
invariant-loop-byte l = record {
  added : l.total ≡ sum (take l.byte-index l.bytes);
  small : l.total ≤ 255 * l.byte-index;
}
