-- Before the loop's index each number is the greater of both; from there on it is the old one.
use Rattle.std.proofs.Common.{◌≡◌, ℕ, ◌<◌, ◌≤◌, length, max}
use Rattle.std.specs.Prelude.{slice_index}
use Rattle.gen_board.proofs.later.take_later.Given as goal

abbrev pub invariant-loop-k : goal.invariant-loop-k
invariant-loop-k l = record {
  same_length : length l.seen.items ≡ length l.fn.seen.items;
  done : (j : ℕ) → j < l.k → slice_index l.seen.items j
      ≡ max (slice_index l.fn.seen.items j) (slice_index l.fn.other j);
  to_do : (j : ℕ) → l.k ≤ j → slice_index l.seen.items j ≡ slice_index l.fn.seen.items j;
}
