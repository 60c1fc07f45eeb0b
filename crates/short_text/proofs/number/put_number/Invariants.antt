use Rattle.std.proofs.Common.{◌≡◌, ◌+◌, ◌≤◌, ◌++◌, length, drop}
use Rattle.std.specs.Fmt.{decimal}
use Rattle.short_text.proofs.number.put_number.Given as goal

-- the digits of what is left, and those that were written, are those of the number
abbrev pub invariant-digits : goal.invariant-digits
invariant-digits l = record {
  within : l.at ≤ 21;
  some : 2 ≤ l.at;
  room : length (decimal l.left) + 1 ≤ l.at;
  written : decimal l.left ++ drop l.at l.room ≡ decimal l.number;
}

abbrev pub decreases-digits : goal.decreases-digits
decreases-digits l = l.left
