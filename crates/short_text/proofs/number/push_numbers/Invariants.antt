use Rattle.std.proofs.Common.{◌≡◌, ◌≤◌, ◌+◌, ◌*◌, ◌++◌, take, length}
use Rattle.std.specs.Prelude.{vec_len, vec_capacity}
use Rattle.short_text.specs.Number.{numbers_behind}
use Rattle.short_text.specs.Appending.{max_number_bytes}
use Rattle.short_text.proofs.number.push_numbers.Given as goal

abbrev pub invariant-loop-number : goal.invariant-loop-number
invariant-loop-number l = record {
  text : l.out.items ≡ l.initial.out.items ++ numbers_behind l.byte (take l.number-index l.numbers);
  capacity : vec_capacity l.initial.out ≤ vec_capacity l.out;
  few : vec_len l.initial.out + max_number_bytes * length l.numbers ≤ vec_capacity l.initial.out
      → vec_len l.out ≤ vec_len l.initial.out + max_number_bytes * l.number-index;
}
