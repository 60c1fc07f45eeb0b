use Rattle.std.proofs.Common.{◌≡◌, ◌+◌, ◌*◌, ◌≤◌, ◌++◌, length, take}
use Rattle.short_text.specs.Number.{fields}
use Rattle.short_text.specs.PaddedText.{max_value_bytes}
use Rattle.request_lang.proofs.values.put_values.Given as goal

abbrev pub invariant-loop-value : goal.invariant-loop-value
invariant-loop-value l = record {
  written : take l.at l.room ≡ take l.from l.fn.room ++ fields (take l.value-index l.values);
  few : l.at ≤ l.from + max_value_bytes * l.value-index;
  same_room : length l.room ≡ length l.fn.room;
}
