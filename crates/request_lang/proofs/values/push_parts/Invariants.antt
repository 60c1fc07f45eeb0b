use Rattle.std.proofs.Common.{◌≡◌, ◌++◌, length}
use Rattle.short_text.specs.Number.{fields}
use Rattle.short_text.specs.Appending.{Begins}
use Rattle.request_lang.proofs.values.push_parts.Given as goal

abbrev pub invariant-parts : goal.invariant-parts
invariant-parts l = record {
  pushed : l.out.items ++ fields l.rest ≡ l.initial.out.items ++ fields l.values;
  kept : Begins l.initial.out.items l.out.items;
  same_room : length l.room ≡ length l.fn.room;
}

abbrev pub decreases-parts : goal.decreases-parts
decreases-parts l = length l.rest
