use Rattle.std.proofs.Common.{◌≡◌, ◌-◌, ◌++◌}
use Rattle.std.specs.Prelude.{string_bytes}
use Rattle.sample_run.specs.MadeList as spec
use Rattle.sample_run.proofs.made_list.made_list.Given as goal

-- the lines that were made, and those that are still to be, are those of the list
abbrev pub invariant-loop-number : goal.invariant-loop-number
invariant-loop-number l =
    string_bytes l.text ++ spec.lines_from l.number l.draws (l.count - l.number)
    ≡ spec.made_list l.count
