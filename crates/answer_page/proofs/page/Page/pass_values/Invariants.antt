use Rattle.std.proofs.Common.{◌≡◌, ◌++◌, List, ℕ, length}
use Rattle.short_text.specs.Number.{fields}
use Rattle.answer_page.specs.Page.{Passes, outgoing}
use Rattle.answer_page.proofs.page.Page.pass_values.Given as goal

-- the values before those that are left were passed on
abbrev pub invariant-parts : goal.invariant-parts
invariant-parts g l = record {
  front : List ℕ;
  split : front ++ fields l.rest ≡ fields l.values;
  passed : Passes front (outgoing g.O.Sink l.initial.self l.initial.out)
      (outgoing g.O.Sink l.self l.out);
}

abbrev pub decreases-parts : goal.decreases-parts
decreases-parts g l = length l.rest
