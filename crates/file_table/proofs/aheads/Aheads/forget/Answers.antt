use Rattle.std.proofs.Common.{rules, arith, sym, ◌∙◌}
use Rattle.file_table.proofs.AheadLemmas.{kept-popped, kept-popped-one}
use Rattle.file_table.proofs.aheads.Aheads.forget.Goals as goal

pub invariant_of-self : goal.invariant_of-self
invariant_of-self g c =
    let old = c.args.self.now in
    let fewer = kept-popped _ old.aheads c.pop.new.self c.pop.ensures.entries in
    record {
      cap = search rules;
      few = old.few;
      all = omega (arith, fewer, old.all);
    }

pub invariant_of-self-2 : goal.invariant_of-self-2
invariant_of-self-2 g c =
    let old = c.args.self.now in
    let fewer = kept-popped-one _ old.aheads c.pop.new.self c.in_ok-ahead.ahead
    c.pop.ensures.entries (sym c.pop.ensures.value ∙ c.in_ok-ahead.was) in
    record {
      cap = search rules;
      few = omega (arith, old.few, c.saturating_sub-self.ensures);
      all = omega (arith, fewer, old.all, c.saturating_sub-self.ensures, c.len.ensures.value);
    }
