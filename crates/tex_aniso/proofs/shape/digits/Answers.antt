use Rattle.std.proofs.Common.{sym}
use Rattle.tex_aniso.proofs.DigitLemmas.{digits_is, digits_none}
use Rattle.tex_aniso.proofs.shape.digits.Goals as goal

pub returns-then-m-eq0-clause-value : goal.returns-then-m-eq0-clause-value
returns-then-m-eq0-clause-value c = sym (digits_none c.args.m c.if-m-eq0.true)

pub returns-else-m-eq0-clause-value : goal.returns-else-m-eq0-clause-value
returns-else-m-eq0-clause-value c =
    let log = c.ilog2.ensures in
    sym (digits_is c.ilog2.result c.args.m log.power_le log.next_power_gt)
