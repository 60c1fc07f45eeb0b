use Rattle.std.proofs.Common.{sym, arith, inl, inr}
use Rattle.short_text.proofs.DigitLemmas.{all_spelled, not_spelled}
use Rattle.short_text.proofs.digits.digits_number.Goals as goal

pub returns : goal.returns
returns c =
    let leads = c.leading_digits-number.ensures.leads in
    sym (all_spelled c.args.text.now _ c.leading_digits-number.result.1 leads (omega arith)
    (omega arith))

pub returns-then-count-eq0 : goal.returns-then-count-eq0
returns-then-count-eq0 c =
    let leads = c.leading_digits-number.ensures.leads in
    sym (not_spelled c.args.text.now _ c.leading_digits-number.result.1 leads (inl (omega arith)))

pub returns-then-count-text : goal.returns-then-count-text
returns-then-count-text c =
    let leads = c.leading_digits-number.ensures.leads in
    sym (not_spelled c.args.text.now _ c.leading_digits-number.result.1 leads (inr (omega arith)))
