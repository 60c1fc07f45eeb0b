use Rattle.std.proofs.Common.{◌≡◌, ℕ, List, get_or, ap, sym, ◌∙◌, arith, Ok}
use Rattle.std.specs.Prelude.{ℤ, pos, neg_ℤ}
use borrow.Author.Tests.{eqb-true}
use Rattle.std.proofs.lemmas.Str.{IsCharBoundary-after_ascii}
use Rattle.short_text.specs.Words.{cut}
use Rattle.request_lang.specs.LineField.{mapped, number_within, spelled}
use Rattle.request_lang.proofs.SignLemmas.{signed_minus, signed_plain, some_text}
use Rattle.request_lang.proofs.line_field.signed_field.Goals as goal

pub range_from-requires : goal.range_from-requires
range_from-requires c =
    let text = c.args.text.now in
    let first : get_or text 0 0 ≡ 45 =
    eqb-true (get_or text 0 0) 45 (sym c.begins_with_minus.ensures ∙ c.if-begins_with_minus.true) in
    λ _. IsCharBoundary-after_ascii text 0 c.utf8.text (some_text text first) (omega (arith, first))

pub returns-then-begins_with_minus : goal.returns-then-begins_with_minus
returns-then-begins_with_minus c =
    c.negative.ensures
    ∙ ap (λ (t : List ℕ). mapped {B = ℤ × List ℕ} (λ g. (neg_ℤ (pos g.0), g.1))
    (spelled (number_within 0 c.args.below) (Ok (cut t)))) c.range_from.ensures.value
    ∙ sym (signed_minus c.args.below c.args.above c.args.text.now
    (sym c.begins_with_minus.ensures ∙ c.if-begins_with_minus.true))

pub returns : goal.returns
returns c =
    c.positive.ensures
    ∙ sym (signed_plain c.args.below c.args.above c.args.text.now
    (sym c.begins_with_minus.ensures ∙ c.if-begins_with_minus.false))
