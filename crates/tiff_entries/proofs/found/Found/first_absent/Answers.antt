use Rattle.std.proofs.Common.{◌≡◌, ℕ, get_or, not, true, ◌∙◌, sym, ap, arith}
use Rattle.tiff_format.specs.Field.{has_field}
use Rattle.tiff_entries.proofs.Finding.{find_none, find_first}
use Rattle.tiff_entries.proofs.found.Found.first_absent.Goals as goal

pub returns-then-not-has : goal.returns-then-not-has
returns-then-not-has c = λ bytes form at has.
    let absent : not (has_field form bytes at (get_or c.args.wanted.now c.loop-tag.tag-index 0))
    ≡ true =
    ap not (sym (c.has.ensures bytes form at has) ∙ c.if-not-has.true) in
    sym (find_first (λ (tag : ℕ). not (has_field form bytes at tag)) c.args.wanted.now
    c.loop-tag.tag-index c.loop-tag-test.true (c.loop-tag.invariant bytes form at has) absent)

pub returns : goal.returns
returns c = λ bytes form at has.
    sym (find_none (λ (tag : ℕ). not (has_field form bytes at tag)) c.args.wanted.now
    (λ k lt. c.loop-tag.invariant bytes form at has k (omega arith)))
