-- Two lists of equal length with equal numbers are equal.
use Rattle.std.proofs.Common.{sym, ◌∙◌, arith}
use Rattle.std.proofs.lemmas.List.{ext_get_or}
use Rattle.gen_board.specs.Rule.{later_of}
use Rattle.gen_board.proofs.ListLemmas.{later_at, length-later}
use Rattle.gen_board.proofs.later.take_later.Goals as goal

pub returns : goal.returns
returns c =
    let kept = c.loop-k.invariant in
    let old = c.args.seen.now.items in
    let other = c.args.other.now in
    ext_get_or 0 c.loop-k.seen.items (later_of old other)
    (kept.same_length ∙ sym (length-later old other))
    (λ j low. kept.done j (omega (arith, low, kept.same_length, c.loop-k-test.false))
    ∙ sym (later_at old other j c.requires))
