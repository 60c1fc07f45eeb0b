use Rattle.std.proofs.Common.{◌≡◌, true, false, sym, ◌∙◌}
use Rattle.std.proofs.lemmas.Bool.{or_right, or_left, or_from}
use Rattle.tiff_format.specs.Bytes.{is_little, is_big}
use Rattle.tiff_entries.proofs.Shown.{mark_of_part}
use Rattle.tiff_entries.proofs.header.is_big_by_mark.Goals as goal

pub returns-then-has_mark : goal.returns-then-has_mark
returns-then-has_mark c = λ bytes part.
    let big : is_big bytes ≡ true = sym (mark_of_part 77 bytes c.args.head.now part c.requires)
    ∙ sym c.has_mark.ensures ∙ c.if-has_mark.true in
    (or_right (is_little bytes) (is_big bytes) big, sym big)

pub returns-then-has_mark-2 : goal.returns-then-has_mark-2
returns-then-has_mark-2 c = λ bytes part.
    let big : is_big bytes ≡ false = sym (mark_of_part 77 bytes c.args.head.now part c.requires)
    ∙ sym c.has_mark.ensures ∙ c.if-has_mark.false in
    let little : is_little bytes ≡ true = sym (mark_of_part 73 bytes c.args.head.now part c.requires)
    ∙ sym c.has_mark-else-has_mark.ensures ∙ c.if-has_mark-2.true in
    (or_left (is_little bytes) (is_big bytes) little, sym big)

pub returns-else-has_mark-2 : goal.returns-else-has_mark-2
returns-else-has_mark-2 c = λ bytes part.
    let big : is_big bytes ≡ false = sym (mark_of_part 77 bytes c.args.head.now part c.requires)
    ∙ sym c.has_mark.ensures ∙ c.if-has_mark.false in
    let little : is_little bytes ≡ false = sym (mark_of_part 73 bytes c.args.head.now part c.requires)
    ∙ sym c.has_mark-else-has_mark.ensures ∙ c.if-has_mark-2.false in
    or_from (is_little bytes) (is_big bytes) little big
