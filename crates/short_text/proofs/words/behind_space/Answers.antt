use Rattle.std.proofs.Common.{◌≡◌, get_or, arith}
use Rattle.std.proofs.lemmas.Str.{IsCharBoundary-after_ascii}
use Rattle.short_text.proofs.words.behind_space.Goals as goal

pub range_from-requires : goal.range_from-requires
range_from-requires c =
    let text = c.args.rest.now in
    let first : get_or text 0 0 ≡ 32 = cc in
    λ _. IsCharBoundary-after_ascii text 0 c.utf8.rest (omega arith) (omega (arith, first))
