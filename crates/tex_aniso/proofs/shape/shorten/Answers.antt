use Rattle.std.proofs.Common.{◌≡◌, ◌^◌, to_z, of_z, w64, arith}
use Rattle.std.proofs.lemmas.Int.{to_z-of_z}
use Rattle.std.specs.Int.{int_shr}
use Rattle.texel_filter.specs.Coordinate.{rounded_down}
use Rattle.tex_aniso.proofs.DigitLemmas.{shortened_below}
use Rattle.tex_aniso.proofs.shape.shorten.Goals as goal

pub returns-clause-short : goal.returns-clause-short
returns-clause-short c = λ j below.
    let is : to_z w64 (of_z w64 (int_shr (to_z w64 (of_z w64 c.args.z)) c.args.shift))
    ≡ rounded_down c.args.z (2 ^ c.args.shift) = grind (arith, to_z-of_z) in
    rw is (shortened_below c.args.z j c.args.shift below)
