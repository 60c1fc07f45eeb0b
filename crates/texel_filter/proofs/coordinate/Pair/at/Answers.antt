use Rattle.std.proofs.Common.{arith}
use Rattle.std.proofs.lemmas.Int.{to_z-of_z}
use Rattle.texel_filter.proofs.coordinate.Pair.at.Goals as goal

pub returns : goal.returns
returns c = record {
  first = grind (arith, to_z-of_z);
  second = grind (arith, to_z-of_z);
  first_inside = c.wrap.ensures.inside;
  second_inside = c.wrap-2.ensures.inside;
}
