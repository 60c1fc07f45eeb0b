-- The newer generation that is answered is that of the look.
use Rattle.std.proofs.Common.{◌∙◌, refl}
use Rattle.supplied_tap.proofs.tap.SuppliedTap.stay.Goals as goal

pub returns-in-Some-clause-seen : goal.returns-in-Some-clause-seen
returns-in-Some-clause-seen c = record {
  look = c.in-Some.look;
  one = c.in-Some.ensures.some.0;
  of_file = c.in-Some.ensures.some.1 ∙ c.file.ensures;
  of_generation = refl;
}
