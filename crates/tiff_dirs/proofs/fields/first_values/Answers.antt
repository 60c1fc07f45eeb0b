use Rattle.std.proofs.Common.{◌≢◌, map, refl, sym, ◌∙◌, arith, below_more}
use Rattle.std.proofs.Common.{get_or-set_other, get_or-set_same, length-set}
use Rattle.std.proofs.lemmas.Grind.{same_number_lists}
use Rattle.std.proofs.lemmas.List.{get_or-map}
use Rattle.tiff_entries.specs.declared.tag.TheConstants.{NUMBERS}
use Rattle.tiff_format.specs.Field.{field_value}
use Rattle.tiff_dirs.proofs.fields.first_values.Goals as goal

pub loop-i-preserved : goal.loop-i-preserved
loop-i-preserved g c =
    let so = c.loop-i.invariant in
    let lawful = g.met.B.ByteReader.lawful in
    record {
      long = length-set c.loop-i.values c.loop-i.i c.in_ok-values.field-0 ∙ so.long;
      keeps = lawful.chains _ _ _ so.keeps c.in_ok-values.ensures.reader;
      told = λ bytes is form at has.
          let value = (c.in_ok-values.ensures.told bytes
          (lawful.same_bytes _ _ so.keeps ∙ is) form at has).1 in
          below_more _ _
          (λ j below. let ne : j ≢ c.loop-i.i = omega arith in
          rw get_or-set_other (so.told bytes is form at has j below))
          (rw (get_or-set_same c.loop-i.values c.loop-i.i c.in_ok-values.field-0 0
          (omega (arith, so.long, c.loop-i-test.true))) value);
    }

pub returns-clause-told : goal.returns-clause-told
returns-clause-told g c = λ bytes is form at has. (
  refl,
  same_number_lists c.loop-i.values (map (field_value form bytes at) NUMBERS)
      c.loop-i.invariant.long
      (λ k lt. c.loop-i.invariant.told bytes is form at has k
      (omega (arith, lt, c.loop-i.invariant.long, c.loop-i-test.false))
      ∙ sym (get_or-map (field_value form bytes at) NUMBERS k 0 0
      (omega (arith, lt, c.loop-i.invariant.long)))),
)
