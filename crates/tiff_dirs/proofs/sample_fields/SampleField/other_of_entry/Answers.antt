use Rattle.std.proofs.Common.{◌+◌, refl, ◌∙◌, arith}
use Rattle.tiff_format.specs.Field.{entry_value}
use Rattle.tiff_dirs.specs.Values.{is_allowed}
use Rattle.tiff_dirs.proofs.Finding.{other_behind, pass_more}
use Rattle.tiff_dirs.proofs.sample_fields.SampleField.other_of_entry.Goals as goal

pub returns-in-Some-clause-told : goal.returns-in-Some-clause-told
returns-in-Some-clause-told g c = λ bytes is place entry.
    let so = c.blocks-2.invariant in
    let told = c.in_ok-value.ensures.told bytes
    (g.met.B.ByteReader.lawful.same_bytes _ _ so.keeps ∙ is) place entry in
    let other = rw c.in-Some.is at told.1 in (
      refl,
      other_behind (is_allowed c.args.self.now) (entry_value c.args.entry.now.form bytes place)
          c.blocks-2.done c.min-more.result c.args.count c.in-Some.value
          (omega (arith, c.min-more.ensures, so.within)) (so.told bytes is place entry) other,
    )

pub blocks-2-preserved : goal.blocks-2-preserved
blocks-2-preserved g c =
    let so = c.blocks-2.invariant in
    record {
      within = omega (arith, c.min-more.ensures, so.within);
      room = so.room;
      keeps = g.met.B.ByteReader.lawful.chains _ _ _ so.keeps c.in_ok-value.ensures.reader;
      told = λ bytes is place entry.
          let told = c.in_ok-value.ensures.told bytes
          (g.met.B.ByteReader.lawful.same_bytes _ _ so.keeps ∙ is) place entry in
          let passes = rw c.in_default.is at told.1 in
          pass_more (is_allowed c.args.self.now) (entry_value c.args.entry.now.form bytes place)
          c.blocks-2.done c.min-more.result (c.blocks-2.done + c.min-more.result) refl
          (so.told bytes is place entry) passes;
    }
