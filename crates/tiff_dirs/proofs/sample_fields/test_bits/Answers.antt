use Rattle.std.proofs.Common.{◌≡◌, true, eqb, refl}
use Rattle.std.specs.Prelude.{◌||◌}
use Rattle.std.specs.Option.{option_map}
use Rattle.tiff_format.specs.declared.fault.TiffFault.TheVariants.{Unsupported}
use Rattle.tiff_dirs.specs.declared.sample_fields.SampleField.{SampleField}
use Rattle.tiff_format.specs.Tag.{bits_per_sample_tag}
use Rattle.tiff_format.specs.DirectoryFault.{bits_fault}
use Rattle.tiff_dirs.specs.Values.{first_other}
use Rattle.tiff_entries.proofs.Saying.{finds_so}
use Rattle.tiff_dirs.proofs.Order.{bits_are, is_depth}
use Rattle.tiff_dirs.proofs.sample_fields.test_bits.Goals as goal

pub returns-clause-told : goal.returns-clause-told
returns-clause-told g c = λ bytes is form at has are.
    let n = c.args.numbers.now in
    let field : SampleField =
    record { tag = bits_per_sample_tag; one = n.bits; other = n.bits } in
    let fits : (eqb n.bits 8 || eqb n.bits 16) ≡ true =
    is_depth n.bits (rw c.from.ensures at c.else-bits-from.either) in
    finds_so (option_map (Unsupported field.tag) (first_other form bytes at field n.samples))
    (bits_fault form bytes at) (λ (x : Unit {0}). Unit {0}) (λ (x : Unit {0}). Unit {0})
    c.test.result (c.test.ensures.told bytes is form at has)
    (bits_are form bytes at n field are refl refl refl fits) (λ x none seen. tt)
