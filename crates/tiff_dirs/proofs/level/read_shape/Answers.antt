use Rattle.std.proofs.Common.{◌≡◌, length, refl, sym, ◌∙◌}
use Rattle.tiff_dirs.specs.declared.shape.ReadShape.{ReadShape}
use Rattle.tiff_format.specs.Block.{shape_at}
use Rattle.tiff_dirs.specs.Shape.{seen_shape}
use Rattle.tiff_dirs.specs.Numbers.{numbers_fault, fields_fault}
use Rattle.tiff_entries.proofs.Saying.{finds_so}
use Rattle.tiff_dirs.proofs.Order.{fields_are}
use Rattle.tiff_dirs.proofs.level.read_shape.Goals as goal

pub returns-clause-told : goal.returns-clause-told
returns-clause-told g c = λ bytes is form at has.
    let lawful = g.met.B.ByteReader.lawful in
    let long : length bytes ≡ c.len.result =
    lawful.told c.args.b.now bytes is ∙ sym c.len.ensures in
    let entries = (c.in_ok-test_fields.ensures bytes form at has long).0 in
    finds_so (numbers_fault form bytes at) (fields_fault form bytes at)
    (λ (s : ReadShape). seen_shape s ≡ shape_at form bytes at)
    (λ (s : ReadShape). seen_shape s ≡ shape_at form bytes at)
    c.shape_of_numbers.result (c.shape_of_numbers.ensures.told bytes is form at has)
    (fields_are form bytes at ∙ rw entries refl) (λ shape none seen. seen)
