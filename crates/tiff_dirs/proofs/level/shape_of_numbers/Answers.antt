use Rattle.std.proofs.Common.{◌≡◌, refl, ◌∙◌}
use Rattle.std.proofs.lemmas.Result.{err_from_is_err_and}
use Rattle.tiff_format.specs.DirectoryFault.{bits_fault, format_fault}
use Rattle.tiff_dirs.specs.Numbers.{numbers_fault}
use Rattle.tiff_dirs.specs.declared.shape.ReadShape.{ReadShape}
use Rattle.tiff_format.specs.Block.{shape_at}
use Rattle.tiff_dirs.specs.Shape.{seen_shape}
use Rattle.tiff_entries.proofs.Saying.{finds_err}
use Rattle.tiff_dirs.proofs.Order.{numbers_are, shape_is_at}
use Rattle.tiff_dirs.proofs.level.shape_of_numbers.Goals as goal

pub returns-in_err-test_bits-clause-told : goal.returns-in_err-test_bits-clause-told
returns-in_err-test_bits-clause-told g c = λ bytes is form at has.
    let same = g.met.B.ByteReader.lawful.same_bytes in
    let r = c.from_residual-in_err-test_bits in
    let p = err_from_is_err_and r.result r.ensures.1 in
    let n = (c.in_ok-numbers.ensures.told bytes is form at has).1 in
    let told = c.in_err-test_bits.ensures.told bytes
    (same _ _ c.in_ok-numbers.ensures.reader ∙ is) form at has n in
    rw (p.1, p.2) (finds_err (bits_fault form bytes at) (numbers_fault form bytes at)
    (λ (x : Unit {0}). Unit {0}) (λ (s : ReadShape). seen_shape s ≡ shape_at form bytes at)
    c.in_err-test_bits.field-0.0 told
    (λ fault shown. numbers_are form bytes at c.in_ok-numbers.numbers n ∙ rw shown refl))

pub returns-in_err-test_values-clause-told : goal.returns-in_err-test_values-clause-told
returns-in_err-test_values-clause-told g c = λ bytes is form at has.
    let same = g.met.B.ByteReader.lawful.same_bytes in
    let r = c.from_residual-in_err-test_values in
    let p = err_from_is_err_and r.result r.ensures.1 in
    let n = (c.in_ok-numbers.ensures.told bytes is form at has).1 in
    let bits = (c.in_ok-test_bits.ensures.told bytes
    (same _ _ c.in_ok-numbers.ensures.reader ∙ is) form at has n).0 in
    rw (p.1, p.2) (numbers_are form bytes at c.in_ok-numbers.numbers n
    ∙ rw (bits, c.in_err-test_values.ensures) refl)

pub returns-in_err-test_formats-clause-told : goal.returns-in_err-test_formats-clause-told
returns-in_err-test_formats-clause-told g c = λ bytes is form at has.
    let same = g.met.B.ByteReader.lawful.same_bytes in
    let r = c.from_residual-in_err-test_formats in
    let p = err_from_is_err_and r.result r.ensures.1 in
    let n = (c.in_ok-numbers.ensures.told bytes is form at has).1 in
    let is-2 = same _ _ c.in_ok-numbers.ensures.reader ∙ is in
    let bits = (c.in_ok-test_bits.ensures.told bytes is-2 form at has n).0 in
    let told = c.in_err-test_formats.ensures.told bytes
    (same _ _ c.in_ok-test_bits.ensures.reader ∙ is-2) form at has n in
    rw (p.1, p.2) (finds_err (format_fault form bytes at) (numbers_fault form bytes at)
    (λ (x : Unit {0}). Unit {0}) (λ (s : ReadShape). seen_shape s ≡ shape_at form bytes at)
    c.in_err-test_formats.field-0.0 told
    (λ fault shown. numbers_are form bytes at c.in_ok-numbers.numbers n
    ∙ rw (bits, c.in_ok-test_values.ensures.0, shown) refl))

pub returns-in_err-shape-clause-told : goal.returns-in_err-shape-clause-told
returns-in_err-shape-clause-told g c = λ bytes is form at has.
    let same = g.met.B.ByteReader.lawful.same_bytes in
    let r = c.from_residual-in_err-shape in
    let p = err_from_is_err_and r.result r.ensures.1 in
    let n = (c.in_ok-numbers.ensures.told bytes is form at has).1 in
    let is-2 = same _ _ c.in_ok-numbers.ensures.reader ∙ is in
    let bits = (c.in_ok-test_bits.ensures.told bytes is-2 form at has n).0 in
    let formats = (c.in_ok-test_formats.ensures.told bytes
    (same _ _ c.in_ok-test_bits.ensures.reader ∙ is-2) form at has n).0 in
    rw (p.1, p.2) (numbers_are form bytes at c.in_ok-numbers.numbers n
    ∙ rw (bits, c.in_ok-test_values.ensures.0, formats, c.in_err-shape.ensures) refl)

pub returns-clause-told : goal.returns-clause-told
returns-clause-told g c = λ bytes is form at has.
    let same = g.met.B.ByteReader.lawful.same_bytes in
    let n = (c.in_ok-numbers.ensures.told bytes is form at has).1 in
    let is-2 = same _ _ c.in_ok-numbers.ensures.reader ∙ is in
    let bits = (c.in_ok-test_bits.ensures.told bytes is-2 form at has n).0 in
    let formats = (c.in_ok-test_formats.ensures.told bytes
    (same _ _ c.in_ok-test_bits.ensures.reader ∙ is-2) form at has n).0 in
    let shape = c.in_ok-shape.ensures in (
      numbers_are form bytes at c.in_ok-numbers.numbers n
          ∙ rw (bits, c.in_ok-test_values.ensures.0, formats, shape.0) refl,
      shape_is_at form bytes at c.in_ok-numbers.numbers (seen_shape c.in_ok-shape.field-0) n
          shape.1,
    )
