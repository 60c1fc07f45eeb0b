use Rattle.std.proofs.Common.{◌≡◌, ℕ, true, false, not, length, List, Option, None}
use Rattle.std.proofs.Common.{refl, sym, ap, ◌∙◌, arith, min, take}
use Rattle.std.proofs.Math.Seq.{take-nil}
use Rattle.std.specs.Prelude.{find}
use Rattle.tiff_format.specs.Field.{entry_value, field_values}
use Rattle.tiff_entries.specs.Entries.{is_shaped}
use Rattle.tiff_dirs.specs.Values.{is_allowed, IsFirstOther, first_other}
use Rattle.tiff_entries.proofs.Saying.{finds_so}
use Rattle.tiff_dirs.proofs.Finding.{other_found}
use Rattle.tiff_entries.proofs.FieldValues.{absent_values, misshapen_values, shaped_values}
use Rattle.tiff_dirs.proofs.sample_fields.SampleField.first_other.Goals as goal

pub returns-in-None-clause-told : goal.returns-in-None-clause-told
returns-in-None-clause-told g c = λ bytes is form at has. (
  refl,
  c.other_default.ensures ∙ ap (λ (xs : List ℕ).
      find (λ v. not (is_allowed c.args.self.now v)) (take c.args.samples xs))
      (sym (absent_values form bytes at c.args.self.now.tag
      (c.in-None.ensures bytes form at has))),
)

pub returns-then-has_shape-clause-told : goal.returns-then-has_shape-clause-told
returns-then-has_shape-clause-told g c = λ bytes is form at has.
    let long : length bytes ≡ g.B.ByteReader.size c.args.b.now =
    g.met.B.ByteReader.lawful.told c.args.b.now bytes is in
    let good : is_shaped (length bytes) c.in-Some.entry ≡ true =
    ap (λ n. is_shaped n c.in-Some.entry) (long ∙ sym c.len.ensures)
    ∙ sym c.has_shape.ensures ∙ c.if-has_shape.true in
    let v = shaped_values form bytes at c.args.self.now.tag c.in-Some.entry
    (c.in-Some.ensures bytes form at has) good in
    let all = field_values form bytes at c.args.self.now.tag in
    let count : c.min.result ≡ min c.args.samples (length all) =
    omega (arith, c.min.ensures, v.long) in
    finds_so None None
    (IsFirstOther (is_allowed c.args.self.now) (entry_value c.in-Some.entry.form bytes v.place)
    c.min.result)
    (λ (x : Option ℕ). x ≡ first_other form bytes at c.args.self.now c.args.samples)
    c.other_of_entry.result (c.other_of_entry.ensures.told bytes is v.place v.is) refl
    (λ x none other. other_found (is_allowed c.args.self.now)
    (entry_value c.in-Some.entry.form bytes v.place) c.args.samples c.min.result all x count
    (λ k lt. v.each k (omega (arith, v.long))) other)

pub returns-else-has_shape-clause-told : goal.returns-else-has_shape-clause-told
returns-else-has_shape-clause-told g c = λ bytes is form at has.
    let long : length bytes ≡ g.B.ByteReader.size c.args.b.now =
    g.met.B.ByteReader.lawful.told c.args.b.now bytes is in
    let bad : is_shaped (length bytes) c.in-Some.entry ≡ false =
    ap (λ n. is_shaped n c.in-Some.entry) (long ∙ sym c.len.ensures)
    ∙ sym c.has_shape.ensures ∙ c.if-has_shape.false in
    let none = misshapen_values form bytes at c.args.self.now.tag c.in-Some.entry
    (c.in-Some.ensures bytes form at has) bad in
    let test = λ (v : ℕ). not (is_allowed c.args.self.now v) in (
      refl,
      sym (ap (λ (xs : List ℕ). find test (take c.args.samples xs)) none
          ∙ ap (find test) (take-nil c.args.samples)),
    )
