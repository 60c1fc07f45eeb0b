use Rattle.std.proofs.Common.{◌≡◌, ℕ, true, false, length, get_or, List, None, refl, sym, ap, ◌∙◌}
use Rattle.tiff_format.specs.Field.{entry_value, field_value}
use Rattle.tiff_entries.specs.Entries.{is_shaped}
use Rattle.tiff_entries.proofs.Saying.{finds_so}
use Rattle.tiff_entries.proofs.FieldValues.{absent_values, misshapen_values, shaped_values}
use Rattle.tiff_entries.proofs.FieldValues.{default_first}
use Rattle.tiff_dirs.proofs.fields.first_value.Goals as goal

pub returns-in-None-clause-told : goal.returns-in-None-clause-told
returns-in-None-clause-told g c = λ bytes is form at has. (
  refl,
  c.unwrap_or.ensures ∙ default_first c.default_value.result
      ∙ ap (λ (xs : List ℕ). get_or xs 0 0) (c.default_value.ensures
      ∙ sym (absent_values form bytes at c.args.tag
      (c.in-None.ensures bytes form at has))),
)

pub returns-then-has_shape-clause-told : goal.returns-then-has_shape-clause-told
returns-then-has_shape-clause-told g c = λ bytes is form at has.
    let long : length bytes ≡ g.B.ByteReader.size c.args.b.now =
    g.met.B.ByteReader.lawful.told c.args.b.now bytes is in
    let good : is_shaped (length bytes) c.in-Some.entry ≡ true =
    ap (λ n. is_shaped n c.in-Some.entry) (long ∙ sym c.len.ensures)
    ∙ sym c.has_shape.ensures ∙ c.if-has_shape.true in
    let v = shaped_values form bytes at c.args.tag c.in-Some.entry
    (c.in-Some.ensures bytes form at has) good in
    finds_so None None (λ (x : ℕ). x ≡ entry_value c.in-Some.entry.form bytes v.place 0)
    (λ (x : ℕ). x ≡ field_value form bytes at c.args.tag)
    c.value_of_entry.result (c.value_of_entry.ensures.told bytes is v.place v.is) refl
    (λ x none same. same ∙ sym (v.each 0 v.some))

pub returns-else-has_shape-clause-told : goal.returns-else-has_shape-clause-told
returns-else-has_shape-clause-told g c = λ bytes is form at has.
    let long : length bytes ≡ g.B.ByteReader.size c.args.b.now =
    g.met.B.ByteReader.lawful.told c.args.b.now bytes is in
    let bad : is_shaped (length bytes) c.in-Some.entry ≡ false =
    ap (λ n. is_shaped n c.in-Some.entry) (long ∙ sym c.len.ensures)
    ∙ sym c.has_shape.ensures ∙ c.if-has_shape.false in (
      refl,
      ap (λ (xs : List ℕ). get_or xs 0 0) (sym (misshapen_values form bytes at c.args.tag
          c.in-Some.entry (c.in-Some.ensures bytes form at has) bad)),
    )
