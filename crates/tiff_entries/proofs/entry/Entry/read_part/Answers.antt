use Rattle.std.proofs.Common.{true, leb, ◌≡◌, ◌+◌, ◌*◌, ◌-◌, ◌≤◌, length, arith}
use Rattle.std.proofs.Common.{◌∙◌, sym, refl, None}
use Rattle.std.proofs.lemmas.Bool.{leb-true}
use Rattle.tiff_format.specs.Field.{entry_value}
use Rattle.tiff_format.specs.Form.{offset_bytes, value_field_at}
use Rattle.tiff_format.specs.Bytes.{IsPartAt}
use Rattle.tiff_entries.specs.Entries.{SpellValues, value_bytes, entry_size}
use Rattle.tiff_entries.proofs.Saying.{finds_so}
use Rattle.tiff_entries.proofs.Entries.{place_inner, shape_parts, inner_part}
use Rattle.tiff_entries.proofs.FieldValues.{value_of_part}
use Rattle.tiff_entries.proofs.entry.Entry.read_part.Goals as goal

pub returns-then-is_inner-clause-told : goal.returns-then-is_inner-clause-told
returns-then-is_inner-clause-told g c = λ bytes is place entry. (
  refl,
  λ k long.
      let own = c.args.self.now in
      let skip = c.value_size.result * c.args.from in
      let skip-is : skip ≡ value_bytes own * c.args.from = rw c.value_size.ensures.value refl in
      let inner : leb (entry_size own) (offset_bytes own.form) ≡ true =
      sym c.is_inner.ensures ∙ c.if-is_inner.true in
      let fits : entry_size own ≤ offset_bytes own.form =
      leb-true (entry_size own) (offset_bytes own.form) inner in
      let fits-there = rw (entry.count, entry.kind) at fits in
      let start-is = entry.start ∙ place_inner own.form bytes place fits-there in
      let part = inner_part bytes (place + value_field_at own.form) own.inner
      (offset_bytes own.form) skip (skip + length c.args.part.now - skip)
      (omega (arith, skip-is, fits, c.requires.within)) entry.inner in
      value_of_part bytes place own entry c.args.from k _
      (rw (c.copy_from_slice.ensures.after, start-is, ← skip-is) part) long,
)

pub returns-clause-told : goal.returns-clause-told
returns-clause-told g c = λ bytes is place entry.
    finds_so None None
    (λ _. IsPartAt bytes (c.args.self.now.start + c.value_size.result * c.args.from)
    c.read_at.new.buf)
    (λ _. SpellValues c.args.self.now c.read_at.new.buf
    (λ k. entry_value c.args.self.now.form bytes place (c.args.from + k)))
    c.read_at.result (c.read_at.ensures.told bytes is) refl
    (λ _ none part k long. value_of_part bytes place c.args.self.now entry c.args.from k
    c.read_at.new.buf (rw c.value_size.ensures.value at part) long)

pub overflow_add-self : goal.overflow_add-self
overflow_add-self g c =
    let h = shape_parts (g.B.ByteReader.size c.args.b.now) c.args.self.now c.requires.shape in
    rw c.value_size.ensures.value (omega (arith, h.end, c.requires.within))
