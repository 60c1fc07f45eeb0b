use Rattle.std.proofs.Common.{◌≡◌, ◌+◌, ◌*◌, ◌∙◌, ap, arith, sym}
use Rattle.std.proofs.lemmas.Bool.{leb-true, leb-false}
use Rattle.tiff_format.specs.Form.{offset_bytes, value_field_at}
use Rattle.tiff_format.specs.Field.{type_size}
use Rattle.tiff_format.proofs.BytesOfParts.{number_of_part}
use Rattle.tiff_format.proofs.Sizes.{sizes}
use Rattle.tiff_entries.proofs.Entries.{place_inner, place_far}
use Rattle.tiff_entries.proofs.entry.Entry.from_bytes.Goals as goal
use Rattle.tiff_entries.proofs.entry.Entry.from_bytes.Goals.{then-takes_at_most, else-takes_at_most}

pub returns-clause-entry : goal.returns-clause-entry
returns-clause-entry c = λ bytes part.
    let form = c.args.place.form in
    let place = c.args.place.at in
    let raw = c.args.raw.now in
    let size = sizes form in
    let kind = number_of_part form.big 2 2 place bytes raw part (omega (arith, size.low_entry)) in
    let count = number_of_part form.big (offset_bytes form) 4 place bytes raw part
    (omega (arith, size.value)) in
    let far = number_of_part form.big (offset_bytes form) (value_field_at form) place bytes raw part
    (omega (arith, size.value)) in
    let kind-is = c.short_at-kind.ensures.value ∙ kind in
    let count-is = c.offset_at-count.ensures.value ∙ count in
    let size-is = c.size_of_kind.ensures.value ∙ ap (type_size form) kind-is in
    let width-is = c.offset_bytes-width.ensures.value in
    record {
      kind = kind-is;
      count = count-is;
      start = elim c.if-takes_at_most.branch [
        | then-takes_at_most w ↦
            let fits = rw (count-is, size-is, width-is) at
            (leb-true (c.offset_at-count.result * c.size_of_kind.result) c.offset_bytes-width.result
            (sym c.takes_at_most.ensures ∙ w.if-takes_at_most.true)) in
            let there : c.args.place.at + (4 + c.offset_bytes-width.result)
            ≡ place + value_field_at form = omega (arith, width-is) in
            w.start-is ∙ there ∙ sym (place_inner form bytes place fits)
        | else-takes_at_most w ↦
            let wider = rw (count-is, size-is, width-is) at
            (leb-false (c.offset_at-count.result * c.size_of_kind.result) c.offset_bytes-width.result
            (sym c.takes_at_most.ensures ∙ w.if-takes_at_most.false)) in
            w.start-is ∙ w.offset_at-start.ensures.value ∙ rw width-is far
            ∙ sym (place_far form bytes place wider)
      ];
      inner = λ k lt.
          let there : place + (value_field_at form + k) ≡ place + value_field_at form + k =
          omega arith in
          c.inner_of-inner.ensures k lt
          ∙ rw there at (part (value_field_at form + k) (omega (arith, size.value)));
    }
