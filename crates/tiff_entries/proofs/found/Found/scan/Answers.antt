use Rattle.std.proofs.Common.{◌≡◌, ℕ, ◌+◌, ◌*◌, ◌≤◌, ◌-◌, length, take, drop, refl, arith, add_assoc, ◌∙◌}
use Rattle.std.proofs.lemmas.List.{length-take, length-drop}
use Rattle.tiff_format.specs.Form.{entry_bytes}
use Rattle.tiff_format.proofs.BytesOfParts.{part_of_part, number_of_part}
use Rattle.tiff_format.proofs.Sizes.{sizes}
use Rattle.tiff_entries.proofs.Covering.{covers_more}
use Rattle.tiff_entries.proofs.Products.{one_more_within}
use Rattle.tiff_entries.proofs.found.Found.scan.Goals as goal

pub loop-i-preserved : goal.loop-i-preserved
loop-i-preserved c = λ bytes first done place-is part covers.
    let form = c.args.place.form in
    let size = entry_bytes form in
    let i = c.loop-i.i in
    let n = done + i in
    let all = c.args.part.now in
    let at = c.entry_bytes.result * i in
    let at-is : at ≡ size * i = rw c.entry_bytes.ensures.value refl in
    let here : c.args.place.at + at ≡ first + size * n = omega (arith, at-is, place-is) in
    let raw = part_of_part bytes c.args.place.at all at (length all - at) part in
    let within = one_more_within size i c.args.more c.loop-i-test.true in
    let long : 2 ≤ length (take (length all - at) (drop at all)) =
    omega (
      arith,
      length-take {A = ℕ},
      length-drop {A = ℕ},
      at-is,
      within,
      c.requires.long,
      (sizes form).low_entry,
    ) in
    let zero-there : c.args.place.at + at + 0 ≡ first + size * n = omega (arith, here) in
    let tag = rw zero-there at (number_of_part form.big 2 0 (c.args.place.at + at) bytes
    (take (length all - at) (drop at all)) raw long) in
    let entry = rw (c.behind.ensures.at, here) at
    (c.from_bytes-entry.ensures.entry bytes (rw c.behind.ensures.at raw)) in
    rw (← add_assoc done i 1) (covers_more form bytes first n _ _ _ _
    (c.loop-i.invariant bytes first done place-is part covers) c.note.ensures
    (c.short_at.ensures.value ∙ tag) (c.from_bytes-entry.ensures.form ∙ c.behind.ensures.form) entry)
