use Rattle.std.proofs.Common.{ℕ, refl, arith, ◌∙◌, add-zero}
use Rattle.std.proofs.lemmas.List.{length-take}
use Rattle.tiff_format.specs.Form.{count_bytes}
use Rattle.tiff_format.proofs.BytesOfParts.{number_of_part}
use Rattle.tiff_format.proofs.Sizes.{sizes}
use Rattle.tiff_entries.proofs.directory.read_count.Goals as goal

pub returns-clause-told : goal.returns-clause-told
returns-clause-told g c = λ bytes is.
    let form = c.args.place.form in
    let part = (c.in_ok-read_at.ensures.told bytes is).1 in
    let few = (sizes form).count in
    let there = rw add-zero at (number_of_part form.big (count_bytes form) 0 c.args.place.at bytes
    c.read_at.new.buf part (omega (arith, c.read_at.auto.buf, length-take {A = ℕ}, few))) in
    (refl, c.count_at.ensures.value ∙ there)
