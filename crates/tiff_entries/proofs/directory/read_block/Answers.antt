use Rattle.std.proofs.Common.{◌≡◌, ℕ, ◌*◌, ◌+◌, ◌≤◌, length, refl, arith, ◌∙◌}
use Rattle.std.proofs.lemmas.List.{length-take}
use Rattle.tiff_format.specs.Form.{entry_bytes, offset_bytes}
use Rattle.tiff_format.proofs.BytesOfParts.{number_of_part}
use Rattle.tiff_entries.proofs.directory.read_block.Goals as goal

pub returns-clause-told : goal.returns-clause-told
returns-clause-told g c = λ bytes is.
    let form = c.args.place.form in
    let at = c.args.place.at in
    let more = c.args.more in
    let block = c.read_at.new.buf in
    let part = (c.in_ok-read_at.ensures.told bytes is).1 in
    let end : c.entry_bytes.result * more ≡ entry_bytes form * more =
    rw c.entry_bytes.ensures.value refl in
    let long : entry_bytes form * more + offset_bytes form ≤ length block =
    omega (arith, c.read_at.auto.buf, length-take {A = ℕ}, c.bytes_of_entries.ensures, c.requires.room) in
    let number = number_of_part form.big (offset_bytes form) (entry_bytes form * more) at bytes block
    part long in (
      refl,
      record {
        covers = λ first done there covers. c.scan.ensures bytes first done there part covers;
        behind = rw end at c.offset_at.ensures.value ∙ number;
      },
    )
