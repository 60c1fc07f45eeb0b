use Rattle.std.proofs.Common.{◌≡◌, ℕ, ◌*◌, ◌+◌, ◌≤◌, length, arith, refl}
use Rattle.std.proofs.lemmas.List.{length-take}
use Rattle.std.proofs.Math.Nat.{mul-le-mul_left}
use Rattle.tiff_format.specs.Bytes.{number_at}
use Rattle.tiff_format.specs.Field.{type_size, entry_value}
use Rattle.tiff_dirs.proofs.Gathering.{first_more}
use Rattle.tiff_dirs.proofs.offsets.read_more.Goals as goal

pub returns-clause-told : goal.returns-clause-told
returns-clause-told g c = λ bytes is place entry first.
    let e = c.args.entry.now in
    let size = type_size e.form e.kind in
    let old = c.args.values.now.items in
    let values = (c.in_ok-read_part.ensures.told bytes is place entry).1 in
    let room : c.args.more * c.value_size.result ≤ length c.args.buffer.now =
    rw c.value_size.ensures.value (omega (arith, c.requires.room)) in
    let taken : c.args.more * c.value_size.result ≤ length c.read_part.new.part =
    omega (arith, c.read_part.auto.part, length-take {A = ℕ}, room) in
    let read : c.args.more * size ≤ length c.read_part.new.part =
    rw (← c.value_size.ensures.value) taken in
    let from-is : c.len.result ≡ length old =
    omega (arith, c.len.ensures, c.args.values.now.ok.0) in (
      refl,
      first_more c.args.more (λ k. number_at e.form.big size c.read_part.new.part (size * k))
          (entry_value e.form bytes place) old c.append_values.new.values.items first
          c.append_values.ensures.appends
          (λ k lt.
          let more-than : size * (k + 1) ≤ size * c.args.more =
          mul-le-mul_left size (let h : k + 1 ≤ c.args.more = omega arith in h) in
          rw from-is at (values k (omega (arith, more-than, read)))),
    )
