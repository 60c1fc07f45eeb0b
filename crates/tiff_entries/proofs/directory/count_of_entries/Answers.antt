use Rattle.std.proofs.Common.{◌+◌, ◌-◌, ◌*◌, ◌≤◌, arith, ◌∙◌, sym}
use Rattle.std.proofs.lemmas.Bool.{leb-true, le-leb, false≢true}
use Rattle.tiff_format.specs.Form.{entry_bytes, offset_bytes}
use Rattle.tiff_entries.proofs.Parts.{IsInside, inside_parts}
use Rattle.tiff_entries.proofs.Shown.{outside_is, inside_is}
use Rattle.tiff_entries.proofs.directory.count_of_entries.Goals as goal

pub returns-clause-told : goal.returns-clause-told
returns-clause-told g c = λ bytes is.
    let form = c.args.place.form in
    let at = c.args.place.at in
    let l = g.met.B.ByteReader.lawful.told c.args.b.now bytes is in
    let count = (c.in_ok-count.ensures.told bytes is).1 in
    let left = c.len-file.result - c.count_bytes-size.result - at in
    let room = rw count at (leb-true
    (entry_bytes form * c.in_ok-count.count + offset_bytes form) left
    (sym c.has_room.ensures ∙ c.if-not-has_room.false)) in
    let inside : IsInside form bytes at = record {
      low = omega (arith, c.header_bytes.ensures.value);
      high = omega (arith, l, room, c.count_bytes-size.ensures.value);
    } in
    (inside_is form bytes at inside, count)

pub returns-then-place-header_bytes-clause-told : goal.returns-then-place-header_bytes-clause-told
returns-then-place-header_bytes-clause-told g c = λ bytes is.
    let l = g.met.B.ByteReader.lawful.told c.args.b.now bytes is in
    outside_is c.args.place.form bytes c.args.place.at (λ yes.
    let h = inside_parts c.args.place.form bytes c.args.place.at yes in
    elim c.then-place-header_bytes.branch [
      | goal.then-place-header_bytes-via-then-place-header_bytes w ↦ omega (arith, h.low)
      | goal.then-place-header_bytes-via-else-place-header_bytes+then-file-size w ↦
          omega (arith, h.high, l)
      | goal.then-place-header_bytes-via-else-place-header_bytes+else-file-size+then-file-size-2 w ↦
          omega (arith, h.high, l)
    ])

pub returns-then-not-has_room-clause-told : goal.returns-then-not-has_room-clause-told
returns-then-not-has_room-clause-told g c = λ bytes is.
    let form = c.args.place.form in
    let at = c.args.place.at in
    let l = g.met.B.ByteReader.lawful.told c.args.b.now bytes is in
    let count = (c.in_ok-count.ensures.told bytes is).1 in
    let left = c.len-file.result - c.count_bytes-size.result - at in
    outside_is form bytes at (λ yes.
    let h = inside_parts form bytes at yes in
    let fits : entry_bytes form * c.in_ok-count.count + offset_bytes form ≤ left =
    rw count (omega (arith, h.high, l, c.count_bytes-size.ensures.value)) in
    absurd (false≢true (sym (sym c.has_room.ensures ∙ c.if-not-has_room.true)
    ∙ le-leb (entry_bytes form * c.in_ok-count.count + offset_bytes form) left fits)))
