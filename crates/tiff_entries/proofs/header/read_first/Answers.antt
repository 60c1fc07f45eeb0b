use Rattle.std.proofs.Common.{◌≡◌, ◌-◌, Bool, true, false, cond, refl, ap, sym, ◌∙◌, arith}
use Rattle.std.proofs.lemmas.Bool.{not-true, not-false}
use Rattle.tiff_format.specs.Form.{header_bytes, offset_bytes, offset_at}
use Rattle.tiff_format.proofs.BytesOfParts.{number_of_part}
use Rattle.tiff_entries.proofs.header.read_first.Goals as goal

-- in TIFF the offset is in the bytes that every header has
pub returns-then-not-form-clause-told : goal.returns-then-not-form-clause-told
returns-then-not-form-clause-told g c = λ bytes is part.
    let form = c.args.form in
    let narrow : form.wide ≡ false = not-true form.wide c.if-not-form.true in
    let size : offset_bytes form ≡ 4 = ap (λ (wide : Bool). cond wide 8 4) narrow in
    let place : header_bytes form - offset_bytes form ≡ 4 =
    ap (λ (wide : Bool). cond wide 16 8 - cond wide 8 4) narrow in
    let there = number_of_part form.big (offset_bytes form) 4 0 bytes c.args.head.now part
    (omega (arith, size, c.requires.head)) in
    (refl, c.offset_at.ensures.value ∙ there ∙ sym (ap (offset_at form bytes) place))

-- in BigTIFF the offset comes after them
pub returns-clause-told : goal.returns-clause-told
returns-clause-told g c = λ bytes is part.
    let form = c.args.form in
    let wide : form.wide ≡ true = not-false form.wide c.if-not-form.false in
    let size : offset_bytes form ≡ 8 = ap (λ (wide : Bool). cond wide 8 4) wide in
    let place : header_bytes form - offset_bytes form ≡ 8 =
    ap (λ (wide : Bool). cond wide 16 8 - cond wide 8 4) wide in
    let rest = (c.in_ok-read_at.ensures.told bytes is).1 in
    let there = number_of_part form.big (offset_bytes form) 0 8 bytes c.read_at.new.buf rest
    (omega (arith, size, c.read_at.auto.buf)) in
    (refl, c.offset_at-2.ensures.value ∙ there ∙ sym (ap (offset_at form bytes) place))
