use Rattle.std.proofs.Common.{◌≡◌, ℕ, Bool, false, eqb, ◌∙◌, ap, sym, arith}
use Rattle.std.specs.Prelude.{◌==◌, ◌&&◌}
use Rattle.std.proofs.lemmas.Bool.{ne_eqb}
use Rattle.tiff_format.specs.Bytes.{number_at, is_big}
use Rattle.tiff_format.proofs.BytesOfParts.{number_of_part}
use Rattle.tiff_entries.proofs.header.says_wide.Goals as goal

pub returns-then-offset_bytes : goal.returns-then-offset_bytes
returns-then-offset_bytes c = λ bytes part big.
    let head = c.args.head.now in
    let first : c.short_at-offset_bytes.result ≡ number_at (is_big bytes) 2 bytes 4 =
    c.short_at-offset_bytes.ensures.value
    ∙ number_of_part c.args.form.big 2 4 0 bytes head part (omega (arith, c.requires))
    ∙ ap (λ (b : Bool). number_at b 2 bytes 4) big in
    let second : c.short_at-zero.result ≡ number_at (is_big bytes) 2 bytes 6 =
    c.short_at-zero.ensures.value
    ∙ number_of_part c.args.form.big 2 6 0 bytes head part (omega (arith, c.requires))
    ∙ ap (λ (b : Bool). number_at b 2 bytes 6) big in
    let eight : number_at (is_big bytes) 2 bytes 4 ≡ 8 = sym first ∙ c.if-offset_bytes.true in
    ap (λ (n : ℕ). eqb n 0) second
    ∙ sym (ap (λ (n : ℕ). (n == 8) && (number_at (is_big bytes) 2 bytes 6 == 0)) eight)

pub returns-else-offset_bytes : goal.returns-else-offset_bytes
returns-else-offset_bytes c = λ bytes part big.
    let first : c.short_at-offset_bytes.result ≡ number_at (is_big bytes) 2 bytes 4 =
    c.short_at-offset_bytes.ensures.value
    ∙ number_of_part c.args.form.big 2 4 0 bytes c.args.head.now part (omega (arith, c.requires))
    ∙ ap (λ (b : Bool). number_at b 2 bytes 4) big in
    let other : eqb c.short_at-offset_bytes.result 8 ≡ false =
    ne_eqb c.short_at-offset_bytes.result 8 c.if-offset_bytes.false in
    other
    ∙ sym (ap (λ (b : Bool). b && (number_at (is_big bytes) 2 bytes 6 == 0))
    (ap (λ (n : ℕ). eqb n 8) (sym first) ∙ other))
