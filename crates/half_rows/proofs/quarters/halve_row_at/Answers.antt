use Rattle.std.proofs.Common.{◌≡◌, ℕ, ◌≤◌, ◌+◌, ◌*◌, ap, ◌∙◌, length, take, arith}
use Rattle.std.proofs.Common.{length-take, length-drop}
use Rattle.std.proofs.lemmas.List.{length-take-le}
use Rattle.std.proofs.lemmas.Nat.{mul-add-lt}
use Rattle.tiff_format.specs.Level.{halved}
use Rattle.half_rows.proofs.RowLemmas.{in_middle}
use Rattle.half_rows.proofs.quarters.halve_row_at.Goals as goal

pub returns-clause-each : goal.returns-clause-each
returns-clause-each c = λ i k below channel.
    let out = c.halve_row.new.out in
    let fits : c.args.start ≤ length c.args.out.now = omega (arith, c.requires.out) in
    let size : c.half_width.result * c.args.channels ≡ halved c.args.width * c.args.channels =
    ap (λ (q : ℕ). q * c.args.channels) c.half_width.ensures in
    let long = simp (length-take, length-drop) at c.halve_row.ensures.long in
    let low = mul-add-lt i c.args.channels k (halved c.args.width) below channel in
    in_middle (take c.args.start c.args.out.now) out _ c.args.start (i * c.args.channels + k)
    (length-take-le c.args.start c.args.out.now fits)
    (omega (arith, low, long, size, c.requires.out))
    ∙ c.halve_row.ensures.each i k below channel
