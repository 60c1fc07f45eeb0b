use Rattle.std.proofs.Common.{◌≡◌, ℕ, ◌*◌, length, ap, ◌∙◌, arith}
use Rattle.tiff_format.specs.Level.{halved}
use Rattle.tex_make.specs.Level.{shown}
use Rattle.tex_make.proofs.HalfLevel.{half_is, all_written}
use Rattle.tex_make.proofs.level.Level.halved.Goals as goal

pub invariant_of-result : goal.invariant_of-result
invariant_of-result c =
    let level = c.args.self.now in
    let out = c.halve_rows.new.out in
    let samples = c.in_ok-samples.samples in
    let long : length out ≡ samples.len =
    omega (arith, c.halve_rows.ensures.long, c.deref_mut.ensures.len) in
    let width = c.half_side-width.result in
    let height = c.half_side-height.result in
    let raw : length out ≡ width * height * level.channels =
    omega (arith, long, c.in_ok-samples.ensures.len) in
    let count : length out ≡ halved level.width * halved level.height * level.channels =
    raw ∙ ap (λ (w : ℕ). w * height * level.channels) c.half_side-width.ensures
    ∙ ap (λ (h : ℕ). halved level.width * h * level.channels) c.half_side-height.ensures in
    record {
      known = rw (
        all_written samples.len out samples.items long,
        c.half_side-width.ensures,
        c.half_side-height.ensures,
      ) (half_is (shown level) level.known out count c.halve_rows.ensures.rows);
    }
