use Rattle.std.proofs.Common.{◌≡◌, ℕ, ◌+◌, ◌*◌, slice_index, ap, sym, ◌∙◌, arith}
use Rattle.tiff_format.specs.Texel.{sample_in}
use Rattle.tile_layout.specs.Kept.{level_in}
use Rattle.tile_layout.specs.Level.{width_in, height_in}
use Rattle.tile_layout.proofs.StoredTexels.{texel_stored}
use Rattle.tex_make.proofs.reading.read_level.Goals as goal

pub returns-clause-told : goal.returns-clause-told
returns-clause-told g c = λ bytes told holds x y k across down channel.
    let file = c.args.layout.now in
    let l = c.args.level in
    let level = level_in file l in
    let samples = c.in_ok-samples.samples.items in
    let are = c.in_ok-samples.ensures.told bytes told (holds l c.requires) in
    let n = level.shape.channels in
    let same : c.channels.result ≡ n = sym (c.channels.ensures.value l c.requires) in
    let wide : c.size-width.result.0 ≡ width_in file l =
    ap (λ (s : ℕ × ℕ). s.0) c.size-width.ensures.value in
    let high : c.size-width.result.1 ≡ height_in file l =
    ap (λ (s : ℕ × ℕ). s.1) c.size-width.ensures.value in
    let first_x : 0 + x ≡ x = omega arith in
    let first_y : 0 + y ≡ y = omega arith in
    ap (λ (m : ℕ). slice_index samples ((y * c.size-width.result.0 + x) * m + k)) same
    ∙ ap (λ (w : ℕ). slice_index samples ((y * w + x) * n + k)) wide
    ∙ are.each x y k (omega (arith, across, wide)) (omega (arith, down, high)) (omega (arith, channel, same))
    ∙ ap (λ (i : ℕ). sample_in file.big bytes level i (0 + y) k) first_x
    ∙ ap (λ (j : ℕ). sample_in file.big bytes level x j k) first_y
    ∙ sym (texel_stored file bytes l x y k c.requires)
