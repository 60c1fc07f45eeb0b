use Rattle.std.proofs.Common.{◌≡◌, ℕ, ◌-◌, ◌*◌, ◌<◌, length, map, sym, ap, ◌∙◌, subst, arith}
use Rattle.std.proofs.lemmas.List.{get_or-map, length-map}
use Rattle.tiff_format.specs.Block.{Level as StoredLevel}
use Rattle.tiff_format.specs.Facts.{IsChain}
use Rattle.tiff_format.specs.Shown.{shown as shown_dir}
use Rattle.tile_layout.specs.Kept.{Kept, kept_in, kept_of, level_in, no_level}
use Rattle.tile_layout.specs.Level.{width_in, height_in}
use Rattle.tex_make.specs.Level.{shown}
use Rattle.tex_make.specs.PlainLevel.{level_at}
use Rattle.tex_make.specs.Stored.{AreLevelsOf, AreTexelsOf, HoldsAll, samples_kept}
use Rattle.tex_make.proofs.Pictures.{are_levels, is_picture, alike_bytes}
use Rattle.tex_make.proofs.reading.read_pyramid.Goals as goal

pub invariant_of-result : goal.invariant_of-result
invariant_of-result g c =
    let levels = c.in_ok-levels.levels.items in
    let file = c.of-layout.result in
    let chain = subst (λ (k : Kept). IsChain k.levels) (sym c.of-layout.ensures.value) c.args.dirs.chain in
    let are = c.in_ok-levels.ensures.levels in
    let ends = c.in_ok-levels.ensures.last in
    let rgb = c.index.result.now.rgb in
    record {
      levels_in = are_levels file chain (map shown levels) are (length levels - 1) ends rgb;
      known = is_picture file chain (map shown levels) are (length levels - 1) ends rgb;
    }

pub returns-clause-small : goal.returns-clause-small
returns-clause-small g c =
    let all = map shown c.in_ok-levels.levels.items in
    let file = c.of-layout.result in
    let are = c.in_ok-levels.ensures.levels in
    let some = are.some in
    let first = level_at all 0 in
    let shape = are.shapes 0 (omega (arith, some)) in
    ap (λ (w : ℕ). w * first.height * first.channels) shape.width
    ∙ ap (λ (h : ℕ). width_in file 0 * h * first.channels) shape.height
    ∙ ap (λ (n : ℕ). width_in file 0 * height_in file 0 * n) shape.channels
    ∙ ap samples_kept c.of-layout.ensures.value

pub returns-clause-told : goal.returns-clause-told
returns-clause-told g c = λ bytes told dirs holds.
    let levels = c.in_ok-levels.levels.items in
    let all = map shown levels in
    let items = c.args.dirs.levels.items in
    let is : c.of-layout.result ≡ kept_of bytes = c.of-layout.ensures.told bytes dirs in
    let kept : kept_in c.args.dirs ≡ kept_of bytes = sym c.of-layout.ensures.value ∙ is in
    let chain = subst (λ (k : Kept). IsChain k.levels) kept c.args.dirs.chain in
    let are = subst (λ (k : Kept). AreLevelsOf k all) is c.in_ok-levels.ensures.levels in
    let holds_all = subst (λ (k : Kept). HoldsAll bytes k) (sym c.of-layout.ensures.value) holds in
    let texels = subst (λ (k : Kept). AreTexelsOf k bytes all) is
    (c.in_ok-levels.ensures.told bytes told holds_all) in
    let some = c.args.dirs.chain.some in
    let low : 0 < length items = omega (arith, some, length-map items shown_dir) in
    let first = get_or-map shown_dir items 0 c.index.result.now no_level low in
    let rgb = ap (λ (v : StoredLevel). v.shape.rgb) (ap shown_dir c.index.ensures ∙ sym first)
    ∙ ap (λ (k : Kept). (level_in k 0).shape.rgb) kept in
    alike_bytes bytes all chain are (length levels - 1) c.in_ok-levels.ensures.last texels
    c.index.result.now.rgb rgb
