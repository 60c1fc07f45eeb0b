use Rattle.std.proofs.Common.{◌<◌, ◌∙◌, sym, ap, subst}
use Rattle.tiff_format.specs.Texel.{sample_in}
use Rattle.tile_layout.specs.Blocks.{HoldsBlocks}
use Rattle.tile_layout.specs.Kept.{Kept, kept_of, stored_count, level_in}
use Rattle.tile_layout.specs.Texel.{texel_at}
use Rattle.tile_layout.proofs.StoredTexels.{texel_stored, holds_level}
use Rattle.rect_read.specs.RectSamples.{samples_of}
use Rattle.rect_read.proofs.RectValues.{same_texels}
use Rattle.tile_load.proofs.loading.read_place.Goals as goal

pub returns-in-Ok-clause-told : goal.returns-in-Ok-clause-told
returns-in-Ok-clause-told g c = λ bytes told.
    let place = c.args.place.now in
    let file = place.layout.now in
    let l = place.level in
    let is = c.requires.layout bytes told in
    let stored : l < stored_count (kept_of bytes) =
    subst (λ (k : Kept). l < stored_count k) is.kept place.known.stored in
    let holds : HoldsBlocks bytes (level_in file l) =
    subst (λ (k : Kept). HoldsBlocks bytes (level_in k l)) (sym is.kept)
    (holds_level bytes l is.good stored) in
    same_texels (sample_in file.big bytes (level_in file l)) (texel_at bytes l)
    (level_in file l).shape.channels place.rect (samples_of c.in-Ok.texels)
    (λ x y channel.
    ap (λ (k : Kept). sample_in k.big bytes (level_in k l) x y channel) is.kept
    ∙ sym (texel_stored (kept_of bytes) bytes l x y channel stored))
    (c.in-Ok.ensures.told bytes told holds)
