use Rattle.tiff_plain.proofs.LevelLemmas.{level_has_shape}
use Rattle.tiff_plain.proofs.texels.stored_offset.Goals as goal

pub offset_of-requires : goal.offset_of-requires
offset_of-requires c =
    rw (c.form_of.ensures.value, c.level_place.ensures.value)
    (level_has_shape c.args.bytes.now c.args.l c.requires.good c.requires.stored)
