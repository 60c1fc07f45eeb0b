use Rattle.tiff_plain.proofs.LevelLemmas.{level_has_shape}
use Rattle.tiff_plain.proofs.level.directory_level.Goals as goal

pub level_at-requires : goal.level_at-requires
level_at-requires c =
    rw (c.form_of.ensures.value, c.level_place.ensures.value)
    (level_has_shape c.args.bytes.now c.args.k c.requires.good c.requires.stored)
