use Rattle.tiff_plain.proofs.LevelLemmas.{level_has_shape}
use Rattle.tiff_plain.proofs.texels.stored_shape.Goals as goal

pub returns-clause-shape : goal.returns-clause-shape
returns-clause-shape c =
    rw (c.shape_at.ensures.value, c.form_of.ensures.value, c.level_place.ensures.value)
    (level_has_shape c.args.bytes.now c.args.l c.requires.good c.requires.stored)
