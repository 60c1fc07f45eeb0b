-- How do contracts see a level that was read?
use Rattle.tiff_plain.specs.declared.shape.PlainShape.{PlainShape}
use Rattle.tiff_plain.specs.declared.level.PlainLevel.{PlainLevel}
use Rattle.tiff_format.specs.Block.{LevelShape, Level, shape_of, level_with}

-- the shape as plain data
abbrev pub shown_shape : PlainShape → LevelShape
shown_shape shape = shape_of shape.width shape.height shape.channels shape.planes shape.depth
    shape.white shape.rgb shape.tile shape.rows_per_strip

-- the shape and the offsets as plain data
abbrev pub shown : PlainLevel → Level
shown level = level_with (shown_shape level.shape) level.offsets.items
