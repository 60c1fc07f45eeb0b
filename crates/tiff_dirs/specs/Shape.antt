-- How do contracts see the shape of a level that was read?
use Rattle.tiff_dirs.specs.declared.shape.ReadShape.{ReadShape}
use Rattle.tiff_format.specs.Block.{LevelShape, shape_of}

-- the fields as plain data
abbrev pub seen_shape : ReadShape → LevelShape
seen_shape shape = shape_of shape.width shape.height shape.channels shape.planes shape.depth
    shape.white shape.rgb shape.tile shape.rows_per_strip
