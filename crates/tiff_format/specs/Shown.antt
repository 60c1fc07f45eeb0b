-- How do contracts see a directory that was read?
use Rattle.tiff_format.specs.declared.dir.Dir.{Dir}
use Rattle.tiff_format.specs.Block.{LevelShape, Level, shape_of, level_with}

-- its fields, except the offsets
abbrev pub shown_shape : Dir → LevelShape
shown_shape dir = shape_of dir.width dir.height dir.channels dir.planes dir.depth dir.white
    dir.rgb dir.tile dir.rows_per_strip

-- its fields as plain data
abbrev pub shown : Dir → Level
shown dir = level_with (shown_shape dir) dir.offsets.items
