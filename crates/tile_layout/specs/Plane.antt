-- Which level is one plane of a level, taken alone? (TIFF 6.0, section 8, PlanarConfiguration)
--
-- Its texels have the samples that the plane stores together, from channel p on. If a level stores
-- all samples together, its only plane is the level itself.
use Rattle.std.specs.Prelude.{ℕ, ◌*◌, ◌==◌, ◌&&◌, drop}
use Rattle.tiff_format.specs.Block.{LevelShape, Level, shape_of, level_with, plane_blocks}
use Rattle.tiff_format.specs.Block.{samples_aside}
use Rattle.tile_layout.specs.Kept.{Kept, level_in}

-- the shape of plane p; only the first plane has channel 0, which WhiteIsZero inverts
abbrev pub plane_shape : LevelShape → ℕ → LevelShape
plane_shape shape p = shape_of shape.width shape.height (samples_aside shape) 1 shape.depth
    (shape.white && (p == 0)) shape.rgb shape.tile shape.rows_per_strip

-- plane p; the blocks of earlier planes come first, and later offsets are ignored
abbrev pub plane_level : Level → ℕ → Level
plane_level level p = level_with (plane_shape level.shape p)
    (drop (p * plane_blocks level.shape) level.offsets)

-- plane p of stored level l
abbrev pub plane_in : Kept → ℕ → ℕ → Level
plane_in file l p = plane_level (level_in file l) p
