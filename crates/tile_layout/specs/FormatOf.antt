-- How are the samples of a level stored?
use Rattle.std.specs.Prelude.{◌≡◌, Bool, if◌then◌else◌}
use Rattle.tiff_format.specs.Block.{LevelShape}
use Rattle.tile_layout.specs.declared.texel_format.TexelFormat.{TexelFormat}

-- the format belongs to a plane of this shape in a file with this byte order
pub record IsFormatOf (big : Bool) (shape : LevelShape) (format : TexelFormat) : Type 0 where
  pub one : shape.planes ≡ 1
  pub depth : format.depth ≡ shape.depth
  pub order : format.big ≡ big
  pub channels : format.channels ≡ shape.channels
  pub invert : format.invert ≡ (if shape.white then shape.channels else 0)
