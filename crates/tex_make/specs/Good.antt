-- When is a file a good texture of an image? It is valid by docs/FORMAT.md, and stores every level
-- down to one texel with the image's samples.
use Rattle.std.specs.Prelude.{◌≡◌, ℕ, ◌<◌, List, None}
use Rattle.tiff_format.specs.Fault.{first_fault}
use Rattle.tiff_format.specs.Level.{stored_levels}
use Rattle.tile_layout.specs.Level.{width_of, height_of}
use Rattle.tile_layout.specs.Cell.{channels_of, bit_depth_of}
use Rattle.tile_layout.specs.Texel.{texel_at}
use Rattle.tex_make.specs.Picture.{Picture}

pub record IsTextureOf (p : Picture) (texture : List ℕ) : Type 0 where
  -- it has no fault
  pub good : first_fault texture ≡ None
  -- it stores all levels of the image
  pub stored : stored_levels texture ≡ p.levels
  pub width : (l : ℕ) → l < p.levels → width_of texture l ≡ p.width l
  pub height : (l : ℕ) → l < p.levels → height_of texture l ≡ p.height l
  pub channels : channels_of texture ≡ p.channels
  pub depth : bit_depth_of texture ≡ p.depth
  -- each sample is that of the image
  pub samples : (l x y c : ℕ) → l < p.levels → x < p.width l → y < p.height l → c < p.channels
      → texel_at texture l x y c ≡ p.sample l x y c
