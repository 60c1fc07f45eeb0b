-- Which values have the four texels of a square, if one tile has them all?
use Rattle.std.specs.Prelude.{◌≡◌, ℕ, ◌+◌, ◌≤◌, List, length, take, drop}
use Rattle.tex_world.specs.World.{Files}
use Rattle.texel_filter.specs.declared.square.Square.{Square}
use Rattle.texel_filter.specs.declared.square.Corners.{Corners}
use Rattle.texel_filter.specs.Image.{AreFirst}
use Rattle.texel_filter.specs.Square.{AreCorners}
use Rattle.tiff_format.specs.declared.rect.Rect.{Rect}
use Rattle.tile_layout.specs.Key.{level_of}
use Rattle.tile_layout.specs.Cell.{HoldsTexel, bit_depth_of}
use Rattle.tile_layout.specs.Value.{channel_value_of}
use Rattle.tile_store.specs.declared.two_rows.TwoRows.{TwoRows}
use Rattle.tile_store.specs.SampleRow.{top_of, bottom_of}
use Rattle.tile_store.specs.Tile.{CachedTile}
use Rattle.tile_store.specs.Told.{ToldBy}
use Rattle.texel_values.specs.Values.{sample_or_zero}

-- all four texels lie in the rectangle
pub record HoldsSquare (rect : Rect) (square : Square) : Type 0 where
  pub left_top : HoldsTexel rect square.left square.top
  pub right_bottom : HoldsTexel rect square.right square.bottom

-- In a modelled world, the corners have the values of the square in its file, if level and depth
-- are right.
abbrev pub AreToldCorners : Files → CachedTile → ℕ → Square → ℕ → Corners → Type 0
AreToldCorners files tile depth square channels corners = ToldBy files tile.key (λ bytes.
    level_of tile.key ≡ square.level → depth ≡ bit_depth_of bytes
    → AreCorners (channel_value_of bytes) square channels corners)

-- the samples of a row include those of two texels, which begin at these places
pub record HasEnds (samples : List ℕ) (places : ℕ × ℕ) (wide : ℕ) : Type 0 where
  pub left : places.0 + wide ≤ length samples
  pub right : places.1 + wide ≤ length samples

-- the channels of the texel that begins at a place; 0 for those that it lacks
abbrev pub texel_at : List ℕ → ℕ → ℕ → ℕ → ℕ
texel_at samples from wide = sample_or_zero (take wide (drop from samples))

-- the corners have, in their first channels, the samples of these two texels in each row
pub record AreCornersOf (rows : TwoRows) (places : ℕ × ℕ) (wide channels : ℕ) (corners : Corners)
    : Type 0 where
  pub left_top : AreFirst channels (texel_at (top_of rows) places.0 wide) corners.left_top
  pub right_top : AreFirst channels (texel_at (top_of rows) places.1 wide) corners.right_top
  pub left_bottom : AreFirst channels (texel_at (bottom_of rows) places.0 wide) corners.left_bottom
  pub right_bottom : AreFirst channels (texel_at (bottom_of rows) places.1 wide) corners.right_bottom
