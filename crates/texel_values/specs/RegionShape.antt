-- How does a region lie on its level, and where are the level's texels among its values?
use Rattle.std.specs.Prelude.{◌≡◌, ℕ, ◌+◌, ◌-◌, ◌*◌, ◌<◌, ◌≤◌, List, length}
use Rattle.tex_world.specs.World.{Files}
use Rattle.tiff_format.specs.declared.rect.Rect.{Rect}
use Rattle.tile_layout.specs.Key.{level_of}
use Rattle.tile_layout.specs.Cell.{HoldsTexel, bit_depth_of}
use Rattle.tile_layout.specs.Value.{channel_value_of}
use Rattle.tile_store.specs.Tile.{CachedTile, kept_sample}
use Rattle.tile_store.specs.Told.{ToldBy}
use Rattle.texel_values.specs.declared.window.RegionShape.{RegionShape}
use Rattle.texel_values.specs.Values.{kept_value}
use Rattle.texel_values.specs.Region.{value_at}

-- texel (i, j) of the region lies on the level
pub record InWindow (window : RegionShape) (i j : ℕ) : Type 0 where
  pub left : window.columns.before ≤ i
  pub right : i < window.columns.before + window.columns.inside
  pub top : window.rows.before ≤ j
  pub bottom : j < window.rows.before + window.rows.inside

-- the column in the level of a column of the region
abbrev pub column_of : RegionShape → ℕ → ℕ
column_of window i = window.columns.first + (i - window.columns.before)

abbrev pub row_of : RegionShape → ℕ → ℕ
row_of window j = window.rows.first + (j - window.rows.before)

-- The values are those of a region of this width and height.
pub record HasValues (window : RegionShape) (height : ℕ) (values : List ℕ) : Type 0 where
  pub count : length values ≡ height * (window.width * window.channels)
  pub across : window.columns.before + window.columns.inside ≤ window.width
  pub down : window.rows.before + window.rows.inside ≤ height

-- texel (i, j) of the region lies in the rectangle
abbrev pub IsIn : RegionShape → Rect → ℕ → ℕ → Type 0
IsIn window rect i j = InWindow window i j × HoldsTexel rect (column_of window i) (row_of window j)

-- Only the values of the texels in a rectangle may have changed.
abbrev pub KeepsOthersOn : Rect → RegionShape → ℕ → List ℕ → List ℕ → Type 0
KeepsOthersOn rect window height old new = (i j c : ℕ) → i < window.width → j < height
    → c < window.channels → ¬ IsIn window rect i j
    → value_at window.width window.channels new i j c
    ≡ value_at window.width window.channels old i j c

-- The texels that the tile has were written; all other values are unchanged.
pub record Paints (tile : CachedTile) (depth : ℕ) (window : RegionShape) (height : ℕ)
    (old new : List ℕ) : Type 0 where
  pub written : (i j c : ℕ) → i < window.width → j < height → c < window.channels
      → IsIn window tile.rect i j → value_at window.width window.channels new i j c
      ≡ kept_value depth (kept_sample tile (column_of window i) (row_of window j) c)
  pub others : KeepsOthersOn tile.rect window height old new

-- the values of the region's texels in a rectangle are those of a file with these bytes
abbrev pub HasValuesOn : List ℕ → ℕ → Rect → RegionShape → ℕ → List ℕ → Type 0
HasValuesOn bytes level rect window height values = (i j c : ℕ) → i < window.width → j < height
    → c < window.channels → IsIn window rect i j
    → value_at window.width window.channels values i j c
    ≡ channel_value_of bytes level (column_of window i) (row_of window j) c

-- In a modelled world, the values from a tile are those of its file, if the depth is right.
abbrev pub PaintsTold : Files → CachedTile → ℕ → RegionShape → ℕ → List ℕ → Type 0
PaintsTold files tile depth window height values = ToldBy files tile.key (λ bytes.
    depth ≡ bit_depth_of bytes
    → HasValuesOn bytes (level_of tile.key) tile.rect window height values)
