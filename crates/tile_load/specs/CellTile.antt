-- Which tile belongs to a cell?
use Rattle.std.specs.Prelude.{◌≡◌, ℕ}
use Rattle.tiff_format.specs.declared.cut.Cut.{Cut}
use Rattle.tile_layout.specs.Key.{level_of, index_of}
use Rattle.tile_layout.specs.Kept.{Kept, level_in}
use Rattle.tile_layout.specs.Cell.{cell_rect, cut_level_in, channels_in}
use Rattle.tile_store.specs.Tile.{CachedTile}
use Rattle.piece_samples.specs.Beyond.{CountAsZero, IsAllBeyond}

-- the tile has the key and the rectangle of the cell, and the samples of the file
pub record IsCellTile (layout : Kept) (cut : Cut) (key : ℕ) (tile : CachedTile) : Type 0 where
  pub key_is : tile.key ≡ key
  pub rect_is : tile.rect ≡ cell_rect (cut_level_in layout cut (level_of key)) (index_of key)
  pub channels_is : tile.channels ≡ channels_in layout

-- each sample of a piece of a row that lies beyond the end of the file is 0
abbrev pub HasZeros : Kept → ℕ → CachedTile → Type 0
HasZeros layout len tile =
    CountAsZero (level_in layout (level_of tile.key)) len tile.rect tile.texels

-- no piece of a row of the cell lies below this length of the file
abbrev pub IsCellBeyond : Kept → Cut → ℕ → ℕ → Type 0
IsCellBeyond layout cut key len =
    IsAllBeyond (level_in layout (level_of key)) len
    (cell_rect (cut_level_in layout cut (level_of key)) (index_of key))
