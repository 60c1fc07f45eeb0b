-- When does a tile belong to a cell, and when does a microcache have the cell?
use Rattle.std.specs.Prelude.{◌≡◌, ◌==◌, ◌&&◌, ℕ, Bool, false, List, IsTrue, IsSomeAnd, slice_get}
use Rattle.std.specs.List.{find}
use Rattle.std.specs.Option.{option_map_or}
use Rattle.tiff_format.specs.declared.rect.Rect.{Rect}
use Rattle.tile_store.specs.Tile.{CachedTile}
use Rattle.micro.specs.Items.{has_key}
use Rattle.pinned_tiles.specs.declared.cell.CellAt.{CellAt}
use Rattle.pinned_tiles.specs.Pinned.{key_in}

-- whether two rectangles are equal
abbrev pub is_rect : Rect → Rect → Bool
is_rect a b = (a.x == b.x) && ((a.y == b.y) && ((a.w == b.w) && (a.h == b.h)))

-- The tile has the rectangle of the cell, and its number of samples.
abbrev pub is_tile_of : CellAt → CachedTile → Bool
is_tile_of cell tile = is_rect tile.rect cell.rect && (tile.channels == cell.channels)

-- whether the tile with the cell's key is there and belongs to the cell
abbrev pub has_cell : CellAt → List CachedTile → Bool
has_cell cell tiles =
    option_map_or (is_tile_of cell) (find (has_key key_in cell.key) tiles) false

-- the first tile has the key
abbrev pub HasFirst : ℕ → List CachedTile → Type 0
HasFirst key tiles = IsSomeAnd (slice_get tiles 0) (λ tile. tile.key ≡ key)

-- the first tile has the cell's key and belongs to the cell
abbrev pub StandsFirst : CellAt → List CachedTile → Type 0
StandsFirst cell tiles = IsSomeAnd (slice_get tiles 0) (λ tile.
    (tile.key ≡ cell.key) × IsTrue (is_tile_of cell tile))
