-- When are the entries of a shard lawful for its tag?
use Rattle.std.specs.Prelude.{◌≡◌, ℕ, ◌<◌, ◌≤◌, nat_eq, List}
use Rattle.std.specs.List.{All, IsDistinct}
use Rattle.std.specs.Map.{keys_of}
use Rattle.tex_world.specs.World.{Files}
use Rattle.tiff_format.specs.declared.cut.Cut.{Cut}
use Rattle.tile_layout.specs.Key.{level_of, index_of}
use Rattle.tile_layout.specs.Level.{level_count}
use Rattle.tile_layout.specs.Cell.{cut_level_of, cell_count, cell_rect}
use Rattle.tile_store.specs.Tile.{CachedTile}
use Rattle.tile_store.specs.Told.{ToldBy, IsOfBytes}
use Rattle.tile_store.specs.CachedTile.{Entries, loose_bytes}
use Rattle.tile_store.specs.Tag.{share_in_tag, cut_of}

-- The key of the tile names a cell of a file with these bytes under this cut, and the tile has the
-- cell's rectangle.
pub record HasCell (cut : Cut) (bytes : List ℕ) (tile : CachedTile) : Type 0 where
  pub level : level_of tile.key < level_count bytes cut.automip
  pub index : index_of tile.key < cell_count (cut_level_of bytes cut (level_of tile.key))
  pub rect : tile.rect ≡ cell_rect (cut_level_of bytes cut (level_of tile.key)) (index_of tile.key)

-- the tile is the cell that its key names, under this cut, in a file with these bytes
pub record IsTileUnder (cut : Cut) (bytes : List ℕ) (tile : CachedTile) : Type 0 where
  pub cell : HasCell cut bytes tile
  pub of_bytes : IsOfBytes bytes tile

-- in a modelled world, the tile is a cell of its file under the cut
abbrev pub FitsCut : Files → Cut → CachedTile → Type 0
FitsCut files cut tile = ToldBy files tile.key (λ bytes. IsTileUnder cut bytes tile)

-- the tile fits the cut in the tag
abbrev pub FitsTag : Files → CachedTile → ℕ → Type 0
FitsTag files tile tag = FitsCut files (cut_of tag) tile

-- The keys are distinct, each tile fits the cut in the tag, and the unpinned ones take at most the
-- share in the tag.
pub record Lawful (files : Files) (tag : ℕ) (es : Entries) : Type 0 where
  pub distinct : IsDistinct nat_eq (keys_of es)
  pub cells : All (λ e. FitsCut files (cut_of tag) e.1.tile) es
  pub share : loose_bytes es ≤ share_in_tag tag

-- entries that are lawful for a tag stay lawful
abbrev pub KeepsLawful : Files → Entries → Entries → Type 0
KeepsLawful files old new = (tag : ℕ) → Lawful files tag old → Lawful files tag new

-- for each tag of this kind, lawful entries stay lawful
abbrev pub KeepsLawfulFor : Files → (ℕ → Type 0) → Entries → Entries → Type 0
KeepsLawfulFor files OfKind old new =
    (tag : ℕ) → OfKind tag → Lawful files tag old → Lawful files tag new
