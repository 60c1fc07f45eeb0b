-- Which cell holds a texel, when does a microcache have it, and which values has the texel?
use Rattle.std.specs.Prelude.{◌≡◌, ℕ, ◌<◌, Bool, false, List}
use Rattle.std.specs.Prelude.{Result, Ok, Err, IsOkAnd}
use Rattle.tex_world.specs.World.{Files, IsFile}
use Rattle.tiff_format.specs.declared.fault.TiffFault.{TiffFault}
use Rattle.tiff_format.specs.declared.cut.Cut.{Cut}
use Rattle.tile_layout.specs.Key.{key_of, generation_of, file_of, level_of, index_of}
use Rattle.tile_layout.specs.Kept.{Kept, stored_count}
use Rattle.tile_layout.specs.Level.{width_in, height_in, level_count_in}
use Rattle.tile_layout.specs.Cell.{cut_level_in, cell_count, cell_index, cell_rect, channels_in}
use Rattle.tile_layout.specs.Cell.{HoldsTexel}
use Rattle.tile_store.specs.Tile.{CachedTile}
use Rattle.file_table.specs.Record.{RecordState}
use Rattle.file_table.specs.Picture.{MayServe}
use Rattle.texel_values.specs.declared.texel_at.TexelAt.{TexelAt}
use Rattle.pinned_tiles.specs.declared.cell.CellAt.{CellAt}
use Rattle.pinned_tiles.specs.Cell.{has_cell}
use Rattle.tile_source.specs.Pass.{CacheState}

-- the texel lies in a level that the file has under the cut
pub record IsTexelOf (kept : Kept) (cut : Cut) (at : TexelAt) : Type 0 where
  pub level : at.level < level_count_in kept cut.automip
  pub column : at.x < width_in kept at.level
  pub row : at.y < height_in kept at.level

-- The record is of one of the cache's files, and is used under its cut.
pub record IsUnder (cache : CacheState) (state : RecordState) : Type 0 where
  pub number : state.file < cache.files.board.files
  pub cut : state.cut ≡ cache.gate.cut

-- The record is of one of the cache's files, is used under its cut and valid, and no cell is too
-- large.
pub record IsKnownTo (cache : CacheState) (state : RecordState) : Type 0 where
  pub number : state.file < cache.files.board.files
  pub cut : state.cut ≡ cache.gate.cut
  pub fits : MayServe state

-- The record is valid under the cache's cut and, if the world is modelled, the world has the file.
pub record IsRecordOf (files : Files) (cache : CacheState) (state : RecordState) : Type 0 where
  pub number : state.file < cache.files.board.files
  pub file : IsFile files state.file
  pub cut : state.cut ≡ cache.gate.cut
  pub fits : MayServe state

-- The record is of one of the cache's files, and is used under its cut. It may have a fault.
pub record IsGivenBy (files : Files) (cache : CacheState) (state : RecordState) : Type 0 where
  pub number : state.file < cache.files.board.files
  pub file : IsFile files state.file
  pub cut : state.cut ≡ cache.gate.cut

-- The texel lies in a stored level and has n samples.
pub record IsStoredTexel (kept : Kept) (at : TexelAt) (n : ℕ) : Type 0 where
  pub stored : at.level < stored_count kept
  pub column : at.x < width_in kept at.level
  pub row : at.y < height_in kept at.level
  pub channels : n ≡ channels_in kept

-- the level of the texel is a stored one
abbrev pub IsStoredAt : RecordState → TexelAt → Type 0
IsStoredAt state at = IsOkAnd state.layout (λ kept. at.level < stored_count kept)

-- the texel lies in a level of the record
abbrev pub IsTexelIn : RecordState → TexelAt → Type 0
IsTexelIn state at = IsOkAnd state.layout (λ kept. IsTexelOf kept state.cut at)

-- ---- cells

-- the number of the cell that holds a texel
abbrev pub cell_number_at : Kept → Cut → TexelAt → ℕ
cell_number_at kept cut at = cell_index (cut_level_in kept cut at.level) at.x at.y

-- the cell that holds a texel, in one generation of a file
abbrev pub cell_of : ℕ → ℕ → Cut → Kept → TexelAt → CellAt
cell_of generation file cut kept at = record {
  key = key_of generation file at.level (cell_number_at kept cut at);
  rect = cell_rect (cut_level_in kept cut at.level) (cell_number_at kept cut at);
  channels = channels_in kept;
}

-- this is the cell of the record that holds the texel
abbrev pub IsCellIn : RecordState → TexelAt → CellAt → Type 0
IsCellIn state at cell =
    IsOkAnd state.layout (λ kept. cell ≡ cell_of state.generation state.file state.cut kept at)

-- The cell belongs to a file under a cut.
pub record IsCellUnder (kept : Kept) (cut : Cut) (cell : CellAt) : Type 0 where
  pub level : level_of cell.key < level_count_in kept cut.automip
  pub index : index_of cell.key < cell_count (cut_level_in kept cut (level_of cell.key))
  pub rect : cell.rect ≡ cell_rect (cut_level_in kept cut (level_of cell.key)) (index_of cell.key)
  pub channels : cell.channels ≡ channels_in kept

-- The cell belongs to the record.
pub record IsCellOf (state : RecordState) (cell : CellAt) : Type 0 where
  pub generation : generation_of cell.key ≡ state.generation
  pub file : file_of cell.key ≡ state.file
  pub under : IsOkAnd state.layout (λ kept. IsCellUnder kept state.cut cell)

-- The cell is the one of the record that holds the texel.
pub record IsCellAt (state : RecordState) (at : TexelAt) (cell : CellAt) : Type 0 where
  pub is : IsCellIn state at cell
  pub of : IsCellOf state cell
  pub level : level_of cell.key ≡ at.level
  pub holds : HoldsTexel cell.rect at.x at.y

-- whether the microcache has the cell of a texel, given the layout of its record
abbrev pub has_cell_by : ℕ → ℕ → Cut → TexelAt → List CachedTile → Result Kept TiffFault → Bool
has_cell_by generation file cut at tiles (Ok kept) =
    has_cell (cell_of generation file cut kept at) tiles
has_cell_by generation file cut at tiles (Err fault) = false

abbrev pub has_cell_at : RecordState → TexelAt → List CachedTile → Bool
has_cell_at state at tiles =
    has_cell_by state.generation state.file state.cut at tiles state.layout
