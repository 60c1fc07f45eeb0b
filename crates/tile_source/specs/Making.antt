-- How is a tile made that no shard has?
use Rattle.std.specs.Prelude.{◌≡◌, ℕ, ◌+◌, ◌<◌, ◌≤◌, Ok, IsOkAnd, IsTrue}
use Rattle.tex_world.specs.World.{Files}
use Rattle.tiff_format.specs.declared.cut.Cut.{Cut}
use Rattle.tile_layout.specs.Key.{level_of, index_of, generation_of, file_of}
use Rattle.tile_layout.specs.Kept.{stored_count}
use Rattle.tile_layout.specs.Level.{level_count_in}
use Rattle.tile_layout.specs.Cell.{cell_count, cell_rect, cut_level_in, channels_in}
use Rattle.tile_load.specs.Halving.{HalvingState, part_count, part_key}
use Rattle.file_table.specs.Record.{RecordState}
use Rattle.tile_store.specs.Tile.{CachedTile}
use Rattle.tile_store.specs.Told.{IsTold}
use Rattle.shard_gate.specs.Gate.{HasCellRect}
use Rattle.pinned_tiles.specs.declared.cell.CellAt.{CellAt}
use Rattle.pinned_tiles.specs.Cell.{is_tile_of}

-- the key belongs to a cell of the record
pub record IsKeyOf (state : RecordState) (key : ℕ) : Type 0 where
  pub generation : generation_of key ≡ state.generation
  pub file : file_of key ≡ state.file
  pub under : IsOkAnd state.layout (λ kept.
      (level_of key < level_count_in kept state.cut.automip)
      × (index_of key < cell_count (cut_level_in kept state.cut (level_of key))))

-- the key belongs to a cell of a generated level of the record
pub record IsGenerated (state : RecordState) (key : ℕ) : Type 0 where
  pub some : 1 ≤ level_of key
  pub beyond : IsOkAnd state.layout (λ kept. stored_count kept ≤ level_of key)

-- a cell of the record is being made from cells of the next larger level
pub record Halves (state : RecordState) (halving : HalvingState) : Type 0 where
  pub layout : state.layout ≡ Ok halving.layout
  pub cut : halving.cut ≡ state.cut

-- the cell is the next one to add
pub record IsNextPart (halving : HalvingState) (part : CellAt) : Type 0 where
  pub next : halving.done < part_count halving.layout halving.cut halving.key
  pub key : part.key ≡ part_key halving.layout halving.cut halving.key halving.done
  pub rect : part.rect
      ≡ cell_rect (cut_level_in halving.layout halving.cut (level_of part.key)) (index_of part.key)
  pub channels : part.channels ≡ channels_in halving.layout

-- one more source cell was added
pub record AddsPart (old new : HalvingState) : Type 0 where
  pub layout : new.layout ≡ old.layout
  pub cut : new.cut ≡ old.cut
  pub key : new.key ≡ old.key
  pub done : new.done ≡ old.done + 1

-- A tile was made for the cell and fits the cut. If the world is modelled, its samples are those of
-- the file.
pub record IsMadeFor (files : Files) (cut : Cut) (cell : CellAt) (tile : CachedTile)
    : Type 0 where
  pub keyed : tile.key ≡ cell.key
  pub of_cell : IsTrue (is_tile_of cell tile)
  pub rect : HasCellRect files cut tile
  pub told : IsTold files tile
