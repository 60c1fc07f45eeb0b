-- Which cell is to be loaded?
pub use Rattle.piece_samples.specs.LayoutOf.{IsLayoutOf}
use Rattle.std.specs.Prelude.{◌≡◌, ℕ, ◌<◌}
use Rattle.tex_world.specs.Tap.{Named}
use Rattle.file_table.specs.Record.{RecordState}
use Rattle.tiff_format.specs.declared.cut.Cut.{Cut}
use Rattle.tile_layout.specs.Key.{generation_of, file_of, level_of, index_of}
use Rattle.tile_layout.specs.Kept.{Kept, stored_count}
use Rattle.tile_layout.specs.Cell.{cell_count, cut_level_in}

-- the record is of the file and the generation that the handle reads
pub record IsReadBy (handle : Named) (state : RecordState) : Type 0 where
  pub file : state.file ≡ handle.file
  pub generation : state.generation ≡ handle.generation

-- the key names a cell of a stored level, in the file and the generation that the handle reads
pub record NamesCell (handle : Named) (layout : Kept) (cut : Cut) (key : ℕ) : Type 0 where
  pub file : file_of key ≡ handle.file
  pub generation : generation_of key ≡ handle.generation
  pub stored : level_of key < stored_count layout
  pub index : index_of key < cell_count (cut_level_in layout cut (level_of key))
