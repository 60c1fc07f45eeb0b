-- When can the texels of a record be read?
use Rattle.std.specs.Prelude.{◌≡◌, ℕ, Err, IsOkAnd}
use Rattle.tiff_format.specs.declared.fault.TiffFault.{TiffFault}
use Rattle.tile_layout.specs.Cell.{CellsFit}
use Rattle.file_table.specs.Record.{RecordState}
use Rattle.file_table.specs.declared.picture.Unreadable.{Unreadable}
use Rattle.file_table.specs.declared.picture.Unreadable.TheVariants as cannot

-- The file is valid, and no cell of it is too large.
abbrev pub MayServe : RecordState → Type 0
MayServe state = IsOkAnd state.layout (λ kept. CellsFit kept state.cut)

-- the file has this fault
pub record ShowsFault (r : RecordState) (generation : ℕ) (fault : TiffFault) : Type 0 where
  pub of_generation : generation ≡ r.generation
  pub shows : r.layout ≡ Err fault

-- one of the file's cells would be too large
pub record CellTooLarge (r : RecordState) (generation : ℕ) : Type 0 where
  pub of_generation : generation ≡ r.generation
  pub too_large : IsOkAnd r.layout (λ kept. ¬ CellsFit kept r.cut)

-- why the texels of a record cannot be read
abbrev pub UnreadableCause : RecordState → Unreadable → Type 0
UnreadableCause r (cannot.BadFile generation fault) = ShowsFault r generation fault
UnreadableCause r (cannot.TileTooLarge generation) = CellTooLarge r generation
