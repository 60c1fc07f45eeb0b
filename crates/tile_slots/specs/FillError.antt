-- Why can a part not be read, and what does reading it leave of the tap?
use Rattle.std.specs.Prelude.{◌≡◌, ◌<◌, Result, Ok, Err, IfErr}
use Rattle.tex_world.specs.Counts.{Rises}
use Rattle.tex_world.specs.World.{Files, IsReal}
use Rattle.tex_world.specs.Tap.{Named, TapState}
use Rattle.tex_world.specs.declared.fault.ReadError.{ReadError}
use Rattle.tex_world.specs.declared.fault.ReadError.TheVariants as read
use Rattle.tap_reader.specs.TapReader.{Lent, OnlyReads}
use Rattle.tile_slots.specs.declared.fill_error.FillError.{FillError}
use Rattle.tile_slots.specs.declared.fill_error.FillError.TheVariants.{ReadFault, Gone}

-- the error of the read
abbrev pub fill_error_of : ReadError → FillError
fill_error_of read.Failed = ReadFault
fill_error_of (read.Gone to) = Gone to

-- Why a part cannot be read: an I/O error, or a read answered that the generation is gone and named
-- a newer one, which exists.
abbrev pub FillCause : Files → Named → TapState → TapState → FillError → Type 0
FillCause files handle old new ReadFault = Rises old.faults new.faults
FillCause files handle old new (Gone to) =
    IsReal files handle.file to × (handle.generation < to) × Rises old.moves new.moves

-- the count of moves rises only if the generation is gone
abbrev pub MovesAfter : {T : Type 0} → TapState → TapState → Result T FillError → Type 0
MovesAfter old new (Ok x) = new.moves ≡ old.moves
MovesAfter old new (Err ReadFault) = new.moves ≡ old.moves
MovesAfter old new (Err (Gone to)) = Rises old.moves new.moves

-- The tap was only called to read, an error has its cause, and the moves rise only with it.
pub record LeavesTap {T : Type 0} (files : Files) (old new : Lent) (result : Result T FillError)
    : Type 0 where
  pub reads : OnlyReads old new
  pub cause : IfErr result (FillCause files old.handle old.tap new.tap)
  pub moves : MovesAfter old.tap new.tap result
