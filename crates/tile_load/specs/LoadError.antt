-- Why can a cell not be loaded, and what does loading leave of the tap?
use Rattle.std.specs.Prelude.{◌≡◌, ◌<◌, Result, Ok, Err, IfErr, ⊤}
use Rattle.tex_world.specs.Counts.{Rises}
use Rattle.tex_world.specs.World.{Files, IsReal}
use Rattle.tex_world.specs.Tap.{Named, TapState}
use Rattle.tex_world.specs.declared.fault.ReadError.{ReadError}
use Rattle.tex_world.specs.declared.fault.ReadError.TheVariants as read
use Rattle.tap_reader.specs.TapReader.{Lent, OnlyReads}
use Rattle.rect_read.specs.declared.rect_error.RectError.{RectError}
use Rattle.rect_read.specs.declared.rect_error.RectError.TheVariants as region
use Rattle.tile_load.specs.declared.load_error.LoadError.{LoadError}
use Rattle.tile_load.specs.declared.load_error.LoadError.TheVariants as load

-- the error of the read, or out of memory
abbrev pub load_error_of : RectError ReadError → LoadError
load_error_of (region.Reader read.Failed) = load.ReadFault
load_error_of (region.Reader (read.Gone to)) = load.Gone to
load_error_of region.NoMemory = load.NoMemory

-- Why a cell cannot be loaded: an I/O error, or a read answered that the generation is gone and
-- named a newer one, which exists.
abbrev pub LoadCause : Files → Named → TapState → TapState → LoadError → Type 0
LoadCause files handle old new load.ReadFault = Rises old.faults new.faults
LoadCause files handle old new (load.Gone to) =
    IsReal files handle.file to × (handle.generation < to) × Rises old.moves new.moves
LoadCause files handle old new load.NoMemory = ⊤

-- the count of moves rises only if the generation is gone
abbrev pub MovesAfter : {T : Type 0} → TapState → TapState → Result T LoadError → Type 0
MovesAfter old new (Ok x) = new.moves ≡ old.moves
MovesAfter old new (Err load.ReadFault) = new.moves ≡ old.moves
MovesAfter old new (Err (load.Gone to)) = Rises old.moves new.moves
MovesAfter old new (Err load.NoMemory) = new.moves ≡ old.moves

-- The tap was only called to read, an error has its cause, and the moves rise only with it.
pub record LeavesTap {T : Type 0} (files : Files) (old new : Lent) (result : Result T LoadError)
    : Type 0 where
  pub reads : OnlyReads old new
  pub cause : IfErr result (LoadCause files old.handle old.tap new.tap)
  pub moves : MovesAfter old.tap new.tap result
