-- Why does a read fail, if its counts rise and the generation that it names is newer?
use Rattle.std.proofs.Common.{Result, Ok, Err}
use Rattle.std.specs.Prelude.{IfErr}
use Rattle.tex_world.specs.World.{Files}
use Rattle.tex_world.specs.Tap.{TapState, Named, NamesNewer, ReadCause}
use Rattle.tex_world.specs.TapCounters.{RisesFor}
use Rattle.tex_world.specs.declared.fault.ReadError.{ReadError}
use Rattle.tex_world.specs.declared.fault.ReadError.TheVariants.{Failed, Gone}

-- The cause of a failed read: its counts rise, and a generation that it names is real and newer.
pub read_cause : (files : Files) (handle : Named) (old new : TapState)
    (read : Result (Unit {0}) ReadError)
    → IfErr read (NamesNewer files handle) → IfErr read (RisesFor old new)
    → IfErr read (ReadCause files handle old new)
read_cause files handle old new (Ok x) newer rises = tt
read_cause files handle old new (Err Failed) newer rises = rises
read_cause files handle old new (Err (Gone to)) newer rises =
    (newer.0, newer.1, rises.0, rises.1)
