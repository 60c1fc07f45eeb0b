-- What do reads through a tap leave of it and of its handle?
use Rattle.std.specs.Prelude.{◌≡◌, ◌≤◌}
use Rattle.tex_world.specs.World.{Files}
use Rattle.tex_world.specs.Tap.{Named, TapState, ReadCause, IsFault}
use Rattle.tex_world.specs.declared.fault.ReadError.{ReadError}

-- a handle, and the tap that it is read through
pub record Lent : Type 0 where
  pub handle : Named
  pub tap : TapState

-- a handle with these names, and a tap in this state
abbrev pub lent_of : Named → TapState → Lent
lent_of handle tap = record { handle = handle; tap = tap }

-- The handle names the same, and no file was opened or asked for its newest generation.
pub record OnlyReads (old new : Lent) : Type 0 where
  pub handle : new.handle ≡ old.handle
  pub faults : old.tap.faults ≤ new.tap.faults
  pub calls : old.tap.calls ≤ new.tap.calls
  pub opens : new.tap.opens ≡ old.tap.opens
  pub asks : new.tap.asks ≡ old.tap.asks
  pub lost : old.tap.lost ≤ new.tap.lost
  pub newest : new.tap.newest ≡ old.tap.newest

-- after reads that succeeded: no read failed, and no newer generation was met
pub record KeepsTap (old new : Lent) : Type 0 where
  pub reads : OnlyReads old new
  pub faultless : new.tap.faults ≡ old.tap.faults
  pub moves : new.tap.moves ≡ old.tap.moves

-- after a read that failed: the error has its cause, and the moves rise only with it
pub record RefusesTap (files : Files) (old new : Lent) (e : ReadError) : Type 0 where
  pub reads : OnlyReads old new
  pub cause : ReadCause files old.handle old.tap new.tap e
  pub moves : IsFault e → new.tap.moves ≡ old.tap.moves
  pub moves_later : old.tap.moves ≤ new.tap.moves
