-- What does reading a file through a tap say about it, and what does it leave of the tap?
use Rattle.std.specs.Prelude.{◌≡◌, ℕ, ◌≤◌, List, Result, Ok, Err, OnOk, ⊤}
use Rattle.std.specs.Option.{ForSome}
use Rattle.tex_world.specs.Counts.{Rises, RisesByOne}
use Rattle.tex_world.specs.World.{Files, IsReal}
use Rattle.tex_world.specs.Tap.{TapState}
use Rattle.tex_make.specs.declared.ending.MakeError.{MakeError}
use Rattle.tex_make.specs.declared.ending.MakeError.TheVariants.{Failed, NoMemory, NoSuchFile}
use Rattle.tex_make.specs.declared.ending.MakeError.TheVariants.{BadFile, TooLarge, Gone, TooMany}
use Rattle.tex_make.specs.declared.picture.Pyramid.{Pyramid}
use Rattle.tex_make.specs.Reading.{IsLargeSource, IsBadSource, IsPictureOf}

-- an existing generation of the file was read, and in a modelled world the fact holds of its bytes
pub record IsReadOf (files : Files) (file : ℕ) (fact : List ℕ → Type 0) : Type 0 where
  pub generation : ℕ
  pub real : IsReal files file generation
  pub told : ForSome (files.held file generation) fact

-- The image is that of the file, or the ending has its cause. If the file was changed, a read met the
-- newer generation, and no open did.
abbrev pub ReadsFile : Files → ℕ → TapState → TapState → Result Pyramid MakeError → Type 0
ReadsFile files file old new (Ok pyramid) = IsReadOf files file (λ bytes. IsPictureOf bytes pyramid)
ReadsFile files file old new (Err Failed) = Rises old.faults new.faults
ReadsFile files file old new (Err NoMemory) = ⊤
ReadsFile files file old new (Err BadFile) = IsReadOf files file IsBadSource
ReadsFile files file old new (Err TooLarge) = IsReadOf files file IsLargeSource
ReadsFile files file old new (Err Gone) = Rises old.moves new.moves × Rises old.lost new.lost
ReadsFile files file old new (Err NoSuchFile) = ⊥
ReadsFile files file old new (Err TooMany) = ⊥

-- A newer generation was met only if that is the ending. So nothing is read again after that.
abbrev pub MovesOnlyGone : ℕ → ℕ → Result Pyramid MakeError → Type 0
MovesOnlyGone old new result = (result ≡ Err Gone → ⊥) → new ≡ old

-- If the image was read, no call of the tap failed. So no call was tried again.
abbrev pub FaultsOnlyFailed : TapState → TapState → Result Pyramid MakeError → Type 0
FaultsOnlyFailed old new result = OnOk result (new.faults ≡ old.faults)

-- The file was opened once, and no count of the tap that a folder takes over has fallen.
pub record LeavesTap (old new : TapState) : Type 0 where
  pub opens : RisesByOne old.opens new.opens
  pub faults : old.faults ≤ new.faults
  pub moves : old.moves ≤ new.moves
