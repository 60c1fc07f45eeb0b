-- What has the program done when it ends with a status?
use Rattle.std.specs.Prelude.{◌≡◌, ◌⊎◌, ◌↔◌, ℕ, ◌<◌, ◌≤◌, IsTrue, List, map}
use Rattle.std.specs.Prelude.{Option, Some, None, Result, Ok, Err, ⊤, String}
use Rattle.std.specs.Option.{ForSome, IsSomeAnd}
use Rattle.std.specs.String.{string_bytes}
use Rattle.std.specs.Global.{Global}
use Rattle.tex_world.specs.Counts.{last_count, Rises, RisesByOne}
use Rattle.tex_world.specs.World.{Files}
use Rattle.tex_world.specs.Folder.{FolderState}
use Rattle.tex_world.specs.Stream.{Appends, AppendsPart}
use Rattle.tex_make.specs.declared.ending.MakeError.{MakeError}
use Rattle.tex_make.specs.declared.ending.MakeError.TheVariants.{Failed, NoMemory, NoSuchFile}
use Rattle.tex_make.specs.declared.ending.MakeError.TheVariants.{BadFile, TooLarge, Gone, TooMany}
use Rattle.tex_make.specs.declared.picture.Pyramid.{Pyramid}
use Rattle.tex_make.specs.MakeError.{status_of}
use Rattle.tex_make.specs.FileRead.{IsReadOf}
use Rattle.tex_make.specs.Words.{Wanted, wanted_in}
use Rattle.tex_make.specs.Texture.{made_of}
use Rattle.tex_make.specs.Picture.{picture_of}
use Rattle.tex_make.specs.Good.{IsTextureOf}
use Rattle.tex_make.specs.Sink.{SinkState}
use Rattle.tex_make.specs.Reading.{IsSource, IsLargeSource, IsBadSource, IsPictureOf}
use Rattle.tex_make.specs.Status as status

-- the surroundings of a call: the folder and the sink
pub record Around : Type 0 where
  pub folder : FolderState
  pub sink : SinkState

abbrev pub around_of : FolderState → SinkState → Around
around_of folder sink = record { folder = folder; sink = sink }

-- what the arguments ask for, if they have the right form
abbrev pub asked_by : List (String Global) → Option Wanted
asked_by words = wanted_in (map string_bytes words)

-- ---- the file

-- the folder that is asked for was entered
abbrev pub IsEntered : Wanted → FolderState → Type 0
IsEntered asked folder = folder.entered ≡ Some asked.path

-- an existing generation of the requested file was read, and in a modelled world the fact holds of
-- its bytes
pub record Reads (files : Files) (asked : Wanted) (folder : FolderState) (fact : List ℕ → Type 0)
    : Type 0
  where
    pub entered : IsEntered asked folder
    pub file : ℕ
    pub named : folder.number_of asked.name ≡ Some file
    pub read : IsReadOf files file fact

-- the folder has no file with this name
pub record LacksFile (asked : Wanted) (folder : FolderState) : Type 0 where
  pub entered : IsEntered asked folder
  pub none : folder.number_of asked.name ≡ None

-- there are too many files
pub record HasTooMany (files : Files) (folder : FolderState) : Type 0 where
  pub mark : IsTrue folder.over
  pub untold : IsTrue files.tells → ⊥

-- why nothing was written
abbrev pub HasCause : Files → Wanted → FolderState → FolderState → MakeError → Type 0
HasCause files asked old new Failed = Rises old.faults new.faults
HasCause files asked old new NoMemory = ⊤
HasCause files asked old new NoSuchFile = LacksFile asked new
HasCause files asked old new BadFile = Reads files asked new IsBadSource
HasCause files asked old new TooLarge = Reads files asked new IsLargeSource
HasCause files asked old new Gone = Rises old.moves new.moves
HasCause files asked old new TooMany = HasTooMany files new

-- the image is that of the requested file, or the ending has its cause
abbrev pub ReadsPicture : Files → Wanted → FolderState → FolderState → Result Pyramid MakeError
    → Type 0
ReadsPicture files asked old new (Ok pyramid) =
    Reads files asked new (λ bytes. IsPictureOf bytes pyramid)
ReadsPicture files asked old new (Err ending) = HasCause files asked old new ending

-- the image is that of the file with a number, or the ending has its cause
abbrev pub ReadsOf : Files → ℕ → FolderState → FolderState → Result Pyramid MakeError → Type 0
ReadsOf files file old new (Ok pyramid) = IsReadOf files file (λ bytes. IsPictureOf bytes pyramid)
ReadsOf files file old new (Err Failed) = Rises old.faults new.faults
ReadsOf files file old new (Err NoMemory) = ⊤
ReadsOf files file old new (Err BadFile) = IsReadOf files file IsBadSource
ReadsOf files file old new (Err TooLarge) = IsReadOf files file IsLargeSource
ReadsOf files file old new (Err Gone) = Rises old.moves new.moves
ReadsOf files file old new (Err NoSuchFile) = ⊥
ReadsOf files file old new (Err TooMany) = ⊥

-- No tap was made, or one was made and given back.
abbrev pub GivesTapBack : FolderState → FolderState → Type 0
GivesTapBack old new =
    ((new.made ≡ old.made) × (new.returned ≡ old.returned))
    ⊎ (RisesByOne old.made new.made × RisesByOne old.returned new.returned)

-- what every call leaves of the folder, also one that fails
pub record LeavesFolder (old new : FolderState) : Type 0 where
  pub faults : old.faults ≤ new.faults
  pub moves : old.moves ≤ new.moves
  pub taps : GivesTapBack old new

-- ---- how the call ends

-- The whole texture was written: a valid file that stores each level of the image down to one
-- texel.
abbrev pub WritesTexture : Wanted → Around → Around → List ℕ → Type 0
WritesTexture asked old new bytes =
    IsSource bytes × IsTextureOf (picture_of bytes) (made_of bytes asked.side)
    × Appends (made_of bytes asked.side) old.sink.holds new.sink.holds

-- A first part of the texture was written.
abbrev pub WritesPart : Wanted → Around → Around → List ℕ → Type 0
WritesPart asked old new bytes =
    IsSource bytes × AppendsPart (made_of bytes asked.side) old.sink.holds new.sink.holds

-- The output failed after a first part of the texture.
pub record BreaksOff (files : Files) (asked : Wanted) (old new : Around) : Type 0 where
  pub failed : Rises old.sink.faults new.sink.faults
  pub part : Reads files asked new.folder (WritesPart asked old new)

-- An ending has its cause, and nothing was written.
pub record Stops (files : Files) (asked : Wanted) (old new : Around) (ends : ℕ) : Type 0 where
  pub ending : MakeError
  pub of_status : status_of ending ≡ ends
  pub cause : HasCause files asked old.folder new.folder ending
  pub sink : new.sink ≡ old.sink

-- What the call has done if the arguments ask for something. The status says that the file does not
-- exist if and only if that is so, and likewise for too many files. A newer generation was met only
-- if the status says that the file was changed: nothing is read again after that.
pub record Makes (files : Files) (asked : Wanted) (old new : Around) (ends : ℕ) : Type 0 where
  pub ends_as : ((ends ≡ status.made) × Reads files asked new.folder (WritesTexture asked old new))
      ⊎ (((ends ≡ status.not_written) × BreaksOff files asked old new)
      ⊎ Stops files asked old new ends)
  pub absent : LacksFile asked new.folder ↔ (ends ≡ status.no_such_file)
  pub mark : IsTrue new.folder.over ↔ (ends ≡ status.too_many)
  pub moves : (ends ≡ status.gone → ⊥) → new.folder.moves ≡ old.folder.moves
  pub folder : LeavesFolder old.folder new.folder
  pub sink : old.sink.faults ≤ new.sink.faults

-- if the arguments ask for nothing, nothing was done
pub record Refuses (old new : Around) (ends : ℕ) : Type 0 where
  pub status_is : ends ≡ status.bad_words
  pub same : new ≡ old

-- What the call has done, by what the arguments ask for. The status is that of bad arguments if and
-- only if they do not have the right form.
abbrev pub EndsAs : Files → Option Wanted → Around → Around → ℕ → Type 0
EndsAs files None old new ends = Refuses old new ends
EndsAs files (Some asked) old new ends = Makes files asked old new ends

-- ---- when the texture is made

-- the world is modelled and has a file with this name, and each generation of it is an image from
-- which a texture can be made
pub record HasSource (files : Files) (asked : Wanted) : Type 0 where
  pub tells : IsTrue files.tells
  pub file : ℕ
  pub there : file < files.count
  pub named : files.name file ≡ asked.name
  pub each : (g : ℕ) → ForSome (files.held file g) IsSource

-- the count has not risen, and is not at its greatest value
pub record StaysAt (old new : ℕ) : Type 0 where
  pub same : new ≡ old
  pub short : old < last_count

-- neither the folder nor the sink has failed, and no newer generation was met
pub record IsCalm (old new : Around) : Type 0 where
  pub faults : StaysAt old.folder.faults new.folder.faults
  pub moves : StaysAt old.folder.moves new.folder.moves
  pub sink : StaysAt old.sink.faults new.sink.faults

-- then the texture was made, or memory ran out
abbrev pub Completes : Files → Option Wanted → Around → Around → ℕ → Type 0
Completes files asked old new ends =
    IsSomeAnd asked (HasSource files) → IsCalm old new
    → (ends ≡ status.made) ⊎ (ends ≡ status.no_memory)
