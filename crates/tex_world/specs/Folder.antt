-- What do a folder's calls answer, when may they fail, and which counts do they raise?
use Rattle.std.specs.Prelude.{◌≡◌, ◌↔◌, ℕ, ◌+◌, ◌<◌, ◌≤◌, min, Bool, false, IsTrue, List}
use Rattle.std.specs.Prelude.{Option, Some, None, IsSome, Result, Ok, Err, ⊤}
use Rattle.std.specs.Option.{ForSome}
use Rattle.tex_world.specs.Counts.{last_count, Rises, RisesByOne}
use Rattle.tex_world.specs.World.{Files, HasNoFile, max_files}
use Rattle.tex_world.specs.Tap.{TapState}
use Rattle.tex_world.specs.declared.fault.EnterError.{EnterError}
use Rattle.tex_world.specs.declared.fault.EnterError.TheVariants.{Failed, TooMany, NoMemory}

-- The counts of a folder, none of which falls, and what is known of its files.
pub record FolderState : Type 0 where
  -- failed calls, including those of taps given back
  pub faults : ℕ
  -- how often taps given back met a newer generation
  pub moves : ℕ
  -- taps made
  pub made : ℕ
  -- taps given back
  pub returned : ℕ
  -- whether the last `enter` found more files than `max_files`
  pub over : Bool
  -- the path that was entered, if one was
  pub entered : Option (List ℕ)
  -- the number of files; 0 before the folder is entered
  pub size : ℕ
  -- the number of the file with a name, if there is one
  pub number_of : List ℕ → Option ℕ

-- The folder is not entered, and its counts are 0.
pub record IsNewFolder (folder : FolderState) : Type 0 where
  pub faults : folder.faults ≡ 0
  pub moves : folder.moves ≡ 0
  pub made : folder.made ≡ 0
  pub returned : folder.returned ≡ 0
  pub over : folder.over ≡ false
  pub entered : folder.entered ≡ None
  pub size : folder.size ≡ 0

-- The laws of a folder. It has at most `max_files` files, and none before it is entered. Once
-- entered, it has all files of a modelled world. A name's number belongs to one of its files;
-- before it is entered no name has one. In a modelled world the number belongs to the file with
-- this name, and once the folder is entered a name without a number belongs to no file.
pub record IsFolder (files : Files) (folder : FolderState) : Type 0 where
  pub few : folder.size ≤ max_files
  pub before : folder.entered ≡ None → folder.size ≡ 0
  pub told : IsSome folder.entered → IsTrue files.tells → folder.size ≡ files.count
  pub numbered : (name : List ℕ) → ForSome (folder.number_of name) (λ n. n < folder.size)
  pub unnumbered : folder.entered ≡ None → (name : List ℕ) → folder.number_of name ≡ None
  pub named : IsTrue files.tells → (name : List ℕ)
      → ForSome (folder.number_of name) (λ n. files.name n ≡ name)
  pub unnamed : IsSome folder.entered → IsTrue files.tells → (name : List ℕ)
      → folder.number_of name ≡ None → HasNoFile files name

-- the files, their numbers, and whether there were too many are unchanged
pub record KeepsFiles (old new : FolderState) : Type 0 where
  pub over : new.over ≡ old.over
  pub entered : new.entered ≡ old.entered
  pub size : new.size ≡ old.size
  pub number_of : new.number_of ≡ old.number_of

-- ---- enter

-- why `enter` fails
abbrev pub EnterCause : Files → FolderState → FolderState → EnterError → Type 0
EnterCause files old new Failed = Rises old.faults new.faults
EnterCause files old new TooMany = IsTrue files.tells → ⊥
EnterCause files old new NoMemory = ⊤

-- After a successful `enter` the folder is entered; after a failed one it is not. `over` is set if
-- and only if the error is `TooMany`.
pub record AfterEnter (path : List ℕ) (old new : FolderState)
    (result : Result (Unit {0}) EnterError) : Type 0 where
  pub faults : old.faults ≤ new.faults
  pub moves : new.moves ≡ old.moves
  pub made : new.made ≡ old.made
  pub returned : new.returned ≡ old.returned
  pub entered : result ≡ Ok tt → new.entered ≡ Some path
  pub refused : (e : EnterError) → result ≡ Err e → new.entered ≡ None
  pub over : IsTrue new.over ↔ (result ≡ Err TooMany)

-- ---- tap and back

-- A successful `tap` raises the count of taps made by one, and nothing else.
pub record AfterTap {T E : Type 0} (old new : FolderState) (result : Result T E) : Type 0 where
  pub faults : old.faults ≤ new.faults
  pub moves : new.moves ≡ old.moves
  pub made : (t : T) → result ≡ Ok t → RisesByOne old.made new.made
  pub not_made : (e : E) → result ≡ Err e → new.made ≡ old.made
  pub returned : new.returned ≡ old.returned
  pub files : KeepsFiles old new

-- After `back` the folder's I/O errors are at least those of folder and tap together, and its moves
-- are exactly their sum.
pub record AfterBack (tap : TapState) (old new : FolderState) : Type 0 where
  pub faults_later : old.faults ≤ new.faults
  pub faults : min (old.faults + tap.faults) last_count ≤ new.faults
  pub moves_later : old.moves ≤ new.moves
  pub moves : new.moves ≡ min (old.moves + tap.moves) last_count
  pub made : new.made ≡ old.made
  pub returned : RisesByOne old.returned new.returned
  pub files : KeepsFiles old new
