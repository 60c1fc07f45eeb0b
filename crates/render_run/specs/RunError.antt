-- Why does the top call end before it answers a list, with which status and text?
-- (docs/REQUESTS.md, "Statuses")
use Rattle.std.specs.Prelude.{◌≡◌, ◌⊎◌, ℕ, IsTrue, codes, List, [], ◌∷◌, ◌++◌, map, Option, None}
use Rattle.std.specs.Prelude.{IsSome, IsSomeAnd, Ok, Err, String, ⊤}
use Rattle.std.specs.Option.{option_map}
use Rattle.std.specs.String.{string_bytes}
use Rattle.std.specs.Global.{Global}
use Rattle.tex_world.specs.Counts.{Rises}
use Rattle.tex_world.specs.World.{Files}
use Rattle.tex_world.specs.Folder.{FolderState}
use Rattle.command_line.specs.declared.invocation.WordsError.{WordsError}
use Rattle.command_line.specs.declared.invocation.WordsError.TheVariants.{Bad}
use Rattle.command_line.specs.declared.invocation.WordsError.TheVariants as words
use Rattle.command_line.specs.Invocation.{Asked, invocation_of}
use Rattle.command_line.specs.declared.options.RunOptions.{RunOptions}
use Rattle.request_lang.specs.declared.request.Request.{Request}
use Rattle.render_run.specs.declared.prepare.RunError.{RunError}
use Rattle.render_run.specs.declared.prepare.RunError.TheVariants.{BadWords, FolderFault}
use Rattle.render_run.specs.declared.prepare.RunError.TheVariants.{TooManyFiles, ListFault, NotAList}
use Rattle.render_run.specs.declared.prepare.RunError.TheVariants.{NoMemory}
use Rattle.render_run.specs.Status as status
use Rattle.render_run.specs.Around.{FeedState, Inputs}
use Rattle.request_lang.specs.Grammar.{line_feed}
use Rattle.request_lang.specs.Line.{bad_list_line}
use Rattle.render_run.specs.ListRead.{FeedSays}

-- what the arguments ask for, if they are valid
abbrev pub asked_by : List (String Global) → Option Asked
asked_by words = invocation_of (map string_bytes words)

-- the path of the folder
abbrev pub path_in : Option Asked → Option (List ℕ)
path_in asked = option_map (λ a. a.0) asked

-- these are the requested options
abbrev pub HasOptions : Option Asked → RunOptions → Type 0
HasOptions asked options = IsSomeAnd asked (λ a. a.1 ≡ options)

-- why the arguments name no folder
abbrev pub WordsCause : Option (List ℕ) → WordsError → Type 0
WordsCause path Bad = path ≡ None
WordsCause path words.NoMemory = ⊤

-- ---- before an ending, or before a list is answered

-- the folder at the path was entered
pub record IsEntered (path : Option (List ℕ)) (folder : FolderState) : Type 0 where
  pub has_path : IsSome path
  pub of_path : folder.entered ≡ path

-- there is a path, but its folder was not entered
pub record IsNotEntered (path : Option (List ℕ)) (folder : FolderState) : Type 0 where
  pub has_path : IsSome path
  pub none : folder.entered ≡ None

-- the last `enter` did not find too many files
abbrev pub HasNoMark : FolderState → Type 0
HasNoMark folder = IsTrue folder.over → ⊥

-- The folder at the path was entered, and the feed had a list of these requests.
pub record IsPrepared (path : Option (List ℕ)) (old new : Inputs) (requests : List Request)
    : Type 0 where
  pub folder : IsEntered path new.folder
  pub mark : HasNoMark new.folder
  pub listed : FeedSays (Ok requests) old.feed new.feed

-- ---- endings

-- What an ending says about the arguments and the folder. If the arguments are invalid, the folder
-- is unchanged.
abbrev pub EnterEnds : Files → Option (List ℕ) → FolderState → FolderState → RunError → Type 0
EnterEnds files path old new BadWords = (path ≡ None) × (new ≡ old)
EnterEnds files path old new FolderFault = IsNotEntered path new × Rises old.faults new.faults
EnterEnds files path old new TooManyFiles =
    IsNotEntered path new × IsTrue new.over × (IsTrue files.tells → ⊥)
EnterEnds files path old new NoMemory = ⊤
EnterEnds files path old new ListFault = ⊥
EnterEnds files path old new (NotAList bad) = ⊥

-- What an ending says about the feed.
abbrev pub ListEnds : FeedState → FeedState → RunError → Type 0
ListEnds old new ListFault = Rises old.faults new.faults
ListEnds old new (NotAList bad) = FeedSays (Err bad) old new
ListEnds old new NoMemory = ⊤
ListEnds old new BadWords = ⊥
ListEnds old new FolderFault = ⊥
ListEnds old new TooManyFiles = ⊥

-- What an ending says: about the arguments and the folder, before the feed is read; or about the
-- feed, after the folder was entered.
abbrev pub Ends : Files → Option (List ℕ) → Inputs → Inputs → RunError → Type 0
Ends files path old new ending =
    (EnterEnds files path old.folder new.folder ending × (new.feed ≡ old.feed))
    ⊎ (IsEntered path new.folder × ListEnds old.feed new.feed ending)

-- Whether the folder found too many files: if and only if that is the ending. If the arguments are
-- invalid the folder was not entered, and the mark is unchanged. If memory ran out, the mark was
-- not newly set.
abbrev pub MarksAs : FolderState → FolderState → RunError → Type 0
MarksAs old new TooManyFiles = IsTrue new.over
MarksAs old new BadWords = new.over ≡ old.over
MarksAs old new NoMemory = IsTrue new.over → IsTrue old.over
MarksAs old new FolderFault = HasNoMark new
MarksAs old new ListFault = HasNoMark new
MarksAs old new (NotAList bad) = HasNoMark new

-- The ending has its cause, no tap was made, and the mark for too many files is right.
pub record IsEnded (files : Files) (path : Option (List ℕ)) (old new : Inputs) (ending : RunError)
    : Type 0 where
  pub cause : Ends files path old new ending
  pub mark : MarksAs old.folder new.folder ending
  pub taps : new.folder.made ≡ old.folder.made

-- the status of an ending
abbrev pub status_of : RunError → ℕ
status_of BadWords = status.bad_words
status_of FolderFault = status.input_fault
status_of TooManyFiles = status.input_fault
status_of ListFault = status.input_fault
status_of (NotAList bad) = status.bad_list
status_of NoMemory = status.no_memory

-- the text of an ending, with its line feed
unfoldable pub ending_text : RunError → List ℕ
ending_text BadWords = codes "bad words" ++ line_feed ∷ []
ending_text FolderFault = codes "folder fault" ++ line_feed ∷ []
ending_text TooManyFiles = codes "too many files" ++ line_feed ∷ []
ending_text ListFault = codes "list fault" ++ line_feed ∷ []
ending_text (NotAList bad) = bad_list_line bad
ending_text NoMemory = []
