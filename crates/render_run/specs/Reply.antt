-- Which line may answer a request, given the files of a world and a cut?
use Rattle.std.specs.Prelude.{◌≡◌, ◌⊎◌, ℕ, ◌*◌, ◌<◌, ◌≤◌, ◌==◌, IsTrue, IsFalse, List, [], ◌∷◌}
use Rattle.std.specs.Prelude.{length, Bool, true, false}
use Rattle.std.specs.Prelude.{Option, Some, None, ⊤, if◌then◌else◌}
use Rattle.std.specs.Option.{ForSome}
use Rattle.std.specs.List.{All}
use Rattle.tiff_format.specs.declared.shard_count.ShardCount.{ShardCount}
use Rattle.tex_world.specs.World.{Files, IsReal}
use Rattle.tiff_format.specs.Fault.{first_fault}
use Rattle.tiff_format.specs.declared.cut.Cut.{Cut}
use Rattle.tile_layout.specs.Kept.{kept_of}
use Rattle.tile_layout.specs.Level.{level_count_in}
use Rattle.tiff_format.specs.declared.rect.Rect.{Rect}
use Rattle.tile_layout.specs.Cell.{CellsFit, channels_of, cut_level_of, cell_index, cell_rect}
use Rattle.texel_values.specs.declared.texel_at.TexelAt.{TexelAt}
use Rattle.texel_values.specs.declared.region.Region.{Region}
use Rattle.texel_values.specs.Region.{AreRegionValues}
use Rattle.image_cache.specs.Facts.{info_of}
use Rattle.tile_source.specs.Texel.{IsTexelOf}
use Rattle.texture_sys.specs.declared.lookup_request.LookupRequest.TheVariants.{Point, Footprint}
use Rattle.texture_sys.specs.Asked.{one_point, one_footprint}
use Rattle.texture_sys.specs.Call.{IsLookupOn}
use Rattle.request_lang.specs.declared.request.Request.{Request}
use Rattle.request_lang.specs.declared.answer.Answer.{Answer}
use Rattle.request_lang.specs.declared.answer.Answer.TheVariants.{Tex, Texd, Pixels, Info, Synced}
use Rattle.request_lang.specs.declared.answer.Answer.TheVariants.{NoSuchFile, BadFile, NoLevel}
use Rattle.request_lang.specs.declared.answer.Answer.TheVariants.{RegionTooLarge, TileTooLarge}
use Rattle.request_lang.specs.declared.answer.Answer.TheVariants.{Held, Dropped, Invalidated}
use Rattle.request_lang.specs.declared.answer.Answer.TheVariants.{Renewed, InvalidatedAll, Outside}
use Rattle.request_lang.specs.declared.answer.Answer.TheVariants.{HoldsFull, NothingHeld, ReadFault}
use Rattle.request_lang.specs.declared.answer.Answer.TheVariants.{Stat, NoMemory}
use Rattle.request_lang.specs.Basis.{Basis, OnBytes, OnNewest, OnNewer, OnNames, OnWords, OnHolds}
use Rattle.request_lang.specs.Basis.{OnShards, OnFault, OnMemory, basis_of}
use Rattle.render_run.specs.declared.question.Question.{Question}
use Rattle.render_run.specs.declared.question.Question.TheVariants.{Facts, Values, Lookup, Hold}
use Rattle.render_run.specs.declared.question.Question.TheVariants.{Renewal}
use Rattle.render_run.specs.declared.question.Task.{Task}
use Rattle.render_run.specs.declared.question.Task.TheVariants.{Ask, Tile, Unnamed}
use Rattle.render_run.specs.declared.question.Task.TheVariants.{Release, RenewAll, Count, Sync}
use Rattle.render_run.specs.Around.{Setup, Terms}
use Rattle.render_run.specs.Needed.{AreNeeded}
use Rattle.render_run.specs.Pins.{all_pins}
use Rattle.render_run.specs.Dealing.{Place}
use Rattle.render_run.specs.Question.{task_of, file_in, is_too_large, is_full}

-- ---- from the bytes of one generation

-- the bytes are a valid file, and its cells are small enough
pub record AreServed (cut : Cut) (bytes : List ℕ) : Type 0 where
  pub good : first_fault bytes ≡ None
  pub fits : CellsFit (kept_of bytes) cut

-- the bytes are a valid file, and one of its cells is too large
pub record HasLargeCell (cut : Cut) (bytes : List ℕ) : Type 0 where
  pub good : first_fault bytes ≡ None
  pub too_large : ¬ CellsFit (kept_of bytes) cut

-- the number of levels that the file has under the cut
abbrev pub levels_of : Cut → List ℕ → ℕ
levels_of cut bytes = level_count_in (kept_of bytes) cut.automip

-- these are the values of a region of a level of the file, with this number of channels
pub record IsRegionOn (cut : Cut) (bytes : List ℕ) (r : Region) (channels : ℕ) (values : List ℕ)
    : Type 0 where
  pub served : AreServed cut bytes
  pub level : r.level < levels_of cut bytes
  pub channels_are : channels ≡ channels_of bytes
  pub values_are : AreRegionValues bytes r values

-- the file has this number of levels, and the requested one is not among them
pub record LacksLevelOn (cut : Cut) (bytes : List ℕ) (level levels : ℕ) : Type 0 where
  pub served : AreServed cut bytes
  pub levels_are : levels ≡ levels_of cut bytes
  pub lacks : levels ≤ level

-- the file has the level, but not the texel
pub record LacksTexelOn (cut : Cut) (bytes : List ℕ) (at : TexelAt) : Type 0 where
  pub served : AreServed cut bytes
  pub level : at.level < levels_of cut bytes
  pub lacks : ¬ IsTexelOf (kept_of bytes) cut at

-- the cell that holds the texel has this rectangle
pub record IsCellOn (cut : Cut) (bytes : List ℕ) (at : TexelAt) (rect : Rect) : Type 0 where
  pub served : AreServed cut bytes
  pub inside : IsTexelOf (kept_of bytes) cut at
  pub rect_is : rect ≡ cell_rect (cut_level_of bytes cut at.level)
      (cell_index (cut_level_of bytes cut at.level) at.x at.y)

-- The answer to a question from the bytes of one generation; the first case that applies: their
-- first fault; the description of the file; a cell that is too large; the values of a lookup; a
-- level that the file does not have; the values of a region; a texel outside the level; the cell of
-- the texel.
abbrev pub IsReplyOn : Cut → List ℕ → Question → Answer → Type 0
IsReplyOn cut bytes q (BadFile generation fault) = first_fault bytes ≡ Some fault
IsReplyOn cut bytes Facts (Info info) =
    (first_fault bytes ≡ None) × (info ≡ info_of info.generation (kept_of bytes) cut)
IsReplyOn cut bytes (Lookup r) (TileTooLarge generation) = HasLargeCell cut bytes
IsReplyOn cut bytes (Lookup (Point r)) (Tex generation values) = IsLookupOn cut bytes (one_point r) values
IsReplyOn cut bytes (Lookup (Footprint r)) (Texd generation values) =
    IsLookupOn cut bytes (one_footprint r) values
IsReplyOn cut bytes (Values r) (TileTooLarge generation) = HasLargeCell cut bytes
IsReplyOn cut bytes (Values r) (NoLevel generation levels) =
    LacksLevelOn cut bytes r.level levels
IsReplyOn cut bytes (Values r) (Pixels generation channels values) =
    IsRegionOn cut bytes r channels values
IsReplyOn cut bytes (Hold at) (TileTooLarge generation) = HasLargeCell cut bytes
IsReplyOn cut bytes (Hold at) (NoLevel generation levels) =
    LacksLevelOn cut bytes at.level levels
IsReplyOn cut bytes (Hold at) (Outside generation) = LacksTexelOn cut bytes at
IsReplyOn cut bytes (Hold at) (Held generation rect) = IsCellOn cut bytes at rect
IsReplyOn cut bytes q _ = ⊥

-- ---- the form of a line about one generation, whether or not its bytes are modelled

-- The line has the form that its question allows: a fault; the description of a file; a cell that
-- is too large; as many values as channels were requested; a level that does not exist; or as many
-- values as the region has samples.
abbrev pub HasForm : Question → Answer → Type 0
HasForm q (BadFile generation fault) = ⊤
HasForm Facts (Info info) = ⊤
HasForm (Lookup r) (TileTooLarge generation) = ⊤
HasForm (Lookup (Point r)) (Tex generation values) = length values ≡ r.nch
HasForm (Lookup (Footprint r)) (Texd generation values) = length values ≡ r.nch
HasForm (Values r) (TileTooLarge generation) = ⊤
HasForm (Values r) (NoLevel generation levels) = levels ≤ r.level
HasForm (Values r) (Pixels generation channels values) = length values ≡ r.h * (r.w * channels)
HasForm (Hold at) (TileTooLarge generation) = ⊤
HasForm (Hold at) (NoLevel generation levels) = levels ≤ at.level
HasForm (Hold at) (Outside generation) = ⊤
HasForm (Hold at) (Held generation rect) = ⊤
HasForm q _ = ⊥

-- ---- from the files of a world

-- The line has the form of its question, names an existing generation of the file, and is the
-- answer from its bytes.
pub record IsReplyOf (files : Files) (cut : Cut) (file : ℕ) (q : Question) (generation : ℕ)
    (line : Answer) : Type 0 where
  pub form : HasForm q line
  pub real : IsReal files file generation
  pub reply : ForSome (files.held file generation) (λ bytes. IsReplyOn cut bytes q line)

-- Both generations of the file exist, and the second is newer.
pub record IsAgainOf (files : Files) (file from to : ℕ) : Type 0 where
  pub from_real : IsReal files file from
  pub to_real : IsReal files file to
  pub newer : from < to

-- The line's basis is right: the bytes of a generation, or a newer generation.
abbrev pub RestsOn : Files → Cut → ℕ → Question → Answer → Basis → Type 0
RestsOn files cut file q line (OnBytes generation) = IsReplyOf files cut file q generation line
RestsOn files cut file q line (OnNewer from to) = IsAgainOf files file from to
RestsOn files cut file q line OnFault = ⊤
RestsOn files cut file q line OnMemory = ⊤
RestsOn files cut file q line (OnNewest generation) = ⊥
RestsOn files cut file q line OnNames = ⊥
RestsOn files cut file q line OnWords = ⊥
RestsOn files cut file q line OnHolds = ⊥
RestsOn files cut file q line OnShards = ⊥

-- The line names the newest generation of the file, which exists, with the word for a check with
-- force, or without; or it reports an I/O error.
abbrev pub TellsNewest : Files → ℕ → Bool → Answer → Type 0
TellsNewest files file force (Invalidated generation) =
    (force ≡ false) × IsReal files file generation
TellsNewest files file force (Renewed generation) = (force ≡ true) × IsReal files file generation
TellsNewest files file force ReadFault = ⊤
TellsNewest files file force _ = ⊥

-- the line is right for this file
abbrev pub IsRightOn : Files → Cut → ℕ → Question → Answer → Type 0
IsRightOn files cut file (Renewal force) line = TellsNewest files file force line
IsRightOn files cut file q line = RestsOn files cut file q line (basis_of line)

-- The line answers a question about this file, by a worker with this many holds. It is `region too
-- large` if and only if too many texels are requested, and `holds full` if and only if four tiles
-- are held; both come before anything about the file.
pub record MeetsOn (files : Files) (cut : Cut) (held file : ℕ) (q : Question) (line : Answer)
    : Type 0 where
  pub too_large : IsTrue (is_too_large q) → line ≡ RegionTooLarge
  pub full : IsTrue (is_full held q) → line ≡ HoldsFull
  pub of_file : IsFalse (is_too_large q) → IsFalse (is_full held q)
      → IsRightOn files cut file q line

-- ---- a request and its line

-- the answer of a worker that releases its oldest hold
abbrev pub released : ℕ → Answer
released held = if held == 0 then NothingHeld else Dropped

-- The shards of a cache: each may keep `share` bytes of unpinned tiles, and keeps no more.
pub record AreShardsOf (terms : Terms) (shards : List ShardCount) : Type 0 where
  pub count : length shards ≡ terms.shards
  pub share : All (λ shard. shard.share ≡ terms.share) shards
  pub loose : All (λ shard. shard.loose ≤ shard.share) shards

-- The line lists the shards, with the pins of at least this many held tiles, or says that memory
-- ran out.
abbrev pub TellsShards : Terms → ℕ → Answer → Type 0
TellsShards terms held (Stat shards) = AreShardsOf terms shards × (held ≤ all_pins shards)
TellsShards terms held NoMemory = ⊤
TellsShards terms held _ = ⊥

-- The line is right for a worker's task, if it has this many holds. It is `no such file` if and
-- only if the folder has no file with the name, which comes before everything else. For a UDIM
-- tile, memory for its name may run out before it is looked up.
abbrev pub MeetsTask : Files → Terms → ℕ → Task → Answer → Type 0
MeetsTask files terms held Sync line = line ≡ Synced
MeetsTask files terms held Release line = line ≡ released held
MeetsTask files terms held RenewAll line = (line ≡ InvalidatedAll) ⊎ (line ≡ ReadFault)
MeetsTask files terms held Count line = TellsShards terms held line
MeetsTask files terms held (Ask None q) line = line ≡ NoSuchFile
MeetsTask files terms held (Ask (Some n) q) line = MeetsOn files terms.cut held n q line
MeetsTask files terms held (Tile None q) line = (line ≡ NoSuchFile) ⊎ (line ≡ NoMemory)
MeetsTask files terms held (Tile (Some n) q) line = MeetsOn files terms.cut held n q line
MeetsTask files terms held Unnamed line = line ≡ NoMemory

-- A line, its place, the file with its request's name, if any, how many tiles its worker held
-- before, and the keys of the cells that it needed.
pub record Line : Type 0 where
  pub place : Place
  pub file : Option ℕ
  pub held : ℕ
  pub needed : List ℕ
  pub answer : Answer

-- The line is right for the request, with the file that its name has in the folder.
pub record Meets (setup : Setup) (r : Request) (line : Line) : Type 0 where
  pub file : line.file ≡ file_in (task_of setup.number_of r)
  pub answer : MeetsTask setup.files setup.terms line.held (task_of setup.number_of r) line.answer
  pub needed : AreNeeded setup.files setup.terms.cut (task_of setup.number_of r) line.answer
      line.needed

-- each request has one line that is right for it, in order
abbrev pub MeetsAll : Setup → List Request → List Line → Type 0
MeetsAll setup [] [] = ⊤
MeetsAll setup [] (line ∷ lines) = ⊥
MeetsAll setup (r ∷ requests) [] = ⊥
MeetsAll setup (r ∷ requests) (line ∷ lines) =
    Meets setup r line × MeetsAll setup requests lines
