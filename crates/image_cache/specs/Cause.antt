-- Why does a call of the cache fail?
use Rattle.std.specs.Prelude.{◌≡◌, ◌⊎◌, ℕ, ◌*◌, ◌<◌, ◌≤◌, length, slice_index, ⊤}
use Rattle.std.specs.Prelude.{IsOkAnd, IsSomeAnd}
use Rattle.tex_world.specs.Counts.{Rises}
use Rattle.tex_world.specs.World.{Files}
use Rattle.tex_world.specs.Tap.{TapState}
use Rattle.tiff_format.specs.declared.cut.Cut.{Cut}
use Rattle.tile_layout.specs.Level.{level_count_in}
use Rattle.tile_layout.specs.Cell.{CellsFit}
use Rattle.file_table.specs.Record.{RecordState}
use Rattle.file_table.specs.Picture.{ShowsFault, CellTooLarge}
use Rattle.file_table.specs.Calls.{Sighted, sighted, MeetsNewer, OpensOnce, GivesRecord}
use Rattle.tile_source.specs.declared.error.CacheError.{CacheError}
use Rattle.tile_source.specs.declared.error.CacheError.TheVariants as refused
use Rattle.image_cache.specs.declared.error.SplitError.{SplitError}
use Rattle.image_cache.specs.declared.error.SplitError.TheVariants as undivided
use Rattle.image_cache.specs.declared.error.NotReleased.{NotReleased}
use Rattle.image_cache.specs.declared.error.NotReleased.TheVariants as unreleased
use Rattle.texel_values.specs.declared.texel_at.TexelAt.{TexelAt}
use Rattle.texel_values.specs.Region.{max_texels}
use Rattle.tile_source.specs.Pass.{PassState}
use Rattle.image_cache.specs.Call.{KeepsRecent}
use Rattle.tile_source.specs.Texel.{IsTexelOf}
use Rattle.tile_source.specs.Cause.{RefusedFor, Never, MetNewer}

-- ---- opening a file

-- A file was opened in generation `from`, at least what the pass had seen. A read of it met the
-- newer `to`, which the pass has now seen.
pub record MetAtOpening (files : Files) (file from to : ℕ) (old new : Sighted) : Type 0 where
  pub newer : MeetsNewer files file (slice_index old.view.seen file) from to old.tap new.tap
  pub read : Rises old.tap.lost new.tap.lost
  pub seen : to ≤ slice_index new.view.seen file

-- Why a file cannot be opened. If a newer generation was met, a read met it. If memory ran out, the
-- file had been opened. If the waiter gave up, the tap was not called.
abbrev pub OpeningCause : {B : Type 0} → Files → ℕ → Sighted → Sighted → CacheError B → Type 0
OpeningCause files file old new e =
    RefusedFor (λ from to. MetAtOpening files file from to old new)
    old.tap new.tap (OpensOnce old.tap new.tap) (new.tap ≡ old.tap) Never e

-- ---- a call on a file

-- The surroundings of a call on a file: the world and the cut, and the pass and the tap before and
-- after it.
pub record Around : Type 0 where
  pub files : Files
  pub file : ℕ
  pub cut : Cut
  pub old : PassState
  pub new : PassState
  pub tap_old : TapState
  pub tap_new : TapState

abbrev pub around : Files → ℕ → Cut → PassState → PassState → TapState → TapState → Around
around files file cut old new tap_old tap_new = record {
  files = files;
  file = file;
  cut = cut;
  old = old;
  new = new;
  tap_old = tap_old;
  tap_new = tap_new;
}

-- `P` holds of a record that this call found, and that the pass keeps.
abbrev pub RestsOnGiven : Around → (RecordState → Type 0) → Type 0
RestsOnGiven a P = IsSomeAnd a.new.latest (λ r.
    GivesRecord a.files a.file a.cut a.old.view a.new.view r × P r)

-- where the newer generation was met: when the file was opened, or in a step on the record that
-- this call found, whose generation is the older one
abbrev pub IsMetAt : Around → ℕ → ℕ → Type 0
IsMetAt a from to =
    MetAtOpening a.files a.file from to (sighted a.old.view a.tap_old) (sighted a.new.view a.tap_new)
    ⊎ RestsOnGiven a (λ r.
    MetNewer a.files a.file r.generation from to a.new.view a.tap_old a.tap_new)

-- A newer generation was met than one at least as new as the pass had seen before, and the pass has
-- now seen it.
abbrev pub MetAgain : Around → ℕ → ℕ → Type 0
MetAgain a from to =
    MeetsNewer a.files a.file (slice_index a.old.view.seen a.file) from to a.tap_old a.tap_new
    × (to ≤ slice_index a.new.view.seen a.file) × IsMetAt a from to

-- Why a call on a file fails. `First` says which errors come before the file is opened, and
-- `Refuses` which ones depend on its record.
abbrev pub HasCause : {B : Type 0} → Around → (CacheError B → Type 0)
    → (RecordState → CacheError B → Type 0) → CacheError B → Type 0
HasCause a First Refuses e = RefusedFor (MetAgain a) a.tap_old a.tap_new ⊤ ⊤
    (λ own. First own ⊎ RestsOnGiven a (λ r. Refuses r own)) e

-- ---- errors that depend on the record

-- the cells are small enough, but the file has only this many levels
pub record LacksLevel (level : ℕ) (r : RecordState) (generation levels : ℕ) : Type 0 where
  pub of_generation : generation ≡ r.generation
  pub fits : IsOkAnd r.layout (λ kept. CellsFit kept r.cut
      × (levels ≡ level_count_in kept r.cut.automip))
  pub lacks : levels ≤ level

-- the cells are small enough and the file has the level, but not the texel
pub record LacksTexel (at : TexelAt) (r : RecordState) (generation : ℕ) : Type 0 where
  pub of_generation : generation ≡ r.generation
  pub fits : IsOkAnd r.layout (λ kept. CellsFit kept r.cut
      × (at.level < level_count_in kept r.cut.automip) × (¬ IsTexelOf kept r.cut at))

-- `info` fails only for a file with a fault.
abbrev pub InfoRefuses : {B : Type 0} → RecordState → CacheError B → Type 0
InfoRefuses r (refused.BadFile generation fault) = ShowsFault r generation fault
InfoRefuses r _ = ⊥

-- A lookup fails for a file with a fault or with cells that are too large.
abbrev pub LookupRefuses : {B : Type 0} → RecordState → CacheError B → Type 0
LookupRefuses r (refused.BadFile generation fault) = ShowsFault r generation fault
LookupRefuses r (refused.TileTooLarge generation) = CellTooLarge r generation
LookupRefuses r _ = ⊥

-- Reading a region fails also for a level that the file does not have.
abbrev pub PixelsRefuses : {B : Type 0} → ℕ → RecordState → CacheError B → Type 0
PixelsRefuses level r (refused.NoLevel generation levels) = LacksLevel level r generation levels
PixelsRefuses level r e = LookupRefuses r e

-- Holding a tile fails also for a texel that the file does not have.
abbrev pub TileRefuses : {B : Type 0} → TexelAt → RecordState → CacheError B → Type 0
TileRefuses at r (refused.Outside generation) = LacksTexel at r generation
TileRefuses at r e = PixelsRefuses at.level r e

-- ---- errors that come before a file is opened

-- the region has too many texels
abbrev pub TooManyTexels : {B : Type 0} → ℕ → ℕ → CacheError B → Type 0
TooManyTexels w h refused.RegionTooLarge = max_texels < w * h
TooManyTexels w h _ = ⊥

-- the pass already holds four tiles
abbrev pub NoFurtherHold : {B : Type 0} → PassState → CacheError B → Type 0
NoFurtherHold old refused.HoldsFull = length old.pinned.holds ≡ 4
NoFurtherHold old _ = ⊥

-- ---- what an error leaves

-- An error that comes before any cell was needed leaves microcache and counts unchanged. Four
-- errors can also come later, and then they may have changed.
abbrev pub KeepsRecentAt : {B : Type 0} → PassState → PassState → CacheError B → Type 0
KeepsRecentAt old new (refused.Again from to) = ⊤
KeepsRecentAt old new refused.ReadFault = ⊤
KeepsRecentAt old new refused.NoMemory = ⊤
KeepsRecentAt old new (refused.Busy b) = ⊤
KeepsRecentAt old new _ = KeepsRecent old new

-- ---- other calls

-- why a hold is not released
abbrev pub ReleaseCause : {B : Type 0} → ℕ → PassState → NotReleased B → Type 0
ReleaseCause place old unreleased.NothingHeld = length old.pinned.holds ≤ place
ReleaseCause place old (unreleased.Busy b) = place < length old.pinned.holds

-- why a pass cannot be split
abbrev pub SplitCause : ℕ → SplitError → Type 0
SplitCause permits undivided.NoPermit = permits ≡ 1
SplitCause permits undivided.NoMemory = 1 < permits
