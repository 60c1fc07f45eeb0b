-- What does each C call answer, and what state does it leave?
use Rattle.std.specs.Prelude.{◌≡◌, ◌⊎◌, ℕ, ◌+◌, ◌*◌, ◌^◌, ◌<◌, ◌≤◌, Bool, List, length}
use Rattle.std.specs.Prelude.{take, drop, slice_index, slice_get}
use Rattle.std.specs.Prelude.{Option, IsOkAnd, IsSomeAnd, IfSome}
use Rattle.std.specs.Option.{ForSome}
use Rattle.std.specs.List.{remove}
use Rattle.tile_store.specs.Tile.{CachedTile, AreSamples}
use Rattle.tile_store.specs.Told.{AreToldSamples}
use Rattle.file_table.specs.Calls.{sighted}
use Rattle.texel_values.specs.Region.{AreRegionValues}
use Rattle.texel_values.specs.declared.texel_at.TexelAt.{TexelAt}
use Rattle.waiter.specs.declared.tries.GaveUp.{GaveUp}
use Rattle.gen_board.specs.View.{IsLater}
use Rattle.file_table.specs.Calls.{KeepsView}
use Rattle.tile_store.specs.Tag.{tag_of}
use Rattle.shard_gate.specs.Gate.{IsSameSeat}
use Rattle.shard_gate.specs.Given.{AtShard, Counts}
use Rattle.shard_gate.specs.Since.{PurgesNone}
use Rattle.tiff_format.specs.declared.shard_count.ShardCount.{ShardCount}
use Rattle.tile_source.specs.Pass.{KeepsAllBut, view_and_record, its_holds, its_visits}
use Rattle.image_cache.specs.Call.{AfterCall, IsOfLook, KeepsGiven, KeepsRecent, HoldsCell}
use Rattle.tile_source.specs.Cause.{Never}
use Rattle.image_cache.specs.Cause.{around, HasCause, InfoRefuses, PixelsRefuses}
use Rattle.image_cache.specs.Cause.{TooManyTexels, NoFurtherHold, TileRefuses}
use Rattle.image_cache.specs.Facts.{info_of}
use Rattle.image_cache.specs.Invalid.{invalid, IsEmptied, MakesInvalid, InvalidCause}
use Rattle.image_cache.specs.InvalidAll.{MakesAllInvalid, EndsAtFault}
use Rattle.tile_source.specs.Source.{pass_tap}
use Rattle.image_cache.specs.Region.{ReadsRegion}
use Rattle.texture_sys.specs.Call.{Answers, TextureCause, IsWarm, ServesLocally}
use Rattle.texture_sys.specs.declared.lookup.Lookups.{Lookups}
use Rattle.supplied_client.specs.declared.answer.TexAnswer.{TexAnswer}
use Rattle.supplied_client.specs.declared.holds.TexCounts.{TexCounts}
use Rattle.supplied_client.specs.declared.holds.TexShard.{TexShard}
use Rattle.supplied_client.specs.declared.holds.TexTile.{TexTile}
use Rattle.supplied_client.specs.declared.saying.TexInfo.{TexInfo}
use Rattle.supplied_client.specs.declared.saying.TexRegion.{TexRegion}
use Rattle.supplied_client.specs.Client.{ClientState, KeepsAllButPass, told_counts}
use Rattle.supplied_client.specs.Request.{region_of, told_info}
use Rattle.supplied_tap.specs.SuppliedTap.{tap_state}
use Rattle.supplied_tap.specs.SuppliedWorld.{supplied_files}
use Rattle.supplied_client.specs.Unanswered.{IsUnanswered, RefusesFile, RefusesLookup, RefusesRegion}

-- both handles have a client, and `P` holds between the two clients
abbrev pub Hands : Option ClientState → Option ClientState → (ClientState → ClientState → Type 0)
    → Type 0
Hands from to P = IsSomeAnd from (λ old. IsSomeAnd to (λ new. P old new))

-- the number of files of the cache
abbrev pub files_of : ClientState → ℕ
files_of c = c.cache.files.board.files

-- ---- lookups

-- What a lookup answers, and what state it leaves. `Good` says that the numbers of the request are
-- in range. The values are those of the lookup on the answered generation's bytes. The rest of the
-- buffer is unchanged; if the lookup fails, all of it. If the pass keeps a valid record of the file
-- and its microcache has every cell needed, the lookup succeeds or a newer generation was seen.
pub record SaysLookup (file : ℕ) (Good : Type 0) (r : Lookups) (channels code : ℕ)
    (answer : TexAnswer) (out_old out_new : List ℕ) (old new : ClientState) : Type 0 where
  pub cache : new.cache ≡ old.cache
  pub ok : code ≡ 0 → Answers supplied_files file old.cache.gate.cut r old.pass.view new.pass.view
      (take channels out_new) answer.generation
  pub beyond : drop channels out_new ≡ drop channels out_old
  pub err : ¬ (code ≡ 0) → out_new ≡ out_old
  pub holds : new.pass.pinned.holds ≡ old.pass.pinned.holds
  pub cause : ¬ (code ≡ 0) → IsUnanswered
      (RefusesLookup (files_of old) file Good channels (length out_old))
      (TextureCause supplied_files file old.cache.gate.cut
      (sighted old.pass.view (tap_state old.tap)) (sighted new.pass.view (tap_state new.tap)))
      new.tap code answer
  pub warm : file < files_of old → Good → channels ≤ length out_old
      → IfSome old.pass.latest (λ known. IsWarm file r old.pass known
      → ((code ≡ 0) × (answer.generation ≡ known.generation))
      ⊎ (known.generation < slice_index new.pass.view.seen file))

-- why a lookup from the microcache alone fails: its request is refused, or a cell is not there
abbrev pub IsNotLocal : ℕ → Type 0 → Lookups → ℕ → ℕ → ℕ → ClientState → ClientState → Type 0
IsNotLocal file Good r channels room code old new =
    RefusesLookup (files_of old) file Good channels room code
    ⊎ ((code ≡ 7) × ¬ IsSomeAnd old.pass.latest (ServesLocally file r old.pass new.pass))

-- What a lookup from the microcache alone answers, and what state it leaves: of the pass only what
-- it has seen of the file, the order of its microcache and its counts may have changed.
pub record SaysLocally (file : ℕ) (Good : Type 0) (r : Lookups) (channels code : ℕ)
    (answer : TexAnswer) (out_old out_new : List ℕ) (old new : ClientState) : Type 0 where
  pub rest : KeepsAllButPass old new
  pub pass : AfterCall file old.pass new.pass
  pub latest : new.pass.latest ≡ old.pass.latest
  pub holds : new.pass.pinned.holds ≡ old.pass.pinned.holds
  pub ok : code ≡ 0 → Answers supplied_files file old.cache.gate.cut r old.pass.view new.pass.view
      (take channels out_new) answer.generation
  pub beyond : drop channels out_new ≡ drop channels out_old
  pub err : ¬ (code ≡ 0) → out_new ≡ out_old
  pub cause : ¬ (code ≡ 0) → IsNotLocal file Good r channels (length out_old) code old new

-- ---- files and regions

-- What `info` answers: the size, depth, channels and levels in the answered generation. Of the pass
-- only what it has seen of the file, and its record, may have changed.
pub record SaysInfo (file code : ℕ) (answer : TexAnswer) (info : TexInfo) (old new : ClientState)
    : Type 0 where
  pub cache : new.cache ≡ old.cache
  pub same : KeepsAllBut view_and_record old.pass new.pass
  pub ok : code ≡ 0 → KeepsGiven supplied_files file old.cache.gate.cut old.pass new.pass
      answer.generation (λ r. IsOkAnd r.layout (λ kept.
      info ≡ told_info (info_of r.generation kept r.cut)))
  pub as_new : code ≡ 0 → IsOfLook file old.pass.view new.pass.view answer.generation
  pub cause : ¬ (code ≡ 0) → IsUnanswered (RefusesFile (files_of old) file)
      (HasCause (around supplied_files file old.cache.gate.cut old.pass new.pass
      (tap_state old.tap) (tap_state new.tap)) Never InfoRefuses) new.tap code answer

-- What a read of a region answers: the level's values in the answered generation's bytes.
pub record SaysRegion (file : ℕ) (region : TexRegion) (code : ℕ) (answer : TexAnswer)
    (out_old out_new : List ℕ) (old new : ClientState) : Type 0 where
  pub cache : new.cache ≡ old.cache
  pub ok : code ≡ 0 → KeepsGiven supplied_files file old.cache.gate.cut old.pass new.pass
      answer.generation
      (ReadsRegion supplied_files (region_of region) answer.channels old.pass new.pass)
  pub as_new : code ≡ 0 → IsOfLook file old.pass.view new.pass.view answer.generation
  pub holds : new.pass.pinned.holds ≡ old.pass.pinned.holds
  pub value : code ≡ 0 → ForSome (supplied_files.held file answer.generation) (λ bytes.
      AreRegionValues bytes (region_of region) (take answer.value out_new))
  pub beyond : code ≡ 0 → drop answer.value out_new ≡ drop answer.value out_old
  pub err : ¬ (code ≡ 0) → out_new ≡ out_old
  pub cause : ¬ (code ≡ 0) → IsUnanswered
      (RefusesRegion (files_of old) file answer.value (length out_old))
      (HasCause (around supplied_files file old.cache.gate.cut old.pass new.pass
      (tap_state old.tap) (tap_state new.tap)) (TooManyTexels region.w region.h)
      (PixelsRefuses region.level)) new.tap code answer

-- ---- tiles

-- What `get_tile` answers: the cell of the texel, in the answered generation, is held. If it fails,
-- the holds are unchanged. Microcache and counts are unchanged in any case.
pub record SaysTile (file : ℕ) (at : TexelAt) (code : ℕ) (answer : TexAnswer)
    (old new : ClientState) : Type 0 where
  pub cache : new.cache ≡ old.cache
  pub ok : code ≡ 0 → KeepsGiven supplied_files file old.cache.gate.cut old.pass new.pass
      answer.generation (HoldsCell supplied_files at old.pass new.pass)
  pub as_new : code ≡ 0 → IsOfLook file old.pass.view new.pass.view answer.generation
  pub err : ¬ (code ≡ 0) → new.pass.pinned.holds ≡ old.pass.pinned.holds
  pub recent : KeepsRecent old.pass new.pass
  pub cause : ¬ (code ≡ 0) → IsUnanswered (RefusesFile (files_of old) file)
      (HasCause (around supplied_files file old.cache.gate.cut old.pass new.pass
      (tap_state old.tap) (tap_state new.tap)) (NoFurtherHold old.pass) (TileRefuses at))
      new.tap code answer

-- What is answered about a held tile: its rectangle and the number of samples per texel.
pub record SaysHeld (place code : ℕ) (out : TexTile) (old new : ClientState) : Type 0 where
  pub same : new ≡ old
  pub ok : code ≡ 0 → IsSomeAnd (slice_get old.pass.pinned.holds place) (λ tile.
      (out.x ≡ tile.rect.x) × (out.y ≡ tile.rect.y) × (out.w ≡ tile.rect.w)
      × (out.h ≡ tile.rect.h) × (out.channels ≡ tile.channels))
  pub cause : ¬ (code ≡ 0) → (code ≡ 8) × (length old.pass.pinned.holds ≤ place)

-- The hold at a place is released. This fails if none exists, or if the waiter gave up on a lock.
pub record SaysRelease (place code : ℕ) (old new : ClientState) : Type 0 where
  pub rest : KeepsAllButPass old new
  pub pass : KeepsAllBut its_holds old.pass new.pass
  pub visits : PurgesNone old.cache.gate old.pass.pinned.seat new.pass.pinned.seat
  pub ok : code ≡ 0 → new.pass.pinned.holds ≡ remove old.pass.pinned.holds place
  pub err : ¬ (code ≡ 0) → new.pass.pinned.holds ≡ old.pass.pinned.holds
  pub cause : ¬ (code ≡ 0) → ((code ≡ 8) × (length old.pass.pinned.holds ≤ place))
      ⊎ ((code ≡ 19) × (place < length old.pass.pinned.holds))

-- why a row of a tile is not copied: the tile has no such row, or the buffer is too small
abbrev pub RefusesRow : CachedTile → ℕ → ℕ → ℕ → Type 0
RefusesRow tile row room code =
    ((code ≡ 9) × ((tile.rect.h ≤ row) ⊎ (2 ^ 32 ≤ tile.rect.y + row)))
    ⊎ ((code ≡ 5) × (room < tile.rect.w * tile.channels))

-- What a read of a row of a tile answers: the samples of its texels, which are those of the tile's
-- generation.
pub record SaysTileRow (tile : CachedTile) (row code : ℕ) (out_old out_new : List ℕ)
    : Type 0 where
  pub ok : code ≡ 0 → AreSamples tile tile.rect.x (tile.rect.y + row) tile.rect.w
      (take (tile.rect.w * tile.channels) out_new)
  pub told : code ≡ 0 → AreToldSamples supplied_files tile tile.rect.x (tile.rect.y + row)
      tile.rect.w (take (tile.rect.w * tile.channels) out_new)
  pub err : ¬ (code ≡ 0) → out_new ≡ out_old
  pub cause : ¬ (code ≡ 0) → RefusesRow tile row (length out_old) code

-- What a read of a row of a held tile answers.
pub record SaysRow (place row code : ℕ) (out_old out_new : List ℕ) (old new : ClientState)
    : Type 0 where
  pub same : new ≡ old
  pub row_is : ((code ≡ 8) × (length old.pass.pinned.holds ≤ place) × (out_new ≡ out_old))
      ⊎ IsSomeAnd (slice_get old.pass.pinned.holds place) (λ tile.
      SaysTileRow tile row code out_old out_new)

-- ---- counts

-- The counts of a client: those that C is told, its holds, and the shards of its cache.
pub record SaysCounts (out : TexCounts) (c : ClientState) : Type 0 where
  pub needs : out.needs ≡ (told_counts c).needs
  pub hits : out.hits ≡ (told_counts c).hits
  pub apart : out.apart ≡ (told_counts c).apart
  pub holds : out.holds ≡ length c.pass.pinned.holds
  pub shards : out.shards ≡ length c.cache.gate.id

-- the numbers of a shard, as the cache counts them
abbrev pub shard_count : TexShard → ShardCount
shard_count out = record {
  tiles = out.tiles;
  pins = out.pins;
  loose = out.loose;
  share = out.share;
}

-- What is answered about a shard: the numbers of the entries that one visit found. This fails if the
-- shard does not exist, or if the waiter gave up on its lock. Of the pass nothing changes but its
-- visits.
pub record SaysShard (shard code : ℕ) (out_old out : TexShard) (old new : ClientState)
    : Type 0 where
  pub rest : KeepsAllButPass old new
  pub pass : KeepsAllBut its_visits old.pass new.pass
  pub ok : code ≡ 0 → AtShard shard (Counts supplied_files
      (tag_of old.cache.gate.share old.cache.gate.cut) (shard_count out))
      old.pass.pinned.seat.visits new.pass.pinned.seat.visits
  pub share : code ≡ 0 → out.share ≡ old.cache.gate.share
  pub err : ¬ (code ≡ 0) → out ≡ out_old
  pub unvisited : ¬ (code ≡ 0) → IsSameSeat old.pass.pinned.seat new.pass.pinned.seat
  pub cause : ¬ (code ≡ 0) → ((code ≡ 9) × (length old.cache.gate.id ≤ shard))
      ⊎ ((code ≡ 19) × (shard < length old.cache.gate.id))

-- what a call answers that drops what is kept of a file; 19 says that another thread had a lock
abbrev pub SaysDropped : ℕ → ℕ → ℕ → Type 0
SaysDropped file files code =
    ((code ≡ 3) × (files ≤ file)) ⊎ (((code ≡ 0) ⊎ (code ≡ 19)) × (file < files))

-- ---- freshness checks

-- One file was checked for a newer generation, with this answer. Up to an I/O error no tile was
-- purged.
pub record SaysInvalid (file : ℕ) (force : Bool) (code : ℕ) (answer : TexAnswer)
    (old new : ClientState) : Type 0 where
  pub cache : new.cache ≡ old.cache
  pub ok : code ≡ 0 → MakesInvalid supplied_files old.cache.gate (invalid file force)
      old.pass new.pass (tap_state old.tap) (tap_state new.tap) answer.generation
  pub emptied : code ≡ 0 → IsEmptied GaveUp old.pass new.pass
  pub view : KeepsView file old.pass.view new.pass.view
  pub failed : (code ≡ 1) ⊎ (code ≡ 17)
      → PurgesNone old.cache.gate old.pass.pinned.seat new.pass.pinned.seat
  pub cause : ¬ (code ≡ 0) → IsUnanswered (RefusesFile (files_of old) file)
      (InvalidCause (tap_state old.tap) (tap_state new.tap)) new.tap code answer

-- Every known file was checked for a newer generation. Up to an I/O error the files before the
-- failing one are done.
pub record SaysAllInvalid (code : ℕ) (answer : TexAnswer) (old new : ClientState) : Type 0 where
  pub cache : new.cache ≡ old.cache
  pub ok : code ≡ 0 → MakesAllInvalid supplied_files old.cache.gate (files_of old)
      (pass_tap old.pass (tap_state old.tap)) (pass_tap new.pass (tap_state new.tap))
  pub emptied : code ≡ 0 → IsEmptied GaveUp old.pass new.pass
  pub later : IsLater old.pass.view.seen new.pass.view.seen
  pub failed : (code ≡ 1) ⊎ (code ≡ 17) → EndsAtFault supplied_files old.cache.gate (files_of old)
      (pass_tap old.pass (tap_state old.tap)) (pass_tap new.pass (tap_state new.tap))
  pub cause : ¬ (code ≡ 0) → IsUnanswered (λ _. ⊥)
      (InvalidCause (tap_state old.tap) (tap_state new.tap)) new.tap code answer
