-- What do calls of a caller on a file answer, and what do they leave: its facts, and regions?
use Rattle.std.specs.Prelude.{◌≡◌, ℕ, ◌+◌, ◌*◌, ◌<◌, List, length, slice_index}
use Rattle.std.specs.Prelude.{Result, Err, IfOk, IfErr, IsOkAnd, OnOk, OnErr}
use Rattle.std.specs.Option.{ForSome}
use Rattle.tiff_format.specs.declared.info.Info.{Info}
use Rattle.file_table.specs.Calls.{LooksOnce, OpensIfAtAll}
use Rattle.shard_gate.specs.Since.{PurgesNone}
use Rattle.texel_values.specs.declared.region.Region.{Region}
use Rattle.texel_values.specs.Region.{max_texels, AreRegionValues, Appends}
use Rattle.tile_source.specs.declared.error.CacheError.{CacheError}
use Rattle.tile_source.specs.declared.error.CacheError.TheVariants.{RegionTooLarge}
use Rattle.image_cache.specs.declared.pixels.Pixels.{Pixels}
use Rattle.tile_source.specs.Pass.{KeepsAllBut, view_and_record}
use Rattle.image_cache.specs.Call.{AfterCall, IsOfLook, KeepsGiven, KeepsOne}
use Rattle.tile_source.specs.Call.{LeavesNoHand, NoneFalls}
use Rattle.tile_source.specs.Cause.{Never}
use Rattle.image_cache.specs.Cause.{HasCause, InfoRefuses, TooManyTexels, PixelsRefuses}
use Rattle.image_cache.specs.Cause.{KeepsRecentAt}
use Rattle.image_cache.specs.Facts.{info_of}
use Rattle.image_cache.specs.Region.{ReadsRegion}
use Rattle.image_cache.specs.Caller.{Call, around_file}

-- ---- facts

-- The size, the channels and the levels are those of the answered generation.
pub record GivesInfo {B : Type 0} (file : ℕ) (c : Call) (result : Result Info (CacheError B))
    : Type 0 where
  pub ok : IfOk result (λ info. KeepsGiven c.files file c.old.cache.gate.cut
      c.old.pass c.new.pass info.generation (λ r. IsOkAnd r.layout (λ kept.
      info ≡ info_of r.generation kept r.cut)))
  pub as_new : IfOk result (λ info.
      IsOfLook file c.old.pass.view c.new.pass.view info.generation)
  pub cause : IfErr result (HasCause (around_file file c) Never InfoRefuses)

-- What a call leaves that opens a file at most: only what the pass has seen of it, and its record,
-- may have changed.
pub record LeavesOpening (file : ℕ) (c : Call) : Type 0 where
  pub cache : c.new.cache ≡ c.old.cache
  pub latest : KeepsOne c.files file c.old.cache.gate.cut c.old.pass c.new.pass
      c.old.tap c.new.tap
  pub same : KeepsAllBut view_and_record c.old.pass c.new.pass
  pub looks : LooksOnce file c.old.pass.view c.new.pass.view
  pub once : OpensIfAtAll c.old.tap c.new.tap

-- ---- regions

-- A region was appended: its values are those of the answered generation's bytes. An error has its
-- cause, and then nothing was appended. A region with too many texels is refused first.
pub record ReadsPixels {B : Type 0} (file : ℕ) (region : Region) (c : Call)
    (out_old out_new : List ℕ) (result : Result Pixels (CacheError B)) : Type 0 where
  pub ok : IfOk result (λ pixels. KeepsGiven c.files file c.old.cache.gate.cut
      c.old.pass c.new.pass pixels.generation
      (ReadsRegion c.files region pixels.channels c.old.pass c.new.pass))
  pub count : IfOk result (λ pixels. length out_new ≡ length out_old
      + region.h * (region.w * pixels.channels))
  pub value : IfOk result (λ pixels. ForSome (c.files.held file pixels.generation)
      (λ bytes. Appends (AreRegionValues bytes region) out_old out_new))
  pub as_new : IfOk result (λ pixels.
      IsOfLook file c.old.pass.view c.new.pass.view pixels.generation)
  pub cause : IfErr result (HasCause (around_file file c)
      (TooManyTexels region.w region.h) (PixelsRefuses region.level))
  pub too_large : max_texels < region.w * region.h → (result ≡ Err RegionTooLarge)
      × (c.new.pass ≡ c.old.pass) × (c.new.tap ≡ c.old.tap)
  pub err : OnErr result (out_new ≡ out_old)

-- What a read of a region leaves, also one that fails. The holds are unchanged, and shards were
-- visited only to pin, unpin and count tiles.
pub record LeavesPixels {A B : Type 0} (file : ℕ) (c : Call) (result : Result A (CacheError B))
    : Type 0 where
  pub cache : c.new.cache ≡ c.old.cache
  pub unread : IfErr result (KeepsRecentAt c.old.pass c.new.pass)
  pub looked : OnOk result (slice_index c.old.pass.view.steps file
      < slice_index c.new.pass.view.steps file)
  pub latest : KeepsOne c.files file c.old.cache.gate.cut c.old.pass c.new.pass
      c.old.tap c.new.tap
  pub same : AfterCall file c.old.pass c.new.pass
  pub holds : c.new.pass.pinned.holds ≡ c.old.pass.pinned.holds
  pub hand : LeavesNoHand B c.old.pass c.new.pass
  pub visits : PurgesNone c.old.cache.gate c.old.pass.pinned.seat c.new.pass.pinned.seat
  pub tap : NoneFalls c.old.tap c.new.tap
