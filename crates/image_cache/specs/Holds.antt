-- What do the calls of a caller on held tiles and on shards answer, and what do they leave?
use Rattle.std.specs.Prelude.{◌≡◌, ℕ, ◌<◌, ◌≤◌, None, length, slice_index}
use Rattle.std.specs.Prelude.{Result, Err, IfOk, IfErr, OnOk, OnErr}
use Rattle.std.specs.List.{remove}
use Rattle.tiff_format.specs.declared.shard_count.ShardCount.{ShardCount}
use Rattle.tile_store.specs.Tag.{tag_of}
use Rattle.shard_gate.specs.Gate.{IsSameSeat}
use Rattle.shard_gate.specs.Given.{AtShard, Counts}
use Rattle.shard_gate.specs.Everyone.{FindsPinsOfAll}
use Rattle.shard_gate.specs.Since.{PurgesNone}
use Rattle.pinned_tiles.specs.Pinned.{tiles_at}
use Rattle.texel_values.specs.declared.texel_at.TexelAt.{TexelAt}
use Rattle.tile_source.specs.declared.error.CacheError.{CacheError}
use Rattle.tile_source.specs.declared.error.CacheError.TheVariants.{HoldsFull}
use Rattle.image_cache.specs.declared.error.NotReleased.{NotReleased}
use Rattle.image_cache.specs.declared.error.NotReleased.TheVariants.{NothingHeld}
use Rattle.tile_source.specs.Pass.{KeepsAllBut, its_hand, its_holds, its_visits}
use Rattle.image_cache.specs.Call.{AfterCall, KeepsGiven, KeepsOne, KeepsRecent, HoldsCell}
use Rattle.tile_source.specs.Call.{LeavesNoHand, NoneFalls}
use Rattle.image_cache.specs.Call.{IsOfLook}
use Rattle.image_cache.specs.Cause.{HasCause, NoFurtherHold, TileRefuses, ReleaseCause}
use Rattle.image_cache.specs.Caller.{Call, around_file}

-- ---- holds

-- The cell of a texel is held, in the answered generation. A fifth hold is refused first.
pub record HoldsTile {B : Type 0} (file : ℕ) (at : TexelAt) (c : Call)
    (result : Result ℕ (CacheError B)) : Type 0 where
  pub ok : IfOk result (λ generation. KeepsGiven c.files file c.old.cache.gate.cut
      c.old.pass c.new.pass generation (HoldsCell c.files at c.old.pass c.new.pass))
  pub as_new : IfOk result (IsOfLook file c.old.pass.view c.new.pass.view)
  pub cause : IfErr result (HasCause (around_file file c) (NoFurtherHold c.old.pass)
      (TileRefuses at))
  pub full : length c.old.pass.pinned.holds ≡ 4 → (result ≡ Err HoldsFull)
      × (c.new.pass ≡ c.old.pass) × (c.new.tap ≡ c.old.tap)

-- What a hold leaves, also one that fails. Microcache and counts are unchanged, and shards were
-- visited only to pin, unpin and count tiles.
pub record LeavesHold {A B : Type 0} (file : ℕ) (c : Call) (result : Result A (CacheError B))
    : Type 0 where
  pub cache : c.new.cache ≡ c.old.cache
  pub looked : OnOk result (slice_index c.old.pass.view.steps file
      < slice_index c.new.pass.view.steps file)
  pub err : OnErr result (c.new.pass.pinned.holds ≡ c.old.pass.pinned.holds)
  pub latest : KeepsOne c.files file c.old.cache.gate.cut c.old.pass c.new.pass
      c.old.tap c.new.tap
  pub same : AfterCall file c.old.pass c.new.pass
  pub recent : KeepsRecent c.old.pass c.new.pass
  pub hand : LeavesNoHand B c.old.pass c.new.pass
  pub visits : PurgesNone c.old.cache.gate c.old.pass.pinned.seat c.new.pass.pinned.seat
  pub tap : NoneFalls c.old.tap c.new.tap

-- The hold at a place was released, unless none exists or the waiter gave up.
pub record ReleasesHold {B : Type 0} (place : ℕ) (c : Call)
    (result : Result (Unit {0}) (NotReleased B)) : Type 0 where
  pub cache : c.new.cache ≡ c.old.cache
  pub ok : OnOk result (c.new.pass.pinned.holds ≡ remove c.old.pass.pinned.holds place)
  pub cause : IfErr result (ReleaseCause place c.old.pass)
  pub none : length c.old.pass.pinned.holds ≤ place → result ≡ Err NothingHeld
  pub err : OnErr result (c.new.pass.pinned.holds ≡ c.old.pass.pinned.holds)
  pub same : KeepsAllBut its_holds c.old.pass c.new.pass
  pub hand : LeavesNoHand B c.old.pass c.new.pass
  pub visits : PurgesNone c.old.cache.gate c.old.pass.pinned.seat c.new.pass.pinned.seat

-- The pin in hand was given back, unless the waiter gave up.
pub record ReleasesHand {B : Type 0} (c : Call) (result : Result (Unit {0}) B) : Type 0 where
  pub cache : c.new.cache ≡ c.old.cache
  pub ok : OnOk result (c.new.pass.pinned.hand ≡ None)
  pub err : OnErr result (c.new.pass.pinned.hand ≡ c.old.pass.pinned.hand)
  pub same : KeepsAllBut its_hand c.old.pass c.new.pass
  pub visits : PurgesNone c.old.cache.gate c.old.pass.pinned.seat c.new.pass.pinned.seat

-- ---- shards

-- One visit of a shard counted its entries, which have as many pins as all passes have on their
-- keys; those of this pass are among them. Nothing but the visits of the pass changed.
pub record CountsShard {B : Type 0} (shard : ℕ) (c : Call) (result : Result ShardCount B)
    : Type 0 where
  pub cache : c.new.cache ≡ c.old.cache
  pub lawful : IfOk result (λ count. AtShard shard
      (Counts c.files (tag_of c.old.cache.gate.share c.old.cache.gate.cut) count)
      c.old.pass.pinned.seat.visits c.new.pass.pinned.seat.visits)
  pub share : IfOk result (λ count. count.share ≡ c.old.cache.gate.share)
  pub within : IfOk result (λ count. count.loose ≤ count.share)
  pub own : IfOk result (λ count.
      tiles_at (length c.old.cache.gate.id) shard c.old.pass.pinned ≤ count.pins)
  pub alone : IfOk result (λ count. c.old.pass.pinned.seat.permits ≡ c.old.cache.gate.passes
      → count.pins ≡ tiles_at (length c.old.cache.gate.id) shard c.old.pass.pinned)
  pub everyone : OnOk result
      (FindsPinsOfAll shard c.old.pass.pinned.seat c.new.pass.pinned.seat)
  pub err : OnErr result (IsSameSeat c.old.pass.pinned.seat c.new.pass.pinned.seat)
  pub same : KeepsAllBut its_visits c.old.pass c.new.pass
