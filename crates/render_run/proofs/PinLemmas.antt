-- What do the counts of all shards say about a worker's pins, and what does an error?
use Rattle.std.proofs.Common.{◌≡◌, ℕ, ◌+◌, ◌<◌, ◌≤◌, List, ◌++◌, Option, None, length, get_or}
use Rattle.std.proofs.Common.{ap, ◌∙◌, arith}
use Rattle.std.specs.Option.{option_to_list}
use Rattle.std.proofs.lemmas.List.{length-append}
use Rattle.tiff_format.specs.declared.shard_count.ShardCount.{ShardCount}
use Rattle.tile_store.specs.Tile.{CachedTile}
use Rattle.pinned_tiles.specs.Pinned.{PinnedState, tiles_at, tiles_in}
use Rattle.pinned_tiles.proofs.TileSums.{at_least_tiles, exactly_tiles}
use Rattle.tile_source.specs.declared.error.CacheError.{CacheError}
use Rattle.tile_source.specs.declared.error.CacheError.TheVariants as refused
use Rattle.render_run.specs.Pins.{HavePins, TellsPins}
use Rattle.render_run.specs.Refusal.{refusal_of}

-- an error lists no shards
pub refusal_tells : {B : Type 0} (tiles : ℕ) (Alone : Type 0) (e : CacheError B)
    → TellsPins tiles Alone (refusal_of e)
refusal_tells tiles Alone (refused.BadFile generation fault) = λ shards is. absurd cc
refusal_tells tiles Alone (refused.TileTooLarge generation) = λ shards is. absurd cc
refusal_tells tiles Alone (refused.NoLevel generation levels) = λ shards is. absurd cc
refusal_tells tiles Alone (refused.Outside generation) = λ shards is. absurd cc
refusal_tells tiles Alone refused.RegionTooLarge = λ shards is. absurd cc
refusal_tells tiles Alone refused.HoldsFull = λ shards is. absurd cc
refusal_tells tiles Alone (refused.Again from to) = λ shards is. absurd cc
refusal_tells tiles Alone refused.ReadFault = λ shards is. absurd cc
refusal_tells tiles Alone refused.NoMemory = λ shards is. absurd cc
refusal_tells tiles Alone (refused.Busy b) = λ shards is. absurd cc

-- nothing is in hand
tiles_none : (p : PinnedState) → p.hand ≡ None
    → length (tiles_in p) ≡ length p.holds + length p.recent
tiles_none p none =
    omega (
      arith,
      length-append p.holds (p.recent ++ option_to_list p.hand),
      length-append p.recent (option_to_list p.hand),
      ap (λ (h : Option CachedTile). length (option_to_list h)) none,
    )

-- all shards were counted
pub all_counted : (shards : ℕ) (p : PinnedState) (Alone : Type 0) (counts : List ShardCount)
    → length counts ≡ shards → 0 < shards → p.hand ≡ None
    → ((k : ℕ) (d : ShardCount) → k < shards → tiles_at shards k p ≤ (get_or counts k d).pins)
    → (Alone → (k : ℕ) (d : ShardCount) → k < shards
    → (get_or counts k d).pins ≡ tiles_at shards k p)
    → HavePins (length p.holds + length p.recent) Alone counts
all_counted shards p Alone counts long some none own alone = record {
  own =
      let least = at_least_tiles (λ (s : ShardCount). s.pins) counts shards long some p own in
      omega (arith, least, tiles_none p none);
  alone = λ is.
      exactly_tiles (λ (s : ShardCount). s.pins) counts shards long some p (alone is)
      ∙ tiles_none p none;
}
