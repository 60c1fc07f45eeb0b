-- What does a line about the shards say about a worker's pins? (docs/REQUESTS.md, "The answer
-- lines")
use Rattle.std.specs.Prelude.{◌≡◌, ℕ, ◌≤◌, List, Option, Some, None}
use Rattle.std.specs.List.{sum_by}
use Rattle.std.specs.Option.{ForSome}
use Rattle.tiff_format.specs.declared.shard_count.ShardCount.{ShardCount}
use Rattle.request_lang.specs.declared.answer.Answer.{Answer}
use Rattle.request_lang.specs.declared.answer.Answer.TheVariants.{Stat}

-- the pins of all shards
abbrev pub all_pins : List ShardCount → ℕ
all_pins shards = sum_by (λ shard. shard.pins) shards

-- the shards in a line, if it lists them
abbrev pub shards_in : Answer → Option (List ShardCount)
shards_in (Stat shards) = Some shards
shards_in _ = None

-- The shards count the pins of this many tiles of a worker, and no others if it is alone.
pub record HavePins (tiles : ℕ) (Alone : Type 0) (shards : List ShardCount) : Type 0 where
  pub own : tiles ≤ all_pins shards
  pub alone : Alone → all_pins shards ≡ tiles

-- The shards in a line, if it lists them, count these pins.
abbrev pub TellsPins : ℕ → Type 0 → Answer → Type 0
TellsPins tiles Alone line = ForSome (shards_in line) (HavePins tiles Alone)
