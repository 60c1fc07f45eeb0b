use Rattle.std.proofs.Common.{◌≡◌, ℕ, ◌<◌, ◌≤◌, length, slice_index_or}
use Rattle.std.specs.List.{All}
use Rattle.tiff_format.specs.declared.shard_count.ShardCount.{ShardCount}
use Rattle.pinned_tiles.specs.Pinned.{tiles_at}
use Rattle.tile_source.specs.Pass.{KeepsAllBut, its_visits}
use Rattle.caller.specs.Caller.{KeepsAllButPass}
use Rattle.render_run.proofs.worker.counts_of_shards.Given as goal

-- the shards so far were counted
abbrev pub invariant-loop-shard : goal.invariant-loop-shard
invariant-loop-shard g l = record {
  count : length l.counts.items ≡ l.shard;
  share : All (λ count. count.share ≡ l.fn.caller.cache.gate.share) l.counts.items;
  loose : All (λ count. count.loose ≤ count.share) l.counts.items;
  own : (k : ℕ) (d : ShardCount) → k < l.shard
      → tiles_at (length l.fn.caller.cache.gate.id) k l.fn.caller.pass.pinned
      ≤ (slice_index_or l.counts.items k d).pins;
  alone : l.fn.caller.pass.pinned.seat.permits ≡ l.fn.caller.cache.gate.passes
      → (k : ℕ) (d : ShardCount) → k < l.shard
      → (slice_index_or l.counts.items k d).pins
      ≡ tiles_at (length l.fn.caller.cache.gate.id) k l.fn.caller.pass.pinned;
  same : KeepsAllBut its_visits l.fn.caller.pass l.caller.pass;
  rest : KeepsAllButPass l.fn.caller l.caller;
}
