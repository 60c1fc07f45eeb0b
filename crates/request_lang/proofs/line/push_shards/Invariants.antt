use Rattle.std.proofs.Common.{◌≡◌, ◌≤◌, ◌+◌, ◌*◌, ◌++◌, take, length}
use Rattle.std.specs.Prelude.{vec_len, vec_capacity}
use Rattle.std.specs.List.{flat_map}
use Rattle.request_lang.specs.Line.{shard_text}
use Rattle.request_lang.specs.Appending.{max_shard_bytes}
use Rattle.request_lang.proofs.line.push_shards.Given as goal

abbrev pub invariant-loop-shard : goal.invariant-loop-shard
invariant-loop-shard l = record {
  text : l.out.items ≡ l.initial.out.items ++ flat_map shard_text (take l.shard-index l.shards);
  capacity : vec_capacity l.initial.out ≤ vec_capacity l.out;
  few : vec_len l.initial.out + max_shard_bytes * length l.shards ≤ vec_capacity l.initial.out
      → vec_len l.out ≤ vec_len l.initial.out + max_shard_bytes * l.shard-index;
}
