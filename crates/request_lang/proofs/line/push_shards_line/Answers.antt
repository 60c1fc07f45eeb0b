use Rattle.std.proofs.Common.{ℕ, List, ◌++◌, ap}
use Rattle.std.specs.List.{flat_map}
use Rattle.request_lang.specs.Line.{shard_text}
use Rattle.short_text.proofs.AppendLemmas.{pushes_then}
use Rattle.request_lang.proofs.line.push_shards_line.Goals as goal

pub returns-clause-text : goal.returns-clause-text
returns-clause-text c =
    pushes_then _ _ _ _ _ _ _
    (ap (λ (xs : List ℕ). xs ++ flat_map shard_text c.args.shards.now) c.as_bytes.ensures.value)
    c.in_ok-push_text.ensures.text c.push_shards.ensures.text
