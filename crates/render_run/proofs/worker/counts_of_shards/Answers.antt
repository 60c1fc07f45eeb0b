use Rattle.std.proofs.Common.{◌≡◌, ◌∙◌, length, ap, arith}
use Rattle.tile_source.specs.Pass.{CacheState}
use Rattle.render_run.proofs.PinLemmas.{all_counted}
use Rattle.render_run.proofs.worker.counts_of_shards.Goals as goal

pub returns-clause-pins : goal.returns-clause-pins
returns-clause-pins g c =
    let shards = length c.args.caller.now.cache.gate.id in
    let value : c.shards-shards.result ≡ shards =
    c.shards-shards.ensures.value ∙ ap (λ (x : CacheState). length x.gate.id) c.cache.ensures in
    let all : c.loop-shard.shard ≡ shards =
    omega (arith, value, c.loop-shard-test.false, c.loop-shard.auto.shard-end) in
    all_counted shards c.args.caller.now.pass.pinned _ c.loop-shard.counts.items
    (omega (arith, c.loop-shard.invariant.count, all))
    (omega (arith, c.shards-shards.ensures.some, value)) c.requires
    (λ k d low. c.loop-shard.invariant.own k d (omega (arith, low, all)))
    (λ is k d low. c.loop-shard.invariant.alone is k d (omega (arith, low, all)))
