-- The microcache has the cell, or its tile is brought.
use Rattle.std.proofs.Common.{◌≡◌, ◌∙◌, sym, subst, rules}
use Rattle.file_table.specs.Record.{RecordState}
use Rattle.tile_source.specs.Texel.{IsCellIn}
use Rattle.image_cache.proofs.FetchedLemmas.{fetched_met, fetched_cold}
use Rattle.image_cache.proofs.cache.Cache.fetch.Goals as goal

pub returns-then-fetch_kept-clause-left : goal.returns-then-fetch_kept-clause-left
returns-then-fetch_kept-clause-left g c =
    fetched_met g.T.W.World.files c.args.self.now.gate c.args.known.now c.args.at
    (g.T.Tap.state c.args.tap.now) c.args.pass.now c.fetch_kept.new.pass
    (c.fetch_kept.ensures.met c.if-fetch_kept.true)

pub returns-clause-left : goal.returns-clause-left
returns-clause-left g c =
    let same = (c.fetch_kept.ensures.same c.if-fetch_kept.false).0 in
    let pass_back : c.fetch_cold.new.self.pass.now ≡ c.pass-1.given.0 =
    search (rules, c.fetch_cold.ensures.call.pass_name) in
    let tap_back : c.fetch_cold.new.self.tap.now ≡ c.tap-1.given.0 =
    search (rules, c.fetch_cold.ensures.call.tap_name) in
    rw (← pass_back, ← tap_back, ← c.of-picture.ensures, ← same, ← c.store.ensures)
    (fetched_cold _ _ _ c.args.at _ _ c.fetch_cold.result c.cell-cell.result
    (subst (λ (r : RecordState). IsCellIn r c.args.at c.cell-cell.result) (sym c.of-picture.ensures)
    c.cell-cell.ensures.is)
    (rw (c.of-picture.ensures, same) (sym c.fetch_kept.ensures.has ∙ c.if-fetch_kept.false))
    c.fetch_cold.ensures.left.left c.fetch_cold.ensures.need.need c.fetch_cold.ensures.need.apart
    c.fetch_cold.ensures.need.needed c.fetch_cold.ensures.missed c.fetch_cold.ensures.held
    c.fetch_cold.ensures.memory.stored c.fetch_cold.ensures.memory.generated)
