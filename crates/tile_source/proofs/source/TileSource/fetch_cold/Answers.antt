-- The tile is first in the microcache, or was made for this need only, or the need is uncached.
use Rattle.std.proofs.Common.{rules, ◌≡◌, ◌∙◌, sym, ap, subst, List}
use Rattle.micro.specs.Items.{HasKey}
use Rattle.pinned_tiles.specs.Pinned.{key_in}
use Rattle.tile_store.specs.Tile.{CachedTile}
use Rattle.std.specs.List.{All}
use Rattle.tiff_format.specs.declared.cut.Cut.{Cut}
use Rattle.tile_store.specs.Lawful.{FitsCut}
use Rattle.tile_source.proofs.NeedLemmas.{needed_at}
use Rattle.tile_source.proofs.VisitLemmas.{missed_at}
use Rattle.tile_source.proofs.SourceLemmas.{cold_before}
use Rattle.tile_source.proofs.SourceLemmas.{reads_then, reads_brought}
use Rattle.tile_source.proofs.UncachedLemmas.{wants_none, busy_only}
use Rattle.tile_source.proofs.source.TileSource.fetch_cold.Goals as goal

pub returns-in-Ok-Some-clause-need : goal.returns-in-Ok-Some-clause-need
returns-in-Ok-Some-clause-need g c =
    let files = g.T.W.World.files in
    let first = c.args.self.now in
    let counted = c.count.ensures in
    let cut : first.pass.now.pinned.cut ≡ first.picture.now.cut =
    first.pass_of.cut ∙ sym first.under.cut in
    record {
      need = search rules;
      apart = search rules;
      needed = λ none.
          needed_at files first.picture.now c.args.at c.args.cell.now first.pass.now
          c.count.new.self.pass.now c.need_tile.new.self.pass.now counted.told c.requires.cell
          (subst (λ (k : Cut). All (FitsCut files k) first.pass.now.pinned.recent) cut counted.fits)
          counted.recent c.requires.lacks counted.low counted.counts
          c.need_tile.ensures.left.counts c.in-Ok-Some.ensures.asked c.in-Ok-Some.ensures.turned;
    }

pub returns-in-Ok-Some-clause-missed : goal.returns-in-Ok-Some-clause-missed
returns-in-Ok-Some-clause-missed g c tells none =
    missed_at c.args.self.now.store.now.gate c.args.self.now.picture.now c.args.at c.args.cell.now
    c.args.self.now.pass.now c.need_tile.new.self.pass.now (g.T.Tap.state c.args.self.now.tap.now)
    (g.T.Tap.state c.need_tile.new.self.tap.now) c.requires.cell.is
    (cold_before c.args.cell.now.key c.args.self.now c.count.new.self c.need_tile.new.self
    c.count.ensures.left.call c.count.ensures.seat c.count.ensures.tap
    (c.need_tile.ensures.missed tells))

pub returns-in-Ok-None-clause-need : goal.returns-in-Ok-None-clause-need
returns-in-Ok-None-clause-need g c =
    let files = g.T.W.World.files in
    let first = c.args.self.now in
    let counted = c.count.ensures in
    let cut : first.pass.now.pinned.cut ≡ first.picture.now.cut =
    first.pass_of.cut ∙ sym first.under.cut in
    record {
      need = search rules;
      apart = search rules;
      needed = λ none.
          needed_at files first.picture.now c.args.at c.args.cell.now first.pass.now
          c.count.new.self.pass.now c.need_tile.new.self.pass.now counted.told c.requires.cell
          (subst (λ (k : Cut). All (FitsCut files k) first.pass.now.pinned.recent) cut counted.fits)
          counted.recent c.requires.lacks counted.low counted.counts
          c.need_tile.ensures.left.counts c.in-Ok-None.ensures.asked c.in-Ok-None.ensures.turned;
    }

pub returns-in-Ok-None-clause-missed : goal.returns-in-Ok-None-clause-missed
returns-in-Ok-None-clause-missed g c tells none =
    missed_at c.args.self.now.store.now.gate c.args.self.now.picture.now c.args.at c.args.cell.now
    c.args.self.now.pass.now c.need_tile.new.self.pass.now (g.T.Tap.state c.args.self.now.tap.now)
    (g.T.Tap.state c.need_tile.new.self.tap.now) c.requires.cell.is
    (cold_before c.args.cell.now.key c.args.self.now c.count.new.self c.need_tile.new.self
    c.count.ensures.left.call c.count.ensures.seat c.count.ensures.tap
    (c.need_tile.ensures.missed tells))

pub returns-in_default-clause-memory : goal.returns-in_default-clause-memory
returns-in_default-clause-memory g c = record {
  stored = λ stored.
      wants_none (g.T.Tap.state c.args.self.now.tap.now) (g.T.Tap.state c.need_tile.new.self.tap.now)
      c.in-Err.e c.in_default.not-NoMemory;
  generated = search rules;
}

pub returns-in_default-clause-missed : goal.returns-in_default-clause-missed
returns-in_default-clause-missed g c tells none =
    missed_at c.args.self.now.store.now.gate c.args.self.now.picture.now c.args.at c.args.cell.now
    c.args.self.now.pass.now c.need_tile.new.self.pass.now (g.T.Tap.state c.args.self.now.tap.now)
    (g.T.Tap.state c.need_tile.new.self.tap.now) c.requires.cell.is
    (cold_before c.args.cell.now.key c.args.self.now c.count.new.self c.need_tile.new.self
    c.count.ensures.left.call c.count.ensures.seat c.count.ensures.tap
    (c.need_tile.ensures.missed tells))

pub returns-in_default-clause-held : goal.returns-in_default-clause-held
returns-in_default-clause-held g c tells has =
    let there = subst (λ (tiles : List CachedTile). HasKey key_in c.args.cell.now.key tiles)
    (sym c.count.ensures.left.left.steps.need.holds) has in
    let held = c.in-Err.ensures.held tells there in
    record {
      tap = held.tap ∙ ap g.T.Tap.state c.count.ensures.tap;
      busy = busy_only c.in-Err.e c.in_default.not-NoMemory held.wants;
    }

pub returns-in_default-clause-left : goal.returns-in_default-clause-left
returns-in_default-clause-left g c =
    reads_then c.count.ensures.left (reads_brought c.in-Err.ensures.left)
