-- The tile is taken in hand, and then placed.
use Rattle.std.proofs.Common.{◌∙◌, ap, sym, subst, List}
use Rattle.micro.specs.Items.{HasKey}
use Rattle.tile_store.specs.Tile.{CachedTile}
use Rattle.pinned_tiles.specs.Pinned.{key_in}
use Rattle.tile_source.proofs.SourceLemmas.{brings_by, brings_refused, brings_placed}
use Rattle.tile_source.proofs.SourceLemmas.{cold_before, cold_after}
use Rattle.tile_source.proofs.source.TileSource.bring.Goals as goal

pub returns-in_err-take_in_hand-clause-left : goal.returns-in_err-take_in_hand-clause-left
returns-in_err-take_in_hand-clause-left g c =
    brings_by _ c.from_residual.ensures.1
    (brings_refused c.find.ensures.left c.in_err-take_in_hand.ensures.made)

pub returns-in_err-take_in_hand-clause-missed : goal.returns-in_err-take_in_hand-clause-missed
returns-in_err-take_in_hand-clause-missed g c =
    cold_before c.args.cell.now.key c.args.self.now c.find.new.self
    c.take_in_hand.new.self c.find.ensures.left.steps.call c.find.ensures.seat
    c.find.ensures.tap c.take_in_hand.ensures.missed

pub returns-clause-left : goal.returns-clause-left
returns-clause-left g c =
    brings_placed c.find.ensures.left c.in_ok-take_in_hand.ensures.made c.place.ensures.left
    c.place.ensures.counts c.place.ensures.hand

pub returns-clause-missed : goal.returns-clause-missed
returns-clause-missed g c =
    cold_before c.args.cell.now.key c.args.self.now c.find.new.self
    c.place.new.self c.find.ensures.left.steps.call c.find.ensures.seat
    c.find.ensures.tap
    (cold_after c.args.cell.now.key c.find.new.self c.take_in_hand.new.self c.place.new.self
    c.take_in_hand.ensures.missed
    c.in_ok-take_in_hand.ensures.made.steps.call c.place.ensures.left c.place.ensures.tap)

-- what the pass holds is there
pub returns-clause-held : goal.returns-clause-held
returns-clause-held g c has =
    let there = subst (λ (tiles : List CachedTile). HasKey key_in c.args.cell.now.key tiles)
    (sym c.find.ensures.left.steps.left.need.holds) has in
    let taken = c.take_in_hand.ensures.held there in
    record {
      tap = ap g.T.Tap.state c.place.ensures.tap ∙ (taken.tap ∙ ap g.T.Tap.state c.find.ensures.tap);
      wants = tt;
    }
