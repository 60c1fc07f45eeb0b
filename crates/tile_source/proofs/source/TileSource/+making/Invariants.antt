-- Each step goes to the level before: the tiles of a cell are made of those of the level before it.
use Rattle.std.proofs.Common.{◌≡◌, None, ◌+◌, ◌*◌}
use Rattle.tile_layout.specs.Key.{level_of}
use Rattle.tile_load.specs.Halving.{part_count}
use Rattle.tile_source.specs.Making.{Halves}
use Rattle.tile_source.specs.Source.{Makes}
use Rattle.tile_source.proofs.source.TileSource.+making.Given as goal

abbrev pub decreases-take_in_hand : goal.decreases-take_in_hand
decreases-take_in_hand g l = 4 * level_of l.cell.now.key + 2

abbrev pub decreases-make : goal.decreases-make
decreases-make g l = 4 * level_of l.cell.now.key + 1

abbrev pub decreases-halve : goal.decreases-halve
decreases-halve g l = 4 * level_of l.cell.now.key

abbrev pub decreases-add_part : goal.decreases-add_part
decreases-add_part g l = 4 * level_of l.part.now.key + 3

-- the parts so far were added, and nothing is in hand
abbrev pub invariant-halve-parts : goal.invariant-halve-parts
invariant-halve-parts g l = record {
  halves : Halves l.self.picture.now l.halving;
  key : l.halving.key ≡ l.cell.key;
  done : l.halving.done ≡ l.k;
  all : l.k-end ≡ part_count l.halving.layout l.halving.cut l.halving.key;
  hand : l.self.pass.now.pinned.hand ≡ None;
  made : Makes g.T.W.World.files l.fn.self l.self None;
}
