-- A pin is given back, and then the tile is made.
use Rattle.tile_source.proofs.SourceLemmas.{makes_then}
use Rattle.tile_source.proofs.source.TileSource.make_alone.Goals as goal

pub returns-clause-made : goal.returns-clause-made
returns-clause-made g c = makes_then c.in_ok-give_back.ensures.made c.make.ensures.made
