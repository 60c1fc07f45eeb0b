-- A generated cell that the pass does not hold cannot be answered.
use Rattle.tile_source.proofs.SourceLemmas.{no_reads}
use Rattle.tile_source.proofs.source.TileSource.fetch_uncached.Goals as goal

pub returns-then-not-is_stored-clause-left : goal.returns-then-not-is_stored-clause-left
returns-then-not-is_stored-clause-left g c = no_reads c.know.ensures.few tt
