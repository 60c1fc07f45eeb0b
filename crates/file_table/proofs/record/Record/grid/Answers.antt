-- The sides of each cell are even, or cover those of the level.
use Rattle.std.proofs.Common.{refl}
use Rattle.tile_layout.proofs.GridLemmas.{grid_halves}
use Rattle.file_table.proofs.record.Record.grid.Goals as goal

pub returns-clause-halving : goal.returns-clause-halving
returns-clause-halving g c = grid_halves c.index.result.now.grid _ refl
