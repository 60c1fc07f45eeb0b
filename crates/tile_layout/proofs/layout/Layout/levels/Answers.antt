use Rattle.std.proofs.Common.{rules}
use Rattle.tile_layout.specs.Level.{level_count_in}
use Rattle.tile_layout.proofs.layout.Layout.levels.Goals as goal

pub returns-then-stored-eq1-clause-value : goal.returns-then-stored-eq1-clause-value
unfolding level_count_in
returns-then-stored-eq1-clause-value c = search rules

pub returns-else-cut-clause-value : goal.returns-else-cut-clause-value
unfolding level_count_in
returns-else-cut-clause-value c = search rules
