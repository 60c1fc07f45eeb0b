-- The four numbers are those of the level's first cell, but for the cell's.
use Rattle.std.proofs.Common.{◌∙◌}
use Rattle.tile_layout.proofs.KeyLemmas.{key_from_parts}
use Rattle.file_table.proofs.record.Record.key.Goals as goal

pub returns-clause-parts : goal.returns-clause-parts
returns-clause-parts g c =
    let first = c.level.ensures.parts c.requires.file in
    let own = c.with_index.ensures.parts in
    record {
      generation_is = own.generation_is ∙ first.generation_is;
      file_is = own.file_is ∙ first.file_is;
      level_is = own.level_is ∙ first.level_is;
      index_is = own.index_is;
    }

pub returns-clause-value : goal.returns-clause-value
returns-clause-value g c = key_from_parts _ _ _ _ _ (returns-clause-parts g c)
