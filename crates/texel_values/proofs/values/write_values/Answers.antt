-- The values are those of the samples of the texel's row.
use Rattle.tile_store.specs.SampleRow.{samples_of}
use Rattle.texel_values.proofs.ValueLemmas.{values_of_samples, told_values}
use Rattle.texel_values.proofs.values.write_values.Goals as goal

pub returns-clause-values : goal.returns-clause-values
returns-clause-values g c =
    values_of_samples c.args.tile.now c.args.depth c.args.at (samples_of c.row.result)
    c.write_texel.new.out c.row.ensures.value c.write_texel.ensures.values

pub returns-clause-told : goal.returns-clause-told
returns-clause-told g c =
    told_values g.W.World.files c.args.tile.now c.args.depth c.args.at (samples_of c.row.result)
    c.write_texel.new.out c.key.ensures.told c.row.ensures.value c.row.ensures.told
    c.write_texel.ensures.values
