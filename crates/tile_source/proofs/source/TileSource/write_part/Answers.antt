-- The values are those of the samples, which are the texel's.
use Rattle.std.proofs.Common.{◌≡◌, rules, length}
use Rattle.tile_source.proofs.UncachedLemmas.{part_values, stored_texel}
use Rattle.tile_source.proofs.source.TileSource.write_part.Goals as goal

pub returns-clause-value : goal.returns-clause-value
returns-clause-value g c bytes held =
    let known = c.args.self.now.picture.now in
    let count : length c.take_samples.new.samples ≡ c.channels-channels.result = search rules in
    part_values g.T.W.World.files g.T.W.World.lawful known c.args.at c.depth-depth.result
    c.take_samples.new.samples c.write_channels.new.out bytes c.depth-depth.ensures.told
    (stored_texel known c.args.at (length c.take_samples.new.samples) c.requires.inside
    c.requires.stored (rw count c.channels-channels.ensures.value))
    c.depth-depth.ensures.value c.in_ok-take_samples.ensures.told c.write_channels.ensures.values held
