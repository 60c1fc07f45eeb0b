-- Each value is 0.
use Rattle.image_cache.proofs.FillLemmas.{zeros_beside}
use Rattle.image_cache.proofs.pixels.zeros.Goals as goal

pub returns-clause-zero : goal.returns-clause-zero
returns-clause-zero c =
    zeros_beside c.args.area.now c.in_ok-values.values.items c.count.result c.in_ok-values.ensures c.count.ensures
