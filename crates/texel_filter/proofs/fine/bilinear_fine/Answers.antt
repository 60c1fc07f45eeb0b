use Rattle.std.proofs.Common.{subst, OnOk}
use Rattle.texel_filter.specs.Image.{image_of, AreValues}
use Rattle.texel_filter.specs.Filter.{bilinear_in_level}
use Rattle.texel_filter.proofs.fine.bilinear_fine.Goals as goal

pub returns-clause-told : goal.returns-clause-told
returns-clause-told g c = λ values is.
    let image = image_of (g.F.Fetch.sizes c.args.f.now) values in
    let level = rw c.levels.ensures.value at c.level_near-level.ensures.value in
    subst
    (λ l. OnOk c.write_level.result
    (AreValues (bilinear_in_level image c.args.r.now l) c.write_level.new.out))
    level (c.write_level.ensures.told values is)
