use Rattle.tex_aniso.proofs.PlaceLemmas.{kept}
use Rattle.tex_aniso.proofs.placing.offset_of.Goals as goal

pub overflow_cast-result : goal.overflow_cast-result
overflow_cast-result c =
    (kept c.args.n c.args.j c.args.d _ _ _ _ _ c.requires.below c.requires.few c.requires.axis
    c.from.ensures c.from-2.ensures c.from-3.ensures c.from-4.ensures c.div_euclid.ensures).fits

pub returns-clause-value : goal.returns-clause-value
returns-clause-value c =
    (kept c.args.n c.args.j c.args.d _ _ _ _ _ c.requires.below c.requires.few c.requires.axis
    c.from.ensures c.from-2.ensures c.from-3.ensures c.from-4.ensures c.div_euclid.ensures).value

pub returns-clause-low : goal.returns-clause-low
returns-clause-low c =
    (kept c.args.n c.args.j c.args.d _ _ _ _ _ c.requires.below c.requires.few c.requires.axis
    c.from.ensures c.from-2.ensures c.from-3.ensures c.from-4.ensures c.div_euclid.ensures).low

pub returns-clause-high : goal.returns-clause-high
returns-clause-high c =
    (kept c.args.n c.args.j c.args.d _ _ _ _ _ c.requires.below c.requires.few c.requires.axis
    c.from.ensures c.from-2.ensures c.from-3.ensures c.from-4.ensures c.div_euclid.ensures).high
