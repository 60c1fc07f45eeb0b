use Rattle.texel_filter.proofs.writing.write_one.Goals as goal

pub returns-in-Some-Some-clause-told : goal.returns-in-Some-Some-clause-told
returns-in-Some-Some-clause-told g c = λ values is.
    rw (c.in-Some-Some.is-0, c.in-Some-Some.is-1) (c.write_texel.ensures.told values is)
