use Rattle.tex_make.specs.Pyramid.{seen}
use Rattle.tex_make.proofs.Sizes.{short_texture}
use Rattle.tex_make.proofs.writing.put_picture.Goals as goal

pub invariant_of-texture-clause-short : goal.invariant_of-texture-clause-short
invariant_of-texture-clause-short g c =
    short_texture (seen c.args.picture.now) c.args.picture.now.known c.args.side c.requires.side
    c.requires.small
