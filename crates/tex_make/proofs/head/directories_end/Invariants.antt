use Rattle.std.proofs.Common.{◌≡◌}
use Rattle.tex_make.specs.Pyramid.{seen}
use Rattle.tex_make.specs.Texture.{directory_at}
use Rattle.tex_make.proofs.head.directories_end.Given as goal

abbrev pub invariant-loop-level : goal.invariant-loop-level
invariant-loop-level l =
    l.at ≡ directory_at (seen l.texture.picture.now) l.texture.side l.level
