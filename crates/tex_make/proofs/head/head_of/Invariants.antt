use Rattle.std.proofs.Common.{◌≡◌, ◌++◌}
use Rattle.tex_make.specs.Joined.{joined}
use Rattle.tex_make.specs.Pyramid.{seen}
use Rattle.tex_make.specs.Texture.{directory_at, directory_of, header, tiles_at}
use Rattle.tex_make.proofs.head.head_of.Given as goal

abbrev pub invariant-loop-level : goal.invariant-loop-level
invariant-loop-level l =
    let p = seen l.texture.picture.now in
    let side = l.texture.side in
    record {
      bytes : l.head.items ≡ header ++ joined (directory_of p side) l.level;
      at : l.at ≡ directory_at p side l.level;
      tiles : l.tiles ≡ tiles_at p side l.level;
    }
