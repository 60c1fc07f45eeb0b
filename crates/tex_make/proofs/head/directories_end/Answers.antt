use Rattle.std.proofs.Common.{◌≡◌, ◌∙◌, ap, sym, arith}
use Rattle.tex_make.specs.Pyramid.{seen}
use Rattle.tex_make.specs.Texture.{directory_at}
use Rattle.tex_make.proofs.Directories.{first_directory, first_tiles}
use Rattle.tex_make.proofs.head.directories_end.Goals as goal

pub loop-level-init : goal.loop-level-init
loop-level-init c =
    sym (first_directory (seen c.args.texture.now.picture.now) c.args.texture.now.side)

pub returns : goal.returns
returns c =
    let p = seen c.args.texture.now.picture.now in
    let side = c.args.texture.now.side in
    let all : c.loop-level.level ≡ p.levels = omega (arith, c.len-level-end.ensures) in
    c.loop-level.invariant ∙ ap (directory_at p side) all ∙ sym (first_tiles p side)
