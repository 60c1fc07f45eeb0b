use Rattle.std.proofs.Common.{arith}
use Rattle.tex_make.proofs.Places.{row_inside}
use Rattle.tex_make.proofs.level.Level.part.Goals as goal

pub slice_bounds-result-end-2 : goal.slice_bounds-result-end-2
slice_bounds-result-end-2 c =
    let level = c.args.self.now in
    let inside = row_inside c.args.x c.args.y c.min.result level.width level.height level.channels
    (omega arith) (omega (arith, c.min.ensures, c.requires)) in
    omega (arith, inside, level.known.count)
