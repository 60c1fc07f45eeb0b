use Rattle.std.proofs.Common.{◌≡◌, ◌+ℤ◌, ◌*ℤ◌, w64, to_z, of_z, arith}
use Rattle.std.proofs.lemmas.Int.{to_z-of_z}
use Rattle.tex_aniso.specs.Line.{line_place}
use Rattle.tex_aniso.proofs.probe_line.place_at.Goals as goal

pub returns-clause-in_range : goal.returns-clause-in_range
returns-clause-in_range c =
    let is : to_z w64 (of_z w64 (to_z w64 (of_z w64 c.args.first) +ℤ to_z w64 (of_z w64
    (to_z w64 (of_z w64 c.from.result) *ℤ to_z w64 (of_z w64 c.args.step)))))
    ≡ line_place c.args.first c.args.step c.args.j = grind (arith, to_z-of_z) in
    rw is c.requires.place
