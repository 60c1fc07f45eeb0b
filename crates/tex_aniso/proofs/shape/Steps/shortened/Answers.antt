use Rattle.std.proofs.Common.{◌≡◌, to_z, of_z, w64, arith}
use Rattle.std.proofs.lemmas.Int.{to_z-of_z}
use Rattle.tex_aniso.proofs.shape.Steps.shortened.Goals as goal

pub returns-clause-short : goal.returns-clause-short
returns-clause-short c =
    let steps = c.args.self.now in
    let ux : to_z w64 (of_z w64 steps.ux) ≡ steps.ux = grind (arith, to_z-of_z) in
    let vx : to_z w64 (of_z w64 steps.vx) ≡ steps.vx = grind (arith, to_z-of_z) in
    let uy : to_z w64 (of_z w64 steps.uy) ≡ steps.uy = grind (arith, to_z-of_z) in
    let vy : to_z w64 (of_z w64 steps.vy) ≡ steps.vy = grind (arith, to_z-of_z) in
    let read_ux : to_z w64 (of_z w64 c.shorten.result) ≡ c.shorten.result =
    grind (arith, to_z-of_z) in
    let read_vx : to_z w64 (of_z w64 c.shorten-2.result) ≡ c.shorten-2.result =
    grind (arith, to_z-of_z) in
    let read_uy : to_z w64 (of_z w64 c.shorten-3.result) ≡ c.shorten-3.result =
    grind (arith, to_z-of_z) in
    let read_vy : to_z w64 (of_z w64 c.shorten-4.result) ≡ c.shorten-4.result =
    grind (arith, to_z-of_z) in
    record {
      ux = rw read_ux (c.shorten.ensures.short 29 (rw ux c.requires.steps.ux));
      vx = rw read_vx (c.shorten-2.ensures.short 29 (rw vx c.requires.steps.vx));
      uy = rw read_uy (c.shorten-3.ensures.short 29 (rw uy c.requires.steps.uy));
      vy = rw read_vy (c.shorten-4.ensures.short 29 (rw vy c.requires.steps.vy));
    }
