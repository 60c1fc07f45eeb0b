use Rattle.std.proofs.Common.{arith}
use Rattle.tile_load.proofs.PartRows.{row_ends}
use Rattle.tile_load.proofs.part_place.PartPlace.start.Goals as goal

pub overflow_add-row : goal.overflow_add-row
overflow_add-row c =
    let bottom = c.args.self.now.known.bottom in
    let down = c.args.self.now.known.cell_down in
    omega arith

pub overflow_mul-result-2 : goal.overflow_mul-result-2
overflow_mul-result-2 c =
    let place = c.args.self.now in
    let few = place.known.few in
    omega (
      arith,
      row_ends place.part place.cell place.channels place.known c.args.j c.requires,
    )

pub returns-clause-inside : goal.returns-clause-inside
returns-clause-inside c =
    let place = c.args.self.now in
    row_ends place.part place.cell place.channels place.known c.args.j c.requires
