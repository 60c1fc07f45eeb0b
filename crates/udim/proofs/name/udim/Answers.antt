use Rattle.std.proofs.Common.{◌≡◌, Some, to_z, of_z, w32, rules}
use Rattle.udim.specs.Udim.{tile_number, within_tile}
use Rattle.udim.proofs.NameLemmas.{means_none, means_tile, is_file_of_tile}
use Rattle.udim.proofs.name.udim.Goals as goal

pub returns-in_default-tile_number-clause-value : goal.returns-in_default-tile_number-clause-value
returns-in_default-tile_number-clause-value c =
    means_none c.args.name.now c.in-Some.before.now c.in-Some.behind.now c.in-Some.ensures.some
    c.args.s c.args.t (search rules)

pub returns-in-Ok-clause-value : goal.returns-in-Ok-clause-value
returns-in-Ok-clause-value c =
    let inside : tile_number c.args.s c.args.t ≡ Some c.in-Some-tile_number.number = search rules in
    let s : to_z w32 (of_z w32 c.within_tile.result) ≡ within_tile c.args.s = search rules in
    let t : to_z w32 (of_z w32 c.within_tile-in-Ok.result) ≡ within_tile c.args.t = search rules in
    rw (s, t)
    (means_tile c.args.name.now c.in-Some.before.now c.in-Some.behind.now c.in-Some.ensures.some
    c.args.s c.args.t c.in-Some-tile_number.number c.in-Ok.name inside c.in-Ok.ensures)

pub returns-in-Err-clause-err : goal.returns-in-Err-clause-err
returns-in-Err-clause-err c =
    is_file_of_tile c.args.name.now c.in-Some.before.now c.in-Some.behind.now c.in-Some.ensures.some
    c.args.s c.args.t c.in-Some-tile_number.number (search rules)
