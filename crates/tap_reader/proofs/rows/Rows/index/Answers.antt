use Rattle.std.proofs.Common.{arith, ◌+◌, ◌/◌, ◌%◌, ap, ◌∙◌}
use Rattle.std.proofs.lemmas.Nat.{div-add-mod'}
use Rattle.tex_world.specs.Tap.{place_in_rows}
use Rattle.tap_reader.proofs.RowPlaces.{place_of_byte}
use Rattle.tap_reader.proofs.rows.Rows.index.Goals as goal

pub returns : goal.returns
returns c = λ j low.
    let rows = c.args.self.now in
    let behind = c.in_ok-behind.behind in
    let line = behind / rows.stride in
    let column = behind % rows.stride in
    ap (λ n. place_in_rows rows.at rows.stride rows.row n) (omega arith)
    ∙ place_of_byte rows.at rows.stride rows.row line (column + j) (omega arith)
    ∙ omega (arith, div-add-mod' behind rows.stride, c.in_ok-behind.ensures)
