use Rattle.std.proofs.Common.{arith, ◌<◌, ◌∙◌, ap, get_or, ℕ}
use Rattle.std.proofs.lemmas.List.{get_or-take, length-take}
use Rattle.tap_reader.proofs.RowPlaces.{place_of_first}
use Rattle.tap_reader.proofs.ahead_reader.first_of.Goals as goal

pub returns-clause-told : goal.returns-clause-told
returns-clause-told c = λ all are k low.
    let bytes = c.args.bytes.now in
    let rows = c.args.rows in
    let below : k < c.args.size =
    omega (arith, low, length-take c.args.size bytes) in
    get_or-take c.args.size bytes k 0 below
    ∙ are k (omega (arith, below, c.requires.there))
    ∙ ap (λ (n : ℕ). get_or all n 0)
    (place_of_first rows.at rows.stride rows.row k (omega (arith, below, c.requires.row)))
