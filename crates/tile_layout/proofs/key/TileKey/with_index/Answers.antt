use Rattle.std.proofs.Common.{◌≡◌, ap, ◌∙◌, arith}
use Rattle.tile_layout.specs.Key.{index_of}
use Rattle.tile_layout.proofs.KeyLemmas.{in_level_low, in_level_parts, in_level_key}
use Rattle.tile_layout.proofs.key.TileKey.with_index.Goals as goal

pub overflow_add-result : goal.overflow_add-result
overflow_add-result c =
    let first : index_of c.self.inside.number ≡ 0 = ap index_of c.self.view_is ∙ c.requires.first in
    omega (
      arith,
      c.from.ensures,
      in_level_low c.self.inside.number c.args.index c.self.invariant first c.requires.index,
    )

pub invariant_of-result : goal.invariant_of-result
invariant_of-result c =
    let first : index_of c.self.inside.number ≡ 0 = ap index_of c.self.view_is ∙ c.requires.first in
    rw c.from.ensures
    (in_level_key c.self.inside.number c.args.index c.self.invariant first c.requires.index)

pub returns-clause-parts : goal.returns-clause-parts
returns-clause-parts c =
    let first : index_of c.self.inside.number ≡ 0 = ap index_of c.self.view_is ∙ c.requires.first in
    rw (← c.self.view_is, c.from.ensures)
    (in_level_parts c.self.inside.number c.args.index c.self.invariant first c.requires.index)

pub returns-clause-valid : goal.returns-clause-valid
returns-clause-valid c = invariant_of-result c
