use Rattle.std.proofs.Common.{◌≡◌, ℕ, ◌-◌, ◌/◌, ◌^◌, ◌≤◌, max, arith, ap, sym, refl, ◌∙◌}
use Rattle.tiff_format.specs.Block.{LevelShape, Level}
use Rattle.tile_layout.specs.Kept.{level_in}
use Rattle.tile_layout.specs.Level.{side_in}
use Rattle.tile_layout.proofs.Halving.{side_by}
use Rattle.tile_layout.proofs.SingleLemmas.{levels_down_few}
use Rattle.tile_layout.proofs.layout.Layout.size.Goals as goal

pub halved-requires-clause-times : goal.halved-requires-clause-times
halved-requires-clause-times c = omega (arith, levels_down_few c.args.self.now)

pub halved-requires-2-clause-times : goal.halved-requires-2-clause-times
halved-requires-2-clause-times c = omega (arith, levels_down_few c.args.self.now)

-- a side of the last stored level, halved, is that of the level
side_is : (c : goal.After-halved-2) (side : LevelShape → ℕ) (own result : ℕ)
    → own ≡ side (level_in c.args.self.now c.min-last.result).shape → 1 ≤ own
    → result ≡ max 1 (own / 2 ^ (c.args.level - c.min-last.result))
    → result ≡ side_in side c.args.self.now c.args.level
side_is c side own result is some halved =
    let file = c.args.self.now in
    let last = c.min-last.result in
    halved ∙ ap (λ n. max 1 (n / 2 ^ (c.args.level - last))) is
    ∙ sym (side_by side file c.args.level last (omega arith) (omega arith)
    (omega (arith, is, some)))

pub returns-clause-value : goal.returns-clause-value
returns-clause-value c =
    let dir = c.dir-dir.result.now in
    let width = side_is c (λ shape. shape.width) dir.width c.halved.result
    (ap (λ (l : Level). l.shape.width) c.dir-dir.ensures.value) dir.shape_in.width.low
    c.halved.ensures.value in
    let height = side_is c (λ shape. shape.height) dir.height c.halved-2.result
    (ap (λ (l : Level). l.shape.height) c.dir-dir.ensures.value) dir.shape_in.height.low
    c.halved-2.ensures.value in
    rw (width, height) refl
