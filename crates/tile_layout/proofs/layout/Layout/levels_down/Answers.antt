use Rattle.std.proofs.Common.{◌≡◌, ◌≤◌, ◌<◌, max, arith, ap, sym}
use Rattle.tiff_format.specs.Block.{Level}
use Rattle.tiff_format.specs.Level.{max_levels}
use Rattle.tile_layout.specs.Kept.{level_in}
use Rattle.tile_layout.proofs.SingleLemmas.{levels_down_is, few_halvings}
use Rattle.tile_layout.proofs.layout.Layout.levels_down.Goals as goal

few : (c : goal.After-ilog2) → c.ilog2.result < max_levels
few c =
    let dir = c.dir-dir.result.now in
    few_halvings c.max.result c.ilog2.result
    (omega (arith, dir.shape_in.width.high, dir.shape_in.height.high)) c.ilog2.ensures.power_le

pub returns-clause-value : goal.returns-clause-value
returns-clause-value c =
    let file = c.args.self.now in
    let dir = c.dir-dir.result.now in
    let first = (level_in file 0).shape in
    let w : dir.width ≡ first.width = ap (λ (l : Level). l.shape.width) c.dir-dir.ensures.value in
    let h : dir.height ≡ first.height =
    ap (λ (l : Level). l.shape.height) c.dir-dir.ensures.value in
    let w-some : 1 ≤ first.width = omega (arith, w, dir.shape_in.width.low) in
    let h-some : 1 ≤ first.height = omega (arith, h, dir.shape_in.height.low) in
    let longer : max first.width first.height ≡ c.max.result = omega (arith, w, h) in
    sym (levels_down_is file c.ilog2.result c.requires w-some h-some (few c)
    (rw longer c.ilog2.ensures.power_le) (rw longer c.ilog2.ensures.next_power_gt))

pub returns-clause-in_range : goal.returns-clause-in_range
returns-clause-in_range c = record { low = omega arith; high = omega (arith, few c) }
