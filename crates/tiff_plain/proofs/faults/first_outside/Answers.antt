-- The search among the blocks, one after another.
use Rattle.std.proofs.Common.{◌≡◌, ℕ, ◌+◌, ◌-◌, Bool, true, false, not, sym, ◌∙◌, arith, rules}
use Rattle.tiff_format.specs.Block.{Level, level_at, shape_at, blocks_of}
use Rattle.tiff_format.proofs.FewBlocks.{few_blocks}
use Rattle.tiff_format.specs.DirectoryFault.{block_inside}
use Rattle.tiff_plain.proofs.FindLemmas.{find_here, find_on, find_end}
use Rattle.tiff_plain.proofs.faults.first_outside.Goals as goal

pub returns-then-not-block_inside : goal.returns-then-not-block_inside
unfolding level_at
returns-then-not-block_inside c =
    let level : Level = level_at c.args.form c.args.bytes.now c.args.at in
    let test : ℕ → Bool = λ i. not (block_inside c.args.form c.args.bytes.now level i) in
    let here : test c.loop-i.i ≡ true = search rules in
    sym (find_here test c.loop-i.i (blocks_of level.shape - c.loop-i.i) (omega arith) here)
    ∙ c.loop-i.invariant

pub loop-i-preserved : goal.loop-i-preserved
unfolding level_at
loop-i-preserved c =
    let level : Level = level_at c.args.form c.args.bytes.now c.args.at in
    let test : ℕ → Bool = λ i. not (block_inside c.args.form c.args.bytes.now level i) in
    let on : test c.loop-i.i ≡ false = search rules in
    sym (find_on test c.loop-i.i (blocks_of level.shape - c.loop-i.i)
    (blocks_of level.shape - (c.loop-i.i + 1)) (omega arith) on) ∙ c.loop-i.invariant

pub returns : goal.returns
unfolding level_at
returns c =
    let level : Level = level_at c.args.form c.args.bytes.now c.args.at in
    let test : ℕ → Bool = λ i. not (block_inside c.args.form c.args.bytes.now level i) in
    sym (find_end test c.loop-i.i (blocks_of level.shape - c.loop-i.i) (omega arith))
    ∙ c.loop-i.invariant

pub overflow_cast-result : goal.overflow_cast-result
overflow_cast-result c = omega (
  arith,
  c.loop-i-test.true,
  c.blocks_at-i-end.ensures,
  few_blocks (shape_at c.args.form c.args.bytes.now c.args.at) c.requires,
)
