use Rattle.std.proofs.Common.{ℕ, ◌<◌, arith, ◌∙◌, sym, ap, not}
use Rattle.std.proofs.lemmas.Bool.{not_from_true}
use Rattle.tiff_format.specs.Block.{level_with, blocks_of}
use Rattle.tiff_dirs.specs.Shape.{seen_shape}
use Rattle.tiff_dirs.specs.ReadLevel.{lies_within}
use Rattle.tiff_dirs.proofs.Finding.{first_below, none_below}
use Rattle.tiff_format.proofs.FewBlocks.{few_blocks}
use Rattle.tiff_dirs.proofs.shape.ReadShape.first_outside.Goals as goal

pub overflow_cast-i-end : goal.overflow_cast-i-end
overflow_cast-i-end c = omega (
  arith,
  c.requires,
  few_blocks (seen_shape c.args.self.now) c.args.self.now.shape_in,
)

pub returns-then-not-has_within : goal.returns-then-not-has_within
returns-then-not-has_within c =
    let level = level_with (seen_shape c.args.self.now) c.args.offsets.now in
    let within = lies_within c.args.form c.args.file level in
    let below : c.loop-i.i < blocks_of level.shape =
    omega (arith, c.loop-i-test.true, c.requires) in
    sym (first_below (λ (i : ℕ). not (within i)) (blocks_of level.shape) c.loop-i.i
    below (λ j lt. not_from_true (within j) (c.loop-i.invariant j lt))
    (ap not (sym c.has_within.ensures ∙ c.if-not-has_within.true)))

pub returns : goal.returns
returns c =
    let level = level_with (seen_shape c.args.self.now) c.args.offsets.now in
    let within = lies_within c.args.form c.args.file level in
    sym (none_below (λ (i : ℕ). not (within i)) (blocks_of level.shape)
    (λ k lt. not_from_true (within k) (c.loop-i.invariant k
    (omega (arith, lt, c.loop-i-test.false, c.requires)))))
