use Rattle.std.proofs.Common.{arith}
use Rattle.std.proofs.lemmas.Grind.{common_steps}
use Rattle.unpack.proofs.Masks.{block_more}
use Rattle.unpack.proofs.passes.invert_blocks.Goals as goal

pub loop-block-preserved : goal.loop-block-preserved
loop-block-preserved c =
    block_more c.args.wide c.args.channels 32 c.loop-block.block _ _ c.loop-block.dst
    c.flip_range.new.dst _ c.requires.low c.white_mask-mask.ensures
    (grind (arith, common_steps)) c.flip_range.ensures.before c.flip_range.ensures.within
    c.flip_range.ensures.behind c.loop-block.invariant
