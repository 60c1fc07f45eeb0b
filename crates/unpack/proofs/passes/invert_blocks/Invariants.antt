use Rattle.std.proofs.Common.{◌*◌}
use Rattle.unpack.specs.Sample.{depth_of}
use Rattle.unpack.proofs.Pixels.{FollowTo}
use Rattle.unpack.proofs.passes.invert_blocks.Given as goal

abbrev pub invariant-loop-block : goal.invariant-loop-block
invariant-loop-block l =
    FollowTo (depth_of l.wide) l.channels (l.block * l.size) l.initial.dst l.dst
