use Rattle.std.proofs.Common.{◌*◌}
use Rattle.unpack.specs.Sample.{depth_of}
use Rattle.unpack.proofs.Pixels.{FollowTo}
use Rattle.unpack.proofs.passes.invert_first.Given as goal

abbrev pub invariant-loop-pixel : goal.invariant-loop-pixel
invariant-loop-pixel l = FollowTo (depth_of l.wide) l.channels (l.pixel * l.channels) l.initial.dst l.dst
