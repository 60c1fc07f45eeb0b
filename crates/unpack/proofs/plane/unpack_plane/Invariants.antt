use Rattle.std.specs.Prelude.{not, nat_eq}
use Rattle.tiff_format.specs.Texel.{greatest_sample}
use Rattle.unpack.specs.Plane.{plane_sample}
use Rattle.unpack.specs.Sample.{depth_of}
use Rattle.unpack.proofs.PlaneSamples.{StandTo}
use Rattle.unpack.proofs.plane.unpack_plane.Given as goal

-- the samples so far are at their places
abbrev pub invariant-loop-k : goal.invariant-loop-k
invariant-loop-k g l =
    StandTo (plane_sample (not (nat_eq g.row.WIDE 0)) (not (nat_eq g.row.BIG 0)) l.flip l.src)
    (greatest_sample (depth_of (not (nat_eq g.row.WIDE 0)))) l.first g.row.STEP l.k l.initial.dst
    l.dst
