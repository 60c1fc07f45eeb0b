use Rattle.std.proofs.Common.{refl, arith}
use Rattle.std.specs.Prelude.{not, nat_eq}
use Rattle.tiff_format.specs.Texel.{greatest_sample}
use Rattle.unpack.specs.Plane.{plane_sample}
use Rattle.unpack.specs.Sample.{depth_of}
use Rattle.unpack.proofs.PlaneSamples.{stand_more, place_there}
use Rattle.unpack.proofs.plane.unpack_plane.Goals as goal

pub loop-k-preserved : goal.loop-k-preserved
loop-k-preserved g c =
    stand_more
    (plane_sample (not (nat_eq g.row.WIDE 0)) (not (nat_eq g.row.BIG 0)) c.args.flip
    c.args.src.now)
    (greatest_sample (depth_of (not (nat_eq g.row.WIDE 0)))) c.args.first g.row.STEP c.loop-k.k
    c.sample.result c.args.dst.now c.loop-k.dst
    c.requires.first (omega (
      arith,
      place_there c.loop-k.k g.row.STEP c.args.first _ c.requires.first
          c.loop-k-test.true,
    )) c.sample.ensures.value c.sample.ensures.low c.loop-k.invariant
