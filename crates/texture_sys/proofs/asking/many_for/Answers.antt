-- The lookups before are answered, and one more.
use Rattle.std.proofs.Common.{refl, ◌∙◌, arith, ◌+◌}
use Rattle.texel_filter.specs.Image.{image_of}
use Rattle.texel_filter.proofs.CallLemmas.{sizes_after, values_after}
use Rattle.texture_sys.specs.Batch.{batch_visits_upto, batch_channels}
use Rattle.texture_sys.proofs.BatchLemmas.{refused_in_batch, answered_in_batch, answered_more, ends_before}
use Rattle.texture_sys.proofs.asking.many_for.Goals as goal

pub loop-i-init : goal.loop-i-init
unfolding batch_visits_upto
loop-i-init g c = record {
  told = λ v is i channel below. absurd (omega (arith, below));
  left = refl;
  long = refl;
  rest = λ k le. refl;
}

pub returns-in-Err-clause-left : goal.returns-in-Err-clause-left
returns-in-Err-clause-left g c =
    let b = c.args.batch.now in
    let i = c.loop-i.i in
    let sizes = g.F.Fetch.sizes c.args.f.now in
    let before = c.loop-i.invariant.left in
    let same = sizes_after g.met.F.Fetch.lawful c.args.f.now c.loop-i.f
    (batch_visits_upto sizes b i) before in
    refused_in_batch g.F.Fetch.leaves g.F.Fetch.refuses c.args.f.now c.loop-i.f c.place_from.new.f
    sizes b i c.in-Err.error (omega arith) before (rw same at c.in-Err.ensures.left)

pub loop-i-preserved : goal.loop-i-preserved
loop-i-preserved g c =
    let b = c.args.batch.now in
    let i = c.loop-i.i in
    let sizes = g.F.Fetch.sizes c.args.f.now in
    let before = c.loop-i.invariant.left in
    let channels = c.channels-channels.ensures in
    let same = sizes_after g.met.F.Fetch.lawful c.args.f.now c.loop-i.f
    (batch_visits_upto sizes b i) before in
    let still = values_after g.met.F.Fetch.lawful c.args.f.now c.loop-i.f
    (batch_visits_upto sizes b i) before in
    let more = ends_before i (i + 1) (batch_channels b.options) (omega arith) in
    record {
      told = λ v is. answered_more (image_of sizes v) b i c.loop-i.out c.place_from.new.out
          (c.loop-i.invariant.told v is)
          (rw (same, channels) at (c.in_default.ensures.told v (still ∙ is)))
          (rw channels at c.in_default.ensures.before);
      left = answered_in_batch g.F.Fetch.leaves c.args.f.now c.loop-i.f c.place_from.new.f sizes b i
          before (rw same at c.in_default.ensures.left);
      long = c.in_default.ensures.long ∙ c.loop-i.invariant.long;
      rest = λ k le. (rw channels at c.in_default.ensures.behind) k (omega (arith, le, more))
          ∙ c.loop-i.invariant.rest k (omega (arith, le, more));
    }
