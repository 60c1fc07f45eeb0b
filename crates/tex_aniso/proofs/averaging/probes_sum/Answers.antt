use Rattle.std.proofs.Common.{◌≡◌, ◌+◌, ◌-◌, refl, ap, ◌∙◌, arith, rules}
use Rattle.texel_filter.specs.Image.{image_of}
use Rattle.texel_filter.specs.Visits.{trilinear_visits}
use Rattle.texel_filter.specs.Fine.{fine_of}
use Rattle.texel_filter.proofs.CallLemmas.{refused_append, each_append, sizes_after, values_after}
use Rattle.tex_aniso.specs.Probe.{probe_at}
use Rattle.tex_aniso.specs.Mean.{probes_sum, probes_visits}
use Rattle.tex_aniso.proofs.MeanLemmas.{zeros_at, channels_at, sum_more, visits_more, refused_among}
use Rattle.tex_aniso.proofs.averaging.probes_sum.Goals as goal

pub loop-j-init : goal.loop-j-init
unfolding probes_sum probes_visits
loop-j-init g c = record {
  told = λ v is k below. zeros_at k;
  high = λ k. omega (arith, zeros_at k);
  left = refl;
}

pub add_probe-requires-clause-channels : goal.add_probe-requires-clause-channels
add_probe-requires-clause-channels g c =
    let asked = c.fine-request.ensures.value ∙ ap fine_of c.probe.ensures.value in
    let same = ap (λ q. q.nch) asked ∙ channels_at c.args.r.now c.args.p.now _ in
    rw same c.requires.request.channels

pub returns-in_err-add_probe-clause-left : goal.returns-in_err-add_probe-clause-left
returns-in_err-add_probe-clause-left g c =
    let r = c.args.r.now in
    let p = c.args.p.now in
    let j = c.loop-j.j in
    let sizes = g.F.Fetch.sizes c.args.f.now in
    let before = c.loop-j.invariant.left in
    let same = sizes_after g.met.F.Fetch.lawful c.args.f.now c.loop-j.f
    (probes_visits sizes r p j) before in
    let asked = c.fine-request.ensures.value ∙ ap fine_of c.probe.ensures.value in
    let here = rw (same, asked) at c.in_err-add_probe.ensures.left in
    let among = refused_append g.F.Fetch.leaves g.F.Fetch.refuses c.args.f.now c.loop-j.f
    c.add_probe.new.f (probes_visits sizes r p j) (trilinear_visits sizes (fine_of (probe_at r p j)))
    c.in_err-add_probe.field-0.0 before here in
    let upto = rw (← visits_more sizes r p j) at among in
    let all = refused_among g.F.Fetch.leaves g.F.Fetch.refuses c.args.f.now c.add_probe.new.f sizes
    r p (j + 1) (p.n - (j + 1)) c.in_err-add_probe.field-0.0 upto in
    let whole : (j + 1) + (p.n - (j + 1)) ≡ p.n = omega arith in
    let h = rw whole at all in search rules

pub loop-j-preserved : goal.loop-j-preserved
loop-j-preserved g c =
    let r = c.args.r.now in
    let p = c.args.p.now in
    let j = c.loop-j.j in
    let sizes = g.F.Fetch.sizes c.args.f.now in
    let before = c.loop-j.invariant.left in
    let same = sizes_after g.met.F.Fetch.lawful c.args.f.now c.loop-j.f
    (probes_visits sizes r p j) before in
    let still = values_after g.met.F.Fetch.lawful c.args.f.now c.loop-j.f
    (probes_visits sizes r p j) before in
    let asked = c.fine-request.ensures.value ∙ ap fine_of c.probe.ensures.value in
    record {
      told = λ v is k below.
          let grown = rw (same, asked) at (c.in_ok-add_probe.ensures.told v (still ∙ is)) in
          let more = grown k (rw (channels_at r p j) below) in
          omega (arith, sum_more (image_of sizes v) r p k j, c.loop-j.invariant.told v is k below, more);
      high = λ k. omega (arith, c.in_ok-add_probe.ensures.high k, c.loop-j.invariant.high k);
      left = rw (visits_more sizes r p j)
          (each_append g.F.Fetch.leaves c.args.f.now c.loop-j.f c.add_probe.new.f
          (probes_visits sizes r p j) (trilinear_visits sizes (fine_of (probe_at r p j))) before
          (rw (same, asked) at c.in_ok-add_probe.ensures.left));
    }
