use Rattle.std.proofs.Common.{refl, ap, ◌∙◌, arith, rules}
use Rattle.texel_filter.specs.Image.{image_of}
use Rattle.texel_filter.proofs.CallLemmas.{sizes_after, values_after}
use Rattle.tex_aniso.specs.Line.{line_sum, line_visits_upto}
use Rattle.tex_aniso.proofs.MeanLemmas.{zeros_at}
use Rattle.tex_aniso.proofs.LineLemmas.{total_more, total_within, line_sum_more, refused_at}
use Rattle.tex_aniso.proofs.LineLemmas.{answered_at, probe_channels}
use Rattle.tex_aniso.proofs.line_mean.wide_sums.Goals as goal

pub loop-j-init : goal.loop-j-init
unfolding line_sum line_visits_upto
loop-j-init g c = record {
  told = λ v is k below. zeros_at k;
  high = λ k. omega (arith, zeros_at k);
  left = refl;
}

pub add_probe-requires-clause-channels : goal.add_probe-requires-clause-channels
add_probe-requires-clause-channels g c =
    let same = ap (λ q. q.nch) c.probe-r.ensures.value ∙ probe_channels c.args.line.now _ in
    rw same c.requires.line.channels

pub add_probe-requires-clause-room : goal.add_probe-requires-clause-room
add_probe-requires-clause-room g c = λ k.
    let line = c.args.line.now in
    let within = total_within line c.loop-j.j line.count (omega arith) in
    omega (arith, c.loop-j.invariant.high k, within, c.requires.weights)

pub returns-in_err-add_probe-clause-left : goal.returns-in_err-add_probe-clause-left
returns-in_err-add_probe-clause-left g c =
    let line = c.args.line.now in
    let j = c.loop-j.j in
    let sizes = g.F.Fetch.sizes c.args.f.now in
    let before = c.loop-j.invariant.left in
    let same = sizes_after g.met.F.Fetch.lawful c.args.f.now c.loop-j.f
    (line_visits_upto sizes line j) before in
    let here = rw (same, c.probe-r.ensures.value) at c.in_err-add_probe.ensures.left in
    let h = refused_at g.F.Fetch.leaves g.F.Fetch.refuses c.args.f.now c.loop-j.f
    c.add_probe.new.f sizes line j c.in_err-add_probe.field-0.0 (omega arith) before here in
    search rules

pub loop-j-preserved : goal.loop-j-preserved
loop-j-preserved g c =
    let line = c.args.line.now in
    let j = c.loop-j.j in
    let sizes = g.F.Fetch.sizes c.args.f.now in
    let before = c.loop-j.invariant.left in
    let same = sizes_after g.met.F.Fetch.lawful c.args.f.now c.loop-j.f
    (line_visits_upto sizes line j) before in
    let still = values_after g.met.F.Fetch.lawful c.args.f.now c.loop-j.f
    (line_visits_upto sizes line j) before in
    let asked = c.probe-r.ensures.value in
    record {
      told = λ v is k below.
          let grown = rw (same, asked) at (c.in_ok-add_probe.ensures.told v (still ∙ is)) in
          let more = grown k (rw (probe_channels line j) below) in
          rw (line_sum_more (image_of sizes v) line k j, ← c.loop-j.invariant.told v is k below)
          more;
      high = λ k. omega (
        arith,
        c.in_ok-add_probe.ensures.high k,
        c.loop-j.invariant.high k,
        total_more line j,
      );
      left = answered_at g.F.Fetch.leaves c.args.f.now c.loop-j.f c.add_probe.new.f sizes line j
          before (rw (same, asked) at c.in_ok-add_probe.ensures.left);
    }
