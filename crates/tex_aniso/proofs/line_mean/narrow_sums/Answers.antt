use Rattle.std.proofs.Common.{refl, ap, ◌∙◌, arith, rules}
use Rattle.texel_filter.specs.Image.{image_of}
use Rattle.texel_filter.proofs.CallLemmas.{sizes_after, values_after}
use Rattle.tex_aniso.specs.Line.{line_sum, line_visits_upto}
use Rattle.tex_aniso.proofs.MeanLemmas.{zeros_at}
use Rattle.tex_aniso.proofs.LineLemmas.{total_more, total_within, line_sum_more, refused_at}
use Rattle.tex_aniso.proofs.LineLemmas.{answered_at, probe_channels, probe_lod}
use Rattle.tex_aniso.proofs.line_mean.narrow_sums.Goals as goal

pub loop-j-init : goal.loop-j-init
unfolding line_sum line_visits_upto
loop-j-init g c = record {
  told = λ v is k below. rw (zeros_at k) (omega arith);
  high = record { first = λ k. omega (arith, zeros_at k); second = λ k. omega (arith, zeros_at k) };
  left = refl;
}

pub add_levels-requires-clause-channels : goal.add_levels-requires-clause-channels
add_levels-requires-clause-channels g c =
    let same = ap (λ q. q.nch) c.probe-r.ensures.value ∙ probe_channels c.args.line.now _ in
    rw same c.requires.line.channels

pub add_levels-requires-clause-levels : goal.add_levels-requires-clause-levels
add_levels-requires-clause-levels g c =
    let line = c.args.line.now in
    let lod = ap (λ q. q.lod) c.probe-r.ensures.value ∙ probe_lod line _ in
    let same = sizes_after g.met.F.Fetch.lawful c.args.f.now c.loop-j.f _ c.loop-j.invariant.left in
    rw (lod, same) c.requires.levels

pub add_levels-requires-clause-few : goal.add_levels-requires-clause-few
add_levels-requires-clause-few g c =
    let same = sizes_after g.met.F.Fetch.lawful c.args.f.now c.loop-j.f _ c.loop-j.invariant.left in
    rw same c.requires.few

pub add_levels-requires-clause-room : goal.add_levels-requires-clause-room
add_levels-requires-clause-room g c =
    let line = c.args.line.now in
    let within = total_within line c.loop-j.j line.count (omega arith) in
    record {
      first = λ k. omega (
        arith,
        c.loop-j.invariant.high.first k,
        within,
        c.requires.narrow,
      );
      second = λ k. omega (
        arith,
        c.loop-j.invariant.high.second k,
        within,
        c.requires.narrow,
      );
    }

pub returns-in_err-add_levels-clause-left : goal.returns-in_err-add_levels-clause-left
returns-in_err-add_levels-clause-left g c =
    let line = c.args.line.now in
    let j = c.loop-j.j in
    let sizes = g.F.Fetch.sizes c.args.f.now in
    let before = c.loop-j.invariant.left in
    let same = sizes_after g.met.F.Fetch.lawful c.args.f.now c.loop-j.f
    (line_visits_upto sizes line j) before in
    let here = rw (same, c.probe-r.ensures.value) at c.in_err-add_levels.ensures.left in
    let h = refused_at g.F.Fetch.leaves g.F.Fetch.refuses c.args.f.now c.loop-j.f
    c.add_levels.new.f sizes line j c.in_err-add_levels.field-0.0 (omega arith) before here in
    search rules

pub loop-j-preserved : goal.loop-j-preserved
loop-j-preserved g c =
    let line = c.args.line.now in
    let j = c.loop-j.j in
    let sizes = g.F.Fetch.sizes c.args.f.now in
    let before = c.loop-j.invariant.left in
    let same = sizes_after g.met.F.Fetch.lawful c.args.f.now c.loop-j.f
    (line_visits_upto sizes line j) before in
    let still = values_after g.met.F.Fetch.lawful c.args.f.now c.loop-j.f
    (line_visits_upto sizes line j) before in
    let asked = c.probe-r.ensures.value in
    let total = total_more line j in
    record {
      told = λ v is k below.
          let grown = rw (same, asked) at (c.in_ok-add_levels.ensures.told v (still ∙ is)) in
          let more = grown k (rw (probe_channels line j) below) in
          rw (line_sum_more (image_of sizes v) line k j, ← c.loop-j.invariant.told v is k below)
          more;
      high = record {
        first = λ k. omega (
          arith,
          c.in_ok-add_levels.ensures.first k,
          c.loop-j.invariant.high.first k,
          total,
        );
        second = λ k. omega (
          arith,
          c.in_ok-add_levels.ensures.second k,
          c.loop-j.invariant.high.second k,
          total,
        );
      };
      left = answered_at g.F.Fetch.leaves c.args.f.now c.loop-j.f c.add_levels.new.f sizes line j
          before (rw (same, asked) at c.in_ok-add_levels.ensures.left);
    }
