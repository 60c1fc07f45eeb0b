use Rattle.tex_aniso.specs.Probe.{probe_at}
use Rattle.tex_aniso.proofs.NumberLemmas.{read_is, moved_is}
use Rattle.tex_aniso.proofs.placing.probe.Goals as goal

pub returns : goal.returns
unfolding probe_at
returns c =
    let r = c.args.r.now in
    let p = c.args.p.now in
    let ask = c.requires.request in
    let axis = c.requires.plan in
    let across = c.offset_of.ensures in
    let down = c.offset_of-2.ensures in
    record {
      value = rw (
        moved_is r.s c.offset_of.result ask.s across.low across.high,
        moved_is r.t c.offset_of-2.result ask.t down.low down.high,
        rw (read_is p.ds axis.ds) at across.value,
        rw (read_is p.dt axis.dt) at down.value,
      );
    }
