use Rattle.tex_aniso.proofs.NumberLemmas.{read_is}
use Rattle.tex_aniso.proofs.PlanLemmas.{plan_is, right_is_major, below_is_major}
use Rattle.tex_aniso.proofs.footprint.plan.Goals as goal

pub returns-then-below-right-clause-value : goal.returns-then-below-right-clause-value
returns-then-below-right-clause-value c =
    let r = c.args.r.now in
    let ask = c.requires.request in
    let right = rw (read_is r.dsdx ask.dsdx, read_is r.dtdx ask.dtdx)
    at c.step_length-right.ensures.value in
    let below = rw (read_is r.dsdy ask.dsdy, read_is r.dtdy ask.dtdy)
    at c.step_length-below.ensures.value in
    let major = rw (right, below) at c.max-major.ensures in
    let minor = rw (right, below) at c.min.ensures in
    let count = rw (major, minor) at c.probe_count-n.ensures.value in
    let lod = rw (rw major at c.probe_length.ensures.value) at c.lod_of-lod.ensures in
    let axis = right_is_major r c.args.w c.args.h (rw (right, below) at c.if-below-right.true) in
    rw (read_is r.dsdx ask.dsdx, read_is r.dtdx ask.dtdx)
    (plan_is r c.args.w c.args.h _ _ _ _ count lod axis.0 axis.1)

pub returns-then-below-right-clause-in_range : goal.returns-then-below-right-clause-in_range
returns-then-below-right-clause-in_range c =
    let r = c.args.r.now in
    let ask = c.requires.request in
    record {
      some = c.probe_count-n.ensures.some;
      few = c.probe_count-n.ensures.few;
      ds = rw (read_is r.dsdx ask.dsdx) ask.dsdx;
      dt = rw (read_is r.dtdx ask.dtdx) ask.dtdx;
    }

pub returns-else-below-right-clause-value : goal.returns-else-below-right-clause-value
returns-else-below-right-clause-value c =
    let r = c.args.r.now in
    let ask = c.requires.request in
    let right = rw (read_is r.dsdx ask.dsdx, read_is r.dtdx ask.dtdx)
    at c.step_length-right.ensures.value in
    let below = rw (read_is r.dsdy ask.dsdy, read_is r.dtdy ask.dtdy)
    at c.step_length-below.ensures.value in
    let major = rw (right, below) at c.max-major.ensures in
    let minor = rw (right, below) at c.min.ensures in
    let count = rw (major, minor) at c.probe_count-n.ensures.value in
    let lod = rw (rw major at c.probe_length.ensures.value) at c.lod_of-lod.ensures in
    let axis = below_is_major r c.args.w c.args.h (rw (right, below) at c.if-below-right.false) in
    rw (read_is r.dsdy ask.dsdy, read_is r.dtdy ask.dtdy)
    (plan_is r c.args.w c.args.h _ _ _ _ count lod axis.0 axis.1)

pub returns-else-below-right-clause-in_range : goal.returns-else-below-right-clause-in_range
returns-else-below-right-clause-in_range c =
    let r = c.args.r.now in
    let ask = c.requires.request in
    record {
      some = c.probe_count-n.ensures.some;
      few = c.probe_count-n.ensures.few;
      ds = rw (read_is r.dsdy ask.dsdy) ask.dsdy;
      dt = rw (read_is r.dtdy ask.dtdy) ask.dtdy;
    }
