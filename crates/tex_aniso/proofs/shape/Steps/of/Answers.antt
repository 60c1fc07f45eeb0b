use Rattle.tex_aniso.proofs.DigitLemmas.{step_below}
use Rattle.tex_aniso.proofs.shape.Steps.of.Goals as goal

pub returns-clause-in_range : goal.returns-clause-in_range
returns-clause-in_range c =
    let ux = c.texels_from_edge.ensures in
    let vx = c.texels_from_edge-2.ensures in
    let uy = c.texels_from_edge-3.ensures in
    let vy = c.texels_from_edge-4.ensures in
    record {
      ux = step_below c.texels_from_edge.result ux.low ux.high;
      vx = step_below c.texels_from_edge-2.result vx.low vx.high;
      uy = step_below c.texels_from_edge-3.result uy.low uy.high;
      vy = step_below c.texels_from_edge-4.result vy.low vy.high;
    }
