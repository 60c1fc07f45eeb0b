use Rattle.std.proofs.Common.{arith}
use Rattle.tex_make.proofs.Sinks.{part_of_bytes, more_of_bytes, rises_after, puts_err}
use Rattle.tex_make.specs.Sink.{sink_state}
use Rattle.tex_make.proofs.tiles.put_bytes.Goals as goal

pub returns-in_err-put : goal.returns-in_err-put
returns-in_err-put g c =
    let state = sink_state g.O.Sink.faults g.O.Sink.holds in
    puts_err c.args.bytes.now (state c.args.out.now) (state c.put.new.self) c.from_residual.result
    c.from_residual.ensures.0
    (part_of_bytes c.args.bytes.now c.parts.at c.min.result _ _ _ c.parts.invariant.written
    c.in_err-put.ensures.part)
    (rises_after _ _ _ c.parts.invariant.faults c.in_err-put.ensures.cause)

pub parts-preserved : goal.parts-preserved
parts-preserved g c = record {
  inside = omega (arith, c.min.ensures);
  written = more_of_bytes c.args.bytes.now c.parts.at c.min.result _ _ _ c.parts.invariant.written
      c.in_ok-put.ensures.ok;
  faults = omega (arith, c.parts.invariant.faults, c.in_ok-put.ensures.faults);
}
