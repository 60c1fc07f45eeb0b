use Rattle.std.proofs.Common.{refl, arith}
use Rattle.tex_make.specs.Pyramid.{seen}
use Rattle.tex_make.specs.Texture.{level_tiles}
use Rattle.tex_make.specs.Sink.{sink_state}
use Rattle.tex_make.proofs.Joins.{joined_err, joined_more}
use Rattle.tex_make.proofs.tiles.put_levels.Goals as goal

pub returns-in_err-put_level : goal.returns-in_err-put_level
returns-in_err-put_level g c =
    let texture = c.args.texture.now in
    let p = seen texture.picture.now in
    let state = sink_state g.O.Sink.faults g.O.Sink.holds in
    let puts = c.in_err-put_level.ensures.puts in
    joined_err (level_tiles p texture.side) p.levels c.loop-level.level
    (level_tiles p texture.side c.loop-level.level) (state c.args.out.now) (state c.loop-level.out)
    (state c.put_level.new.out) c.from_residual.result
    (omega (arith, c.loop-level-test.true, c.len-level-end.ensures)) refl
    c.from_residual.ensures.0 c.loop-level.invariant.written c.loop-level.invariant.faults
    puts.part puts.cause

pub loop-level-preserved : goal.loop-level-preserved
loop-level-preserved g c =
    let texture = c.args.texture.now in
    let p = seen texture.picture.now in
    let puts = c.in_ok-put_level.ensures.puts in
    record {
      size = omega (arith, c.in_ok-put_level.ensures.long, c.loop-level.invariant.size);
      written = joined_more (level_tiles p texture.side) c.loop-level.level
          (level_tiles p texture.side c.loop-level.level) _ _ _ refl
          c.loop-level.invariant.written puts.ok;
      faults = omega (arith, c.loop-level.invariant.faults, puts.faults);
    }
