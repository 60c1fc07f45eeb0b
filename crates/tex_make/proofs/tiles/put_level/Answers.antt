use Rattle.std.proofs.Common.{◌≡◌, ℕ, subst, arith}
use Rattle.tex_world.specs.Stream.{Appends}
use Rattle.tex_make.specs.Joined.{joined}
use Rattle.tex_make.specs.Pyramid.{seen}
use Rattle.tex_make.specs.Texture.{tile_bytes, tile_count, level_tiles}
use Rattle.tex_make.specs.Sink.{sink_state}
use Rattle.tex_make.proofs.Sinks.{puts_ok}
use Rattle.tex_make.proofs.Joins.{joined_err, joined_more}
use Rattle.tex_make.proofs.tiles.put_level.Goals as goal

pub returns-in_err-put-clause-puts : goal.returns-in_err-put-clause-puts
unfolding level_tiles
returns-in_err-put-clause-puts g c =
    let texture = c.args.texture.now in
    let p = seen texture.picture.now in
    let state = sink_state g.O.Sink.faults g.O.Sink.holds in
    joined_err (tile_bytes p texture.side c.args.level) (tile_count p texture.side c.args.level)
    c.loop-index.index c.fill_tile.new.tile (state c.args.out.now) (state c.loop-index.out)
    (state c.put.new.self) c.from_residual.result
    (omega (arith, c.loop-index-test.true, c.tile_count-index-end.ensures.value))
    c.fill_tile.ensures.bytes c.from_residual.ensures.0 c.loop-index.invariant.written
    c.loop-index.invariant.faults c.in_err-put.ensures.part c.in_err-put.ensures.cause

pub loop-index-preserved : goal.loop-index-preserved
loop-index-preserved g c =
    let texture = c.args.texture.now in
    let p = seen texture.picture.now in
    record {
      written = joined_more (tile_bytes p texture.side c.args.level) c.loop-index.index
          c.fill_tile.new.tile _ _ _ c.fill_tile.ensures.bytes c.loop-index.invariant.written
          c.in_ok-put.ensures.ok;
      faults = omega (arith, c.loop-index.invariant.faults, c.in_ok-put.ensures.faults);
    }

pub returns-clause-puts : goal.returns-clause-puts
unfolding level_tiles
returns-clause-puts g c =
    let texture = c.args.texture.now in
    let p = seen texture.picture.now in
    let state = sink_state g.O.Sink.faults g.O.Sink.holds in
    let all : c.loop-index.index ≡ tile_count p texture.side c.args.level =
    omega (arith, c.tile_count-index-end.ensures.value) in
    puts_ok (level_tiles p texture.side c.args.level) (state c.args.out.now)
    (state c.loop-index.out)
    (subst (λ (n : ℕ). Appends (joined (tile_bytes p texture.side c.args.level) n)
    (g.O.Sink.holds c.args.out.now) (g.O.Sink.holds c.loop-index.out)) all
    c.loop-index.invariant.written) c.loop-index.invariant.faults
