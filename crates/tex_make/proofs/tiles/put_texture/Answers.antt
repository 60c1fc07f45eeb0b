use Rattle.std.proofs.Common.{List, ℕ, subst}
use Rattle.tex_world.specs.Stream.{Appends, AppendsPart}
use Rattle.tex_make.specs.Joined.{joined}
use Rattle.tex_make.specs.Pyramid.{seen}
use Rattle.tex_make.specs.Texture.{head_of, level_tiles, texture_of}
use Rattle.tex_make.specs.Sink.{sink_state}
use Rattle.tex_make.proofs.Sinks.{puts_err, puts_then, part_of_more}
use Rattle.tex_make.proofs.tiles.put_texture.Goals as goal

pub returns-in_err-put_bytes : goal.returns-in_err-put_bytes
unfolding texture_of
returns-in_err-put_bytes g c =
    let texture = c.args.texture.now in
    let p = seen texture.picture.now in
    let state = sink_state g.O.Sink.faults g.O.Sink.holds in
    let puts = c.in_err-put_bytes.ensures in
    puts_err (texture_of p texture.side) (state c.args.out.now) (state c.put_bytes.new.out)
    c.from_residual.result c.from_residual.ensures.0
    (part_of_more (head_of p texture.side) (joined (level_tiles p texture.side) p.levels) _ _
    (subst (λ (xs : List ℕ). AppendsPart xs (g.O.Sink.holds c.args.out.now)
    (g.O.Sink.holds c.put_bytes.new.out)) c.requires.head puts.part)) puts.cause

pub returns : goal.returns
unfolding texture_of
returns g c =
    let texture = c.args.texture.now in
    let p = seen texture.picture.now in
    let state = sink_state g.O.Sink.faults g.O.Sink.holds in
    let puts = c.in_ok-put_bytes.ensures in
    puts_then (head_of p texture.side) (joined (level_tiles p texture.side) p.levels)
    (state c.args.out.now) (state c.put_bytes.new.out) (state c.put_levels.new.out)
    c.put_levels.result
    (subst (λ (xs : List ℕ). Appends xs (g.O.Sink.holds c.args.out.now)
    (g.O.Sink.holds c.put_bytes.new.out)) c.requires.head puts.ok) puts.faults
    c.put_levels.ensures
