-- The lookup was made before the record was kept.
use Rattle.std.proofs.Common.{◌≡◌, ◌∙◌, ap, rules}
use Rattle.file_table.specs.Record.{RecordState}
use Rattle.tile_source.specs.Source.{pass_tap}
use Rattle.texture_sys.proofs.LooksLemmas.{kept_ok, kept_err}
use Rattle.texture_sys.proofs.texturing.lookup_at.Goals as goal

pub returns-in-Ok-clause-left : goal.returns-in-Ok-clause-left
returns-in-Ok-clause-left g c =
    let k : RecordState = c.args.on.known.value in
    let of_known : c.deref.result.now ≡ k = search rules in
    kept_ok g.T.W.World.files c.args.cache.now.gate k c.args.on.lookups.now
    (pass_tap c.args.pass.now (g.T.Tap.state c.args.tap.now))
    (pass_tap c.look_up-looked.new.pass (g.T.Tap.state c.look_up-looked.new.tap))
    c.keep.new.pass c.args.out.now c.look_up-looked.new.out c.keep.ensures.same c.keep.ensures.view
    c.generation-generation.result
    (c.generation-generation.ensures.value ∙ ap (λ (x : RecordState). x.generation) of_known)
    c.in-Ok.ensures.left

pub returns-in-Err-clause-left : goal.returns-in-Err-clause-left
returns-in-Err-clause-left g c =
    kept_err g.T.W.World.files c.args.cache.now.gate c.args.on.known.value c.args.on.lookups.now
    (pass_tap c.args.pass.now (g.T.Tap.state c.args.tap.now))
    (pass_tap c.look_up-looked.new.pass (g.T.Tap.state c.look_up-looked.new.tap))
    c.keep.new.pass c.args.out.now c.look_up-looked.new.out c.keep.ensures.same c.keep.ensures.view
    c.in-Err.stopped c.generation-generation.result c.in-Err.ensures.left
