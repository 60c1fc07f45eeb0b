use Rattle.std.proofs.Common.{◌≡◌, ℕ, Option, None, sym, subst}
use Rattle.request_lang.specs.declared.answer.Answer.TheVariants.{NoSuchFile}
use Rattle.render_run.specs.declared.question.Task.TheVariants.{Ask, Tile}
use Rattle.render_run.specs.Posts.{WorkerAnswers}
use Rattle.render_run.proofs.WorkerLemmas.{none_found, no_tile_found, synced, unnamed}
use Rattle.render_run.proofs.worker.answer.Goals as goal

pub returns-in-Ask-None-default : goal.returns-in-Ask-None-default
returns-in-Ask-None-default g c =
    let none : c.in-Ask-None-default.field-0 ≡ None =
    rw c.in-Ask-None-default.is at c.in-Ask-None-default.field-0-is in
    rw c.in-Ask-None-default.is
    (subst (λ (n : Option ℕ). WorkerAnswers g.T.Tap.state g.T.W.World.files (Ask n c.in-Ask-None-default.field-1) c.args.caller.now
    c.args.caller.now NoSuchFile) (sym none)
    (none_found g.T.Tap.state g.T.W.World.files c.args.caller.now
    c.in-Ask-None-default.field-1))

pub returns-in-Tile-None-default : goal.returns-in-Tile-None-default
returns-in-Tile-None-default g c =
    let none : c.in-Tile-None-default.field-0 ≡ None =
    rw c.in-Tile-None-default.is at c.in-Tile-None-default.field-0-is in
    rw c.in-Tile-None-default.is
    (subst (λ (n : Option ℕ). WorkerAnswers g.T.Tap.state g.T.W.World.files (Tile n c.in-Tile-None-default.field-1) c.args.caller.now
    c.args.caller.now NoSuchFile) (sym none)
    (no_tile_found g.T.Tap.state g.T.W.World.files c.args.caller.now
    c.in-Tile-None-default.field-1))

pub returns-in-Unnamed : goal.returns-in-Unnamed
returns-in-Unnamed g c =
    rw c.in-Unnamed.is (unnamed g.T.Tap.state g.T.W.World.files c.args.caller.now)

pub returns-in-Sync : goal.returns-in-Sync
returns-in-Sync g c =
    rw c.in-Sync.is (synced g.T.Tap.state g.T.W.World.files c.args.caller.now)
