-- A lookup of a known name is given the file of that name.
use Rattle.std.proofs.Common.{◌≡◌, rules}
use Rattle.render_run.proofs.KnownLemmas.{given_tex, given_texd}
use Rattle.render_run.proofs.question.KnownName.task.Goals as goal

pub returns-in-Tex-clause-value : goal.returns-in-Tex-clause-value
returns-in-Tex-clause-value g c =
    let same : c.in-Tex.name ≡ c.args.self.name.now = search rules in
    rw c.look.ensures
    (given_tex g.F.W.World.files (g.F.Folder.state c.args._folder.now) c.args.self.file
    c.args.self.name.now c.requires.known c.args.request.now c.in-Tex.request c.in-Tex.name
    c.in-Tex.is same)

pub returns-in-Texd-clause-value : goal.returns-in-Texd-clause-value
returns-in-Texd-clause-value g c =
    let same : c.in-Texd.name ≡ c.args.self.name.now = search rules in
    rw c.look-in-Texd.ensures
    (given_texd g.F.W.World.files (g.F.Folder.state c.args._folder.now) c.args.self.file
    c.args.self.name.now c.requires.known c.args.request.now c.in-Texd.request c.in-Texd.name
    c.in-Texd.is same)
