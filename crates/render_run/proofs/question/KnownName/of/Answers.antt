-- The name of a lookup in the file of a number is known.
use Rattle.std.proofs.Common.{◌≡◌, Some, rules}
use Rattle.render_run.specs.Question.{own_file_in}
use Rattle.render_run.proofs.KnownLemmas.{known_tex, known_texd}
use Rattle.render_run.proofs.question.KnownName.of.Goals as goal

pub returns-in-Tex : goal.returns-in-Tex
returns-in-Tex g c =
    let is : own_file_in c.args.task.now ≡ Some c.in-Some.file = search rules in
    rw (c.named.ensures.name, c.named.ensures.file)
    (known_tex g.F.W.World.files (g.F.Folder.state c.args._folder.now) c.in-Some.file
    c.args.request.now c.args.task.now is c.requires.value c.requires.given
    c.in-Tex.request c.in-Tex.name c.in-Tex.is)

pub returns-in-Texd : goal.returns-in-Texd
returns-in-Texd g c =
    let is : own_file_in c.args.task.now ≡ Some c.in-Some.file = search rules in
    rw (c.named-in-Texd.ensures.name, c.named-in-Texd.ensures.file)
    (known_texd g.F.W.World.files (g.F.Folder.state c.args._folder.now) c.in-Some.file
    c.args.request.now c.args.task.now is c.requires.value c.requires.given
    c.in-Texd.request c.in-Texd.name c.in-Texd.is)
