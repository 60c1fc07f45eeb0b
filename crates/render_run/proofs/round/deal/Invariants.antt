use Rattle.std.proofs.Common.{take}
use Rattle.std.specs.Option.{IfSome}
use Rattle.std.specs.List.{All}
use Rattle.render_run.specs.Question.{AreGivenOf}
use Rattle.render_run.specs.Answering.{MayBeGiven, IsKnown}
use Rattle.render_run.proofs.round.deal.Given as goal

-- what is given of the requests so far, and the name that is known
abbrev pub invariant-loop-request : goal.invariant-loop-request
invariant-loop-request g l = record {
  tasks : AreGivenOf (g.F.Folder.state l.folder).number_of (take l.request-index l.requests)
      l.tasks.items;
  given : All (MayBeGiven g.F.W.World.files (g.F.Folder.state l.folder).size) l.tasks.items;
  known : IfSome l.known
      (λ k. IsKnown g.F.W.World.files (g.F.Folder.state l.folder) k.name.now k.file);
}
