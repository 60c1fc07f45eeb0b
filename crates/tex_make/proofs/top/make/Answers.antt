use Rattle.std.proofs.Common.{◌≡◌, Some, sym, ap, ◌∙◌, subst, inr}
use Rattle.std.proofs.Common.{Option, option_map}
use Rattle.std.specs.Option.{IsSomeAnd}
use Rattle.tex_make.specs.Asked.{shown_asked}
use Rattle.tex_make.specs.Make.{asked_by, around_of, EndsAs, HasSource}
use Rattle.tex_make.specs.Sink.{sink_state}
use Rattle.tex_make.specs.Words.{Wanted}
use Rattle.tex_make.proofs.Making.{makes_of}
use Rattle.tex_make.proofs.Complete.{ending_is}
use Rattle.tex_make.proofs.top.make.Goals as goal

pub returns-in-Ok-clause-makes : goal.returns-in-Ok-clause-makes
returns-in-Ok-clause-makes g c =
    let files = g.F.W.World.files in
    let asked = shown_asked c.in-Some.asked in
    let state = sink_state g.O.Sink.faults g.O.Sink.holds in
    let old = around_of (g.F.Folder.state c.args.folder.now) (state c.args.out.now) in
    let new = around_of (g.F.Folder.state c.picture_asked.new.folder) (state c.put_picture.new.out) in
    let is : Some asked ≡ asked_by c.args.words.now = ap (option_map shown_asked) (sym c.in-Some.is) ∙ c.asked_in.ensures in
    subst (λ (o : Option Wanted). EndsAs files o old new c.put_picture.result) is
    (makes_of files asked old new c.put_picture.result c.in-Ok.picture c.in-Ok.ensures.reads
    c.in-Some.asked.side_in c.in-Ok.ensures.small c.put_picture.ensures
    (λ lacks. let fails = c.in-Ok.ensures.absent.0 lacks in cc)
    (λ over. let no = c.in-Ok.ensures.mark.0 over in cc)
    (c.in-Ok.ensures.moves (λ gone. cc)) c.in-Ok.ensures.folder)

pub returns-in-Err-clause-complete : goal.returns-in-Err-clause-complete
returns-in-Err-clause-complete g c = λ source calm.
    let files = g.F.W.World.files in
    let asked = shown_asked c.in-Some.asked in
    let state = sink_state g.O.Sink.faults g.O.Sink.holds in
    let old = around_of (g.F.Folder.state c.args.folder.now) (state c.args.out.now) in
    let new = around_of (g.F.Folder.state c.picture_asked.new.folder) (state c.args.out.now) in
    let is : Some asked ≡ asked_by c.args.words.now =
    ap (option_map shown_asked) (sym c.in-Some.is) ∙ c.asked_in.ensures in
    inr (c.status.ensures ∙ ending_is files g.F.W.World.lawful asked old new
    (g.met.F.Folder.lawful c.picture_asked.new.folder)
    (subst (λ (o : Option Wanted). IsSomeAnd o (HasSource files)) (sym is) source) calm
    c.in-Err.ending c.in-Err.ensures.reads)
