use Rattle.std.proofs.Common.{◌<◌, ◌∙◌, length, sym}
use Rattle.std.proofs.lemmas.List.{length-map}
use Rattle.render_run.specs.Around.{terms_of}
use Rattle.render_run.specs.Posts.{sight}
use Rattle.render_run.proofs.CrewLemmas.{one_of}
use Rattle.render_run.proofs.Shares.{share_is}
use Rattle.render_run.proofs.round.answer_round.Goals as goal

pub returns-clause-shares : goal.returns-clause-shares
returns-clause-shares g c = record {
  count =
      length-map c.for_each_mut.new.s _ ∙ c.for_each_mut.auto.s ∙ sym (length-map c.args.posts.now _);
  each = λ w low.
      let few : w < length c.args.posts.now = rw length-map at low in
      let d = one_of c.args.posts.now c.requires.some.0 in
      let at = (c.for_each_mut.ensures w d few).1 in
      share_is (λ p. sight g.T.Tap.state p.caller) (λ p. p.answers.items) g.T.W.World.files
      (terms_of c.args.setting.now.cache.now.gate) c.args.tasks.now c.args.posts.now
      c.for_each_mut.new.s c.for_each_mut.auto.s w at.argument.now at.after_call.now d few
      at.argument_is at.left at.call.0;
}
