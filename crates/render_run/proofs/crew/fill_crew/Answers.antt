use Rattle.std.proofs.Common.{◌∙◌, ap, length, set, subst, sym, arith}
use Rattle.std.specs.Arc.{arc_value}
use Rattle.std.proofs.lemmas.List.{length-set}
use Rattle.render_run.specs.Posts.{AddsPost, AreNew}
use Rattle.render_run.proofs.Manned.{posts_longer, posts_more, posts_split, makes_both}
use Rattle.render_run.proofs.crew.fill_crew.Goals as goal

pub returns-in_err-made-clause-new : goal.returns-in_err-made-clause-new
returns-in_err-made-clause-new g c =
    posts_split g.F.Tap.Tap.state (arc_value c.args.cache.now) c.posts.posts.items
    c.split_off.new.post
    (c.split_off.ensures.same ∙ ap (λ p. p.caller.cache) c.index_mut.ensures.value
    ∙ (c.posts.invariant.new 0 c.index_mut.result.now (omega (arith, c.posts.invariant.some))).0)
    c.split_off.ensures.new c.posts.invariant.new

pub posts-preserved : goal.posts-preserved
posts-preserved g c =
    let before = set c.posts.posts.items 0 c.split_off.new.post in
    let after = c.add-in-posts.new.posts.items in
    let cache = arc_value c.args.cache.now in
    let at = ap (λ p. p.caller.cache) c.index_mut.ensures.value
    ∙ (c.posts.invariant.new 0 c.index_mut.result.now (omega (arith, c.posts.invariant.some))).0 in
    let adds : AddsPost g.F.Tap.Tap.state cache c.in_ok-made.made.1 before after =
    subst (λ x. AddsPost g.F.Tap.Tap.state x c.in_ok-made.made.1 before after)
    (c.in_ok-made.ensures.cache ∙ at) c.in_ok-add-2.ensures.ok in
    let longer = posts_longer g.F.Tap.Tap.state cache c.in_ok-made.made.1 before after adds in
    let same = length-set c.posts.posts.items 0 c.split_off.new.post in
    record {
      some = omega (arith, longer);
      few = omega (arith, longer, same, c.posts-test.true);
      new = posts_more g.F.Tap.Tap.state cache c.in_ok-made.made.1 before after adds
          c.in_ok-made.ensures.fresh
          (posts_split g.F.Tap.Tap.state cache c.posts.posts.items c.split_off.new.post
          (c.split_off.ensures.same ∙ at) c.split_off.ensures.new c.posts.invariant.new);
      alone = λ single. absurd (omega (arith, single, c.posts.invariant.some, c.posts-test.true));
      made =
          makes_both (length c.posts.posts.items) 1 (length after)
          (g.F.Folder.state c.args.folder.now) (g.F.Folder.state c.posts.folder)
          (g.F.Folder.state c.add-in-posts.new.folder) (omega (arith, longer, same))
          c.posts.invariant.made c.in_ok-add-2.ensures.made;
    }

pub returns-in_err-add-2-clause-new : goal.returns-in_err-add-2-clause-new
returns-in_err-add-2-clause-new g c =
    subst (λ l. AreNew g.F.Tap.Tap.state (arc_value c.args.cache.now) l)
    (sym c.in_err-add-2.ensures.err)
    (posts_split g.F.Tap.Tap.state (arc_value c.args.cache.now) c.posts.posts.items
    c.split_off.new.post
    (c.split_off.ensures.same ∙ ap (λ p. p.caller.cache) c.index_mut.ensures.value
    ∙ (c.posts.invariant.new 0 c.index_mut.result.now (omega (arith, c.posts.invariant.some))).0)
    c.split_off.ensures.new c.posts.invariant.new)
