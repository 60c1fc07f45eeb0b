use Rattle.std.proofs.Common.{◌≡◌, ◌*◌, ◌≤◌, [], length, refl, ◌∙◌, arith}
use Rattle.std.specs.Prelude.{vec_capacity}
use Rattle.std.proofs.Math.Seq.{map-set_same}
use Rattle.std.proofs.lemmas.List.Elements.{AllWithin-more_set}
use Rattle.render_run.proofs.Shares.{room_enough}
use Rattle.render_run.proofs.round.make_room.Goals as goal

pub loop-post-preserved : goal.loop-post-preserved
loop-post-preserved g c = record {
  room = AllWithin-more_set c.loop-post.posts c.loop-post.post-index _
      (omega (arith, c.loop-post.auto.posts, c.loop-post-test.true))
      (λ p. (p.answers.items ≡ [])
      × (c.args.count ≤ length c.args.posts.now * vec_capacity p.answers))
      c.loop-post.invariant.room (
        c.reserve.ensures.items ∙ c.clear.ensures.items,
        room_enough (length c.args.posts.now) c.args.count (vec_capacity c.reserve.new.self)
            c.requires.some (omega (arith, c.in_ok-reserve.ensures.ok, c.clear.ensures.len)),
      );
  same = map-set_same (λ p. p.caller) c.loop-post.posts c.loop-post.post-index _
      c.post-item.result refl ∙ c.loop-post.invariant.same;
}

pub returns-in_err-reserve-clause-same : goal.returns-in_err-reserve-clause-same
returns-in_err-reserve-clause-same g c =
    map-set_same (λ p. p.caller) c.loop-post.posts c.loop-post.post-index _ c.post-item.result refl
    ∙ c.loop-post.invariant.same
