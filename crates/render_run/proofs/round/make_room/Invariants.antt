-- The workers so far have memory for their answers.
use Rattle.std.proofs.Common.{◌≡◌, ◌*◌, ◌≤◌, [], length, map}
use Rattle.std.specs.Prelude.{vec_capacity}
use Rattle.std.specs.List.{AllWithin}
use Rattle.render_run.proofs.round.make_room.Given as goal

abbrev pub invariant-loop-post : goal.invariant-loop-post
invariant-loop-post g l = record {
  room : AllWithin (λ p. (p.answers.items ≡ [])
      × (l.count ≤ length l.initial.posts * vec_capacity p.answers)) l.posts 0 l.post-index;
  same : map (λ p. p.caller) l.posts ≡ map (λ p. p.caller) l.initial.posts;
}
