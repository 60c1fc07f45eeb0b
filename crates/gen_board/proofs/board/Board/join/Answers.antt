-- A join keeps the rule, and what both have seen is what the view has then seen.
use Rattle.std.proofs.Common.{rules, ◌≡◌, subst, arith}
use Rattle.gen_board.specs.View.{ViewState, ViewAfterJoin}
use Rattle.gen_board.specs.Rule.{later_of}
use Rattle.gen_board.specs.Seated.{view_state}
use Rattle.gen_board.proofs.RuleLemmas.{joins}
use Rattle.gen_board.proofs.ViewLemmas.{same_count, joined_seat, after_join}
use Rattle.gen_board.proofs.board.Board.join.Goals as goal

pub join_seat-requires : goal.join_seat-requires
join_seat-requires g c = (
  search rules,
  search rules,
  c.other.invariant.slots,
  omega (arith, c.self.invariant.words),
  joins g.W.World.files _ _ _ _ _,
)

pub invariant_of-v : goal.invariant_of-v
invariant_of-v g c =
    let own = c.v.inside in
    let other = c.other.inside in
    let same = same_count own.seat other.seat own.seen.items other.seen.items _ _ _
    c.v.view_is c.other.view_is c.requires.board c.requires.other in
    let later : c.take_later.new.seen.items ≡ later_of own.seen.items other.seen.items =
    search rules in
    joined_seat g.W.World.files own.seat other.seat c.join_seat.new.seat own.seen.items
    other.seen.items c.take_later.new.seen.items c.v.invariant c.other.invariant same later
    c.join_seat.ensures.2

pub returns : goal.returns
returns g c =
    let own = c.v.inside in
    let other = c.other.inside in
    let same = same_count own.seat other.seat own.seen.items other.seen.items _ _ _
    c.v.view_is c.other.view_is c.requires.board c.requires.other in
    let later : c.take_later.new.seen.items ≡ later_of own.seen.items other.seen.items =
    search rules in
    record {
      seen = subst
          (λ (views : ViewState × ViewState). ViewAfterJoin views.0 views.1
          (view_state c.join_seat.new.seat c.take_later.new.seen.items))
          (λ i. (c.other.view_is i, c.v.view_is i))
          (after_join g.W.World.files own.seat other.seat c.join_seat.new.seat own.seen.items
          other.seen.items c.take_later.new.seen.items c.v.invariant c.other.invariant same
          later c.join_seat.ensures.2 c.join_seat.ensures.0);
    }
