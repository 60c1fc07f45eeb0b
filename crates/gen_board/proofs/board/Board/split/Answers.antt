-- A split keeps the rule.
use Rattle.std.proofs.Common.{rules, arith}
use Rattle.gen_board.proofs.RuleLemmas.{splits}
use Rattle.gen_board.proofs.board.Board.split.Goals as goal

pub split_seat-seat-requires : goal.split_seat-seat-requires
split_seat-seat-requires g c = (
  search rules,
  omega (arith, c.self.invariant.words),
  splits g.W.World.files _ _ _,
)
