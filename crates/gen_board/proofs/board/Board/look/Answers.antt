-- A look keeps the rule.
use Rattle.std.proofs.Common.{rules}
use Rattle.gen_board.proofs.BoardLemmas.{has_a_word}
use Rattle.gen_board.proofs.RuleLemmas.{looks}
use Rattle.gen_board.proofs.board.Board.look.Goals as goal

pub load-found-requires : goal.load-found-requires
load-found-requires g c =
    let word = has_a_word _ _ _ _ _ _ c.self.invariant c.self.view_is c.requires.file in
    (search rules, word.0, looks g.W.World.files _ _ _ _ _ word.1)
