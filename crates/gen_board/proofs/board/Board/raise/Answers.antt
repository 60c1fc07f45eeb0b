-- A raise keeps the rule.
use Rattle.std.proofs.Common.{rules}
use Rattle.gen_board.proofs.BoardLemmas.{has_a_word}
use Rattle.gen_board.proofs.RuleLemmas.{raises}
use Rattle.gen_board.proofs.board.Board.raise.Goals as goal

pub fetch_max-found-requires : goal.fetch_max-found-requires
fetch_max-found-requires g c =
    let word = has_a_word _ _ _ _ _ _ c.self.invariant c.self.view_is c.requires.file in
    (search rules, word.0, raises g.W.World.files _ _ _ _ _ _ word.1 c.requires.real)
