-- Which parts of a name surround its first mark?
use Rattle.std.specs.Prelude.{◌≡◌, ℕ, ◌+◌, List, length, take, drop, Some}
use Rattle.udim.specs.Udim.{mark, mark_at}

-- the parts before and after the mark
pub record AreRoundMark (name before behind : List ℕ) : Type 0 where
  pub at : mark_at name ≡ Some (length before)
  pub front : before ≡ take (length before) name
  pub back : behind ≡ drop (length before + length mark) name
