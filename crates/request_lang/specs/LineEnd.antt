-- Where does the first line of a list end?
use Rattle.std.specs.Prelude.{◌≡◌, ℕ, ◌+◌, ◌<◌, ◌≤◌, ◌==◌, false, true, List, length, slice_index}
use Rattle.request_lang.specs.Grammar.{line_feed}

-- byte k is not a line feed
abbrev pub IsOther : List ℕ → ℕ → Type 0
IsOther bytes k = (slice_index bytes k == line_feed) ≡ false

-- the eight bytes at a place are not line feeds
pub record AreEightOthers (bytes : List ℕ) (at : ℕ) : Type 0 where
  pub first : IsOther bytes at
  pub second : IsOther bytes (at + 1)
  pub third : IsOther bytes (at + 2)
  pub fourth : IsOther bytes (at + 3)
  pub fifth : IsOther bytes (at + 4)
  pub sixth : IsOther bytes (at + 5)
  pub seventh : IsOther bytes (at + 6)
  pub eighth : IsOther bytes (at + 7)

-- the line ends at its first line feed, or at the end of the bytes
pub record IsLineEnd (bytes : List ℕ) (end : ℕ) : Type 0 where
  pub within : end ≤ length bytes
  pub before : (k : ℕ) → k < end → IsOther bytes k
  pub here : end < length bytes → (slice_index bytes end == line_feed) ≡ true
