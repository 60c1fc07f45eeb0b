-- Where does a word of a text end?
use Rattle.std.specs.Prelude.{ℕ, ◌==◌, List, length, take, drop, slice_index, position}
use Rattle.std.specs.Prelude.{Option, Some, None, if◌then◌else◌, Bool, not}
use Rattle.std.specs.Option.{unwrap_or}
use Rattle.std.specs.List.{list_all}

-- the byte before a word
abbrev pub space : ℕ
space = 32

-- the number of bytes before the first space; all bytes if none exists
abbrev pub space_at : List ℕ → ℕ
space_at text = unwrap_or (position (λ b. b == space) text) (length text)

-- whether the text has no space
abbrev pub has_no_space : List ℕ → Bool
has_no_space text = list_all (λ b. not (b == space)) text

-- the text before the first space
abbrev pub before_space : List ℕ → List ℕ
before_space text = take (space_at text) text

-- the text from the first space on
abbrev pub from_space : List ℕ → List ℕ
from_space text = drop (space_at text) text

-- the text after its first byte, if that is a space
abbrev pub behind_space : List ℕ → Option (List ℕ)
behind_space rest = if slice_index rest 0 == space then Some (drop 1 rest) else None

-- splits a text at its first space
abbrev pub cut : List ℕ → List ℕ × List ℕ
cut text = (before_space text, from_space text)
