-- Which number has the file with a name?
use Rattle.std.specs.Prelude.{ℕ, List, Option}
use Rattle.std.specs.List.{position}
use Rattle.std.specs.Str.{bytes_eq}

-- the first place of a name in the list of file names
abbrev pub number_in : List (List ℕ) → List ℕ → Option ℕ
number_in names name = position (bytes_eq name) names
