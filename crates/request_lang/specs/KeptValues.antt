-- Which values does an answer have?
use Rattle.std.specs.Prelude.{ℕ, ◌≤◌, List, take, ⊤}
use Rattle.tiff_format.specs.Limits.{max_channels}
use Rattle.request_lang.specs.declared.answer.Kept.{Kept}
use Rattle.request_lang.specs.declared.answer.Kept.TheVariants.{Few, Many}

-- a few values stored in place, or all values of a vector
abbrev pub kept_values : Kept → List ℕ
kept_values (Few places count) = take count places
kept_values (Many items) = items.items

-- no more values are stored in place than there are places
abbrev pub IsKept : Kept → Type 0
IsKept (Few places count) = count ≤ max_channels
IsKept (Many items) = ⊤
