-- What are the names of the files in memory?
use Rattle.std.specs.Prelude.{ℕ, codes, List, [], ◌∷◌}

-- the names, in the order of the files' numbers
abbrev pub file_names : List (List ℕ)
file_names =
    codes "A.tif" ∷ codes "B.tif" ∷ codes "two.tif" ∷ codes "short.tif" ∷ codes "huge.tif" ∷ []
