-- What are the names of the files?
use Rattle.std.specs.Prelude.{ℕ, codes, List, [], ◌∷◌}

-- the names, in the order of the files' numbers
abbrev pub file_names : List (List ℕ)
file_names =
    codes "A.tif" ∷ codes "B.tif" ∷ codes "low.tif" ∷ codes "seam.tif" ∷ codes "two.tif" ∷ []

-- the files of the lists about generations
abbrev pub row_names : List (List ℕ)
row_names = codes "A.tif" ∷ codes "three.tif" ∷ []
