-- What are the names of the files in memory?
use Rattle.std.specs.Prelude.{ℕ, codes, List, [], ◌∷◌}

-- the names, in the order of the files' numbers
abbrev pub file_names : List (List ℕ)
file_names = codes "A.tif" ∷ codes "three.tif" ∷ codes "short.tif" ∷ codes "B.tif" ∷ []

-- the names of the stripped files, and of the tiled ones
abbrev pub strip_names : List (List ℕ)
strip_names = codes "0.tif" ∷ codes "1.tif" ∷ codes "2.tif" ∷ codes "3.tif" ∷ codes "4.tif"
    ∷ codes "5.tif" ∷ codes "6.tif" ∷ codes "7.tif" ∷ codes "8.tif"
    ∷ []
