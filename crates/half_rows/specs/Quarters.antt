-- Which samples has a row of texels made from two rows?
use Rattle.std.specs.Prelude.{ℕ, ◌+◌, ◌*◌, ◌≡◌, List, slice_index}
use Rattle.tile_layout.specs.Texel.{average, clamped}

-- sample c of texel i of a row, with n samples per texel
abbrev pub row_sample : ℕ → List ℕ → ℕ → ℕ → ℕ
row_sample n row i c = slice_index row (i * n + c)

-- the average of sample c of two neighbouring texels in both rows
abbrev pub row_average : ℕ → List ℕ → List ℕ → ℕ → ℕ → ℕ → ℕ
row_average n top bottom left right c =
    average (row_sample n top left c) (row_sample n top right c)
    (row_sample n bottom left c) (row_sample n bottom right c)

-- texel i of the new row is made from texels 2i and 2i + 1 of two rows of this width; from the last
-- texel if 2i + 1 does not exist
abbrev pub IsHalfAt : ℕ → ℕ → List ℕ → List ℕ → List ℕ → ℕ → ℕ → Type 0
IsHalfAt n width top bottom row i c =
    row_sample n row i c
    ≡ row_average n top bottom (clamped width (2 * i)) (clamped width (2 * i + 1)) c
