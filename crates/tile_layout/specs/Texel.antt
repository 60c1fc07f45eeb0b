-- Which number is each sample of a texel of a level? (docs/FORMAT.md, "Levels") Stored levels are
-- in the file. Each generated level is made from the next larger one.
use Rattle.std.specs.Prelude.{◌≡◌, ℕ, zero, suc, ◌+◌, ◌-◌, ◌*◌, ◌/◌, ◌<◌, ◌≤◌, min, nat_lt, List}
use Rattle.std.specs.Prelude.{length, slice_index, if◌then◌else◌}
use Rattle.std.specs.List.{All}
use Rattle.tiff_format.specs.Texel.{sample_in, greatest_sample}
use Rattle.tiff_format.specs.declared.rect.Rect.{Rect}
use Rattle.tile_layout.specs.Kept.{Kept, kept_of, stored_count, level_in}
use Rattle.tile_layout.specs.Level.{width_in, height_in}

-- the average of four, rounded to nearest with halves up
abbrev pub average : ℕ → ℕ → ℕ → ℕ → ℕ
average a b c d = (a + b + c + d + 2) / 4

-- a place, or the last one of a side if it lies beyond
abbrev pub clamped : ℕ → ℕ → ℕ
clamped side place = min place (side - 1)

-- the average of the four texels from which texel (x, y) of the next level is made
abbrev pub quarter : (ℕ → ℕ → ℕ) → ℕ → ℕ → ℕ → ℕ → ℕ
quarter texel width height x y =
    let left = clamped width (2 * x) in
    let right = clamped width (2 * x + 1) in
    let top = clamped height (2 * y) in
    let bottom = clamped height (2 * y + 1) in
    average (texel left top) (texel right top) (texel left bottom) (texel right bottom)

-- Sample c of texel (x, y) of level l: in a stored level the stored one, in a generated level the
-- average of four samples of the next larger level.
unfoldable pub texel_in : Kept → List ℕ → ℕ → ℕ → ℕ → ℕ → ℕ
texel_in file bytes zero x y c = sample_in file.big bytes (level_in file 0) x y c
texel_in file bytes (suc l) x y c =
    if nat_lt (suc l) (stored_count file)
    then sample_in file.big bytes (level_in file (suc l)) x y c
    else quarter (λ i j. texel_in file bytes l i j c) (width_in file l) (height_in file l) x y

-- sample c of texel (x, y) of level l of a file with these bytes
abbrev pub texel_at : List ℕ → ℕ → ℕ → ℕ → ℕ → ℕ
texel_at bytes l x y c = texel_in (kept_of bytes) bytes l x y c

-- no sample is greater than one of this depth can be
abbrev pub FitDepth : ℕ → List ℕ → Type 0
FitDepth depth samples = All (λ sample. sample ≤ greatest_sample depth) samples

-- ---- the texels of a rectangle

-- these are the numbers of the texels of a rectangle; `texel` says which number is sample c of
-- texel (x, y)
pub record AreTexelsOn (texel : ℕ → ℕ → ℕ → ℕ) (channels : ℕ) (rect : Rect) (numbers : List ℕ)
    : Type 0 where
  pub count : length numbers ≡ rect.w * rect.h * channels
  pub each : (i j c : ℕ) → i < rect.w → j < rect.h → c < channels
      → slice_index numbers ((j * rect.w + i) * channels + c) ≡ texel (rect.x + i) (rect.y + j) c
