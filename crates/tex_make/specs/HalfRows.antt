-- Which rows make up the next smaller level?
use Rattle.std.specs.Prelude.{◌≡◌, ℕ, ◌+◌, ◌*◌, ◌<◌, List, slice_index}
use Rattle.tiff_format.specs.Level.{halved}
use Rattle.tile_layout.specs.Texel.{quarter}
use Rattle.tex_make.specs.PlainLevel.{PlainLevel, sample_in}

-- sample c of texel (x, y) of the next smaller level
abbrev pub half_sample : PlainLevel → ℕ → ℕ → ℕ → ℕ
half_sample level x y c =
    quarter (λ i j. sample_in level i j c) level.width level.height x y

-- the first n rows are those of the next smaller level
abbrev pub AreHalfRows : PlainLevel → ℕ → List ℕ → Type 0
AreHalfRows level n rows = (x y c : ℕ) → x < halved level.width → y < n → c < level.channels
    → slice_index rows ((y * halved level.width + x) * level.channels + c)
    ≡ half_sample level x y c
