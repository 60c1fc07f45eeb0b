-- Where do the texels made from a part lie in the cell?
use Rattle.std.specs.Prelude.{◌≡◌, ℕ, ◌+◌, ◌-◌, ◌*◌, ◌/◌, ◌<◌, ◌≤◌, List, length, slice_index}
use Rattle.tiff_format.specs.Level.{halved}
use Rattle.tiff_format.specs.Limits.{max_side}
use Rattle.tiff_format.specs.declared.rect.Rect.{Rect}
use Rattle.tile_layout.specs.Texel.{quarter}

-- the greatest number of samples in a cell
abbrev pub max_cell_samples : ℕ
max_cell_samples = 16777216

-- The halved part, with each side at least 1, lies inside the cell, and both lie on their levels.
-- Both have n samples per texel, and the cell has no more samples than a cell may.
pub record IsPartPlace (part cell : Rect) (n : ℕ) : Type 0 where
  pub wide : 1 ≤ part.w
  pub high : 1 ≤ part.h
  pub left : cell.x ≤ part.x / 2
  pub right : part.x / 2 + halved part.w ≤ cell.x + cell.w
  pub top : cell.y ≤ part.y / 2
  pub bottom : part.y / 2 + halved part.h ≤ cell.y + cell.h
  pub cell_across : cell.x + cell.w ≤ max_side
  pub cell_down : cell.y + cell.h ≤ max_side
  pub part_across : part.x + part.w ≤ max_side
  pub part_down : part.y + part.h ≤ max_side
  pub few : cell.w * cell.h * n ≤ max_cell_samples

-- the column and the row of the cell where the halved part begins
abbrev pub left_of : Rect → Rect → ℕ
left_of part cell = part.x / 2 - cell.x

abbrev pub top_of : Rect → Rect → ℕ
top_of part cell = part.y / 2 - cell.y

-- sample c of texel (i, j) in a rectangle of this width, with n samples per texel
abbrev pub sample_on : ℕ → ℕ → List ℕ → ℕ → ℕ → ℕ → ℕ
sample_on w n samples i j c = slice_index samples ((j * w + i) * n + c)

-- Rows `from` to `to` of the halved part were made from the part's samples, except where a sample
-- would be greater than `most`; all samples of the cell outside of these rows are unchanged.
pub record HalvesRows (part cell : Rect) (n : ℕ) (source : List ℕ) (most from to : ℕ)
    (old new : List ℕ) : Type 0 where
  pub long : length new ≡ length old
  pub made : (i j c : ℕ) → i < halved part.w → from ≤ j → j < to → c < n
      → quarter (λ x y. sample_on part.w n source x y c) part.w part.h i j ≤ most
      → sample_on cell.w n new (left_of part cell + i) (top_of part cell + j) c
      ≡ quarter (λ x y. sample_on part.w n source x y c) part.w part.h i j
  pub above : (i j c : ℕ) → i < cell.w → j < cell.h → c < n → j < top_of part cell + from
      → sample_on cell.w n new i j c ≡ sample_on cell.w n old i j c
  pub below : (i j c : ℕ) → i < cell.w → j < cell.h → c < n → top_of part cell + to ≤ j
      → sample_on cell.w n new i j c ≡ sample_on cell.w n old i j c
  pub before : (i j c : ℕ) → i < cell.w → j < cell.h → c < n → i < left_of part cell
      → sample_on cell.w n new i j c ≡ sample_on cell.w n old i j c
  pub behind : (i j c : ℕ) → i < cell.w → j < cell.h → c < n
      → left_of part cell + halved part.w ≤ i
      → sample_on cell.w n new i j c ≡ sample_on cell.w n old i j c
