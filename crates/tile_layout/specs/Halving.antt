-- Do the four source texels of each texel of the next level lie in one cell? (docs/FORMAT.md,
-- "Cells")
use Rattle.std.specs.Prelude.{◌≡◌, ℕ, ◌+◌, ◌*◌, ◌≤◌}
use Rattle.tile_layout.specs.Cell.{CutLevel, cell_index}
use Rattle.tile_layout.specs.Texel.{clamped}

-- the index of the cell that holds texel (x, y), or the nearest texel of the level
abbrev pub cell_at_clamped : CutLevel → ℕ → ℕ → ℕ
cell_at_clamped level x y = cell_index level (clamped level.width x) (clamped level.height y)

-- for each texel of the next level, the cell with its first source texel has all four
abbrev pub HalvesWithinCells : CutLevel → Type 0
HalvesWithinCells level = (x y i j : ℕ) → i ≤ 1 → j ≤ 1
    → cell_at_clamped level (2 * x + i) (2 * y + j) ≡ cell_at_clamped level (2 * x) (2 * y)
