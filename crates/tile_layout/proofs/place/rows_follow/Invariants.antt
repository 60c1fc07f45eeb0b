use Rattle.std.proofs.Common.{◌≡◌, ℕ, ◌+◌, ◌-◌, ◌%◌, ◌<◌, ◌≤◌}
use Rattle.tiff_format.specs.Shown.{shown, shown_shape}
use Rattle.tile_layout.specs.Plane.{plane_level}
use Rattle.tile_layout.specs.WholeRows.{block_rows, RowFollows}
use Rattle.tile_layout.proofs.place.rows_follow.Given as goal

-- a strip or tile begins with the row, and the rows before it follow
abbrev pub invariant-below : goal.invariant-below
invariant-below l = record {
  some : 1 ≤ l.row;
  first : l.row < l.rect.h → (l.rect.y + l.row) % block_rows (shown_shape l.dir) ≡ 0;
  follow : (j : ℕ) → j + 1 < l.row → j + 1 < l.rect.h → RowFollows (plane_level (shown l.dir) l.plane) l.rect j;
}

abbrev pub decreases-below : goal.decreases-below
decreases-below l = l.rect.h - l.row
