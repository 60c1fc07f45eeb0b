-- The rows so far are written.
use Rattle.std.proofs.Common.{◌≡◌, ℕ, ◌<◌, length}
use Rattle.tile_store.specs.Tile.{kept_sample}
use Rattle.texel_values.specs.Values.{kept_value}
use Rattle.texel_values.specs.Region.{value_at}
use Rattle.texel_values.specs.RegionShape.{IsIn, column_of, row_of}
use Rattle.texel_values.proofs.painting.paint_tile.Given as goal

abbrev pub invariant-loop-y : goal.invariant-loop-y
invariant-loop-y g l = record {
  long : length l.values ≡ length l.fn.values;
  written : (i j c : ℕ) → i < l.window.width → j < l.height → c < l.window.channels
      → IsIn l.window l.tile.rect i j → row_of l.window j < l.y
      → value_at l.window.width l.window.channels l.values i j c
      ≡ kept_value l.depth (kept_sample l.tile (column_of l.window i) (row_of l.window j) c);
  others : (i j c : ℕ) → i < l.window.width → j < l.height → c < l.window.channels
      → ¬ (IsIn l.window l.tile.rect i j × (row_of l.window j < l.y))
      → value_at l.window.width l.window.channels l.values i j c
      ≡ value_at l.window.width l.window.channels l.fn.values i j c;
}
