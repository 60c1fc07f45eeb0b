-- The channels so far are in the four corners.
use Rattle.std.proofs.Common.{◌≡◌}
use Rattle.tile_store.specs.SampleRow.{samples_of, top_of, bottom_of}
use Rattle.texel_values.specs.Square.{AreCornersOf}
use Rattle.texel_values.proofs.square.write_corners.Given as goal

abbrev pub invariant-channels : goal.invariant-channels
invariant-channels l = record {
  top : samples_of l.top ≡ top_of l.rows;
  bottom : samples_of l.bottom ≡ bottom_of l.rows;
  are : AreCornersOf l.rows (l.left, l.right) l.wide l.c l.out;
}
