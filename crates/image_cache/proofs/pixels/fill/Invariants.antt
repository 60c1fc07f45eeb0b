-- The cells so far are painted, and each was needed once.
use Rattle.std.proofs.Common.{◌≡◌, ℕ, ◌<◌, length, None}
use Rattle.std.specs.Option.{ForSome}
use Rattle.tile_layout.specs.Grid.{shown_grid}
use Rattle.tile_layout.specs.Cell.{cell_rect}
use Rattle.texel_values.specs.Area.{IsZeroBeside, area_cell}
use Rattle.texel_values.specs.RegionShape.{HasValuesOn}
use Rattle.tile_source.specs.Call.{Needs}
use Rattle.image_cache.specs.Region.{area_keys}
use Rattle.tile_source.specs.Source.{Reads}
use Rattle.image_cache.proofs.pixels.fill.Given as goal

abbrev pub invariant-cells : goal.invariant-cells
invariant-cells g l = record {
  long : length l.values ≡ length l.fn.values;
  beside : IsZeroBeside l.area l.fn.values → IsZeroBeside l.area l.values;
  value : ForSome (g.T.W.World.files.held l.fn.source.picture.now.file l.fn.source.picture.now.generation)
      (λ bytes. (m : ℕ) → m < l.k → HasValuesOn bytes l.area.level
      (cell_rect (shown_grid l.area.grid) (area_cell l.area m)) l.area.window l.area.height l.values);
  needs : Needs g.T.W.World.files (area_keys l.fn.source.picture.now l.area l.k) l.fn.source.pass.now
      l.source.pass.now;
  left : Reads g.T.W.World.files l.fn.source l.source None;
}
