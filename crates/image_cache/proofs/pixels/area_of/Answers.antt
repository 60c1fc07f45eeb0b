-- The area is that of the record's own level.
use Rattle.std.proofs.Common.{◌≡◌, subst}
use Rattle.std.specs.Prelude.{IfOk}
use Rattle.tile_layout.specs.Cell.{channels_in}
use Rattle.file_table.specs.Record.{RecordState}
use Rattle.image_cache.proofs.FillLemmas.{has_area, own_area}
use Rattle.tile_layout.specs.Grid.{shown_grid}
use Rattle.image_cache.proofs.pixels.area_of.Goals as goal

pub returns-clause-area : goal.returns-clause-area
returns-clause-area g c =
    has_area c.args.known.now c.args.region.now c.new.result c.in_ok-grid.grid c.channels.result
    c.in_ok-grid.ensures.ok c.in_ok-grid.ensures.grid
    (subst (λ (r : RecordState). IfOk r.layout (λ kept. c.channels.result ≡ channels_in kept))
    c.of.ensures c.channels.ensures.value) c.new.ensures

pub returns-clause-is : goal.returns-clause-is
returns-clause-is g c =
    own_area c.args.region.now c.new.result (shown_grid c.in_ok-grid.grid) c.channels.result
    c.new.ensures
