use Rattle.std.proofs.Common.{◌-◌, ◌≤◌, sym, ◌∙◌, subst}
use Rattle.std.proofs.Common.{arith}
use Rattle.tiff_format.specs.declared.rect.Rect.{Rect}
use Rattle.tile_layout.specs.Cell.{rect_bytes, max_cell_bytes}
use Rattle.tile_layout.specs.Kept.{stored_count}
use Rattle.tile_layout.specs.Key.{level_of, index_of}
use Rattle.rect_read.specs.RectSamples.{samples_of}
use Rattle.tile_load.specs.Halving.{rect_of}
use Rattle.tile_load.proofs.CellParts.{grid_across, grid_down}
use Rattle.tile_load.proofs.GeneratedCells.{level_some, begun, told_begun, spans_are}
use Rattle.tile_load.proofs.KnownLayouts.{cells_fit, names_generated}
use Rattle.tile_load.proofs.halving.Halving.new.Goals as goal

pub overflow_sub-level : goal.overflow_sub-level
overflow_sub-level g c =
    let state = c.args.known.now in
    let layout = c.in-Ok.layout.now in
    let names = names_generated state layout c.in-Ok.ensures.value c.args.cut c.args.key
    c.requires.cell in
    omega (
      arith,
      c.level-level.ensures.value,
      level_some state layout c.args.cut c.args.key names
          (omega (arith, c.stored.ensures.value, c.stored.ensures.in_range.low)),
    )

pub grid-source-requires-clause-level : goal.grid-source-requires-clause-level
grid-source-requires-clause-level g c =
    let state = c.args.known.now in
    let layout = c.in-Ok.layout.now in
    let names = names_generated state layout c.in-Ok.ensures.value c.args.cut c.args.key
    c.requires.cell in
    c.levels.ensures.has (c.level-level.result - 1)
    (omega (arith, c.level-level.ensures.value, names.level, c.levels.ensures.value))

pub cell_rect-rect-requires-clause-level : goal.cell_rect-rect-requires-clause-level
cell_rect-rect-requires-clause-level g c =
    let state = c.args.known.now in
    let layout = c.in-Ok.layout.now in
    let names = names_generated state layout c.in-Ok.ensures.value c.args.cut c.args.key
    c.requires.cell in
    c.levels.ensures.has c.level-level.result
    (omega (arith, c.level-level.ensures.value, names.level, c.levels.ensures.value))

pub of-requires-clause-inside : goal.of-requires-clause-inside
of-requires-clause-inside g c =
    let state = c.args.known.now in
    let layout = c.in-Ok.layout.now in
    let cut = c.args.cut in
    let key = c.args.key in
    let rect = c.cell_rect-rect.result in
    let grid = c.grid-source.result in
    let names = names_generated state layout c.in-Ok.ensures.value cut key c.requires.cell in
    let stored : 1 ≤ stored_count layout =
    omega (arith, c.stored.ensures.value, c.stored.ensures.in_range.low) in
    let is = begun state layout cut key names stored grid rect c.level-level.result c.index.result
    c.generation.ensures.valid c.level-level.ensures.value c.index.ensures.value
    c.grid-source.ensures.value c.cell_rect-rect.ensures.value c.cell_rect-rect.ensures.some in
    grid_across layout cut key is.cell grid rect is.source_is is.rect_is

pub of-requires-2-clause-inside : goal.of-requires-2-clause-inside
of-requires-2-clause-inside g c =
    let state = c.args.known.now in
    let layout = c.in-Ok.layout.now in
    let cut = c.args.cut in
    let key = c.args.key in
    let rect = c.cell_rect-rect.result in
    let grid = c.grid-source.result in
    let names = names_generated state layout c.in-Ok.ensures.value cut key c.requires.cell in
    let stored : 1 ≤ stored_count layout =
    omega (arith, c.stored.ensures.value, c.stored.ensures.in_range.low) in
    let is = begun state layout cut key names stored grid rect c.level-level.result c.index.result
    c.generation.ensures.valid c.level-level.ensures.value c.index.ensures.value
    c.grid-source.ensures.value c.cell_rect-rect.ensures.value c.cell_rect-rect.ensures.some in
    grid_down layout cut key is.cell grid rect is.source_is is.rect_is

pub invariant_of-result : goal.invariant_of-result
invariant_of-result g c =
    let state = c.args.known.now in
    let layout = c.in-Ok.layout.now in
    let cut = c.args.cut in
    let key = c.args.key in
    let rect = c.cell_rect-rect.result in
    let grid = c.grid-source.result in
    let names = names_generated state layout c.in-Ok.ensures.value cut key c.requires.cell in
    let stored : 1 ≤ stored_count layout =
    omega (arith, c.stored.ensures.value, c.stored.ensures.in_range.low) in
    let is = begun state layout cut key names stored grid rect c.level-level.result c.index.result
    c.generation.ensures.valid c.level-level.ensures.value c.index.ensures.value
    c.grid-source.ensures.value c.cell_rect-rect.ensures.value c.cell_rect-rect.ensures.some in
    let channels = c.channels-channels.result in
    let samples = samples_of c.in_ok-samples.samples in
    let count = c.in_ok-samples.ensures.count in
    let fit = cells_fit state layout c.in-Ok.ensures.value cut c.requires.fits in
    let there : rect_bytes channels (rect_of layout cut key) ≤ max_cell_bytes =
    rw c.channels-channels.ensures.first
    (fit (level_of key) names.level (index_of key) names.index) in
    let few : rect_bytes channels rect ≤ max_cell_bytes =
    subst (λ (r : Rect). rect_bytes channels r ≤ max_cell_bytes) (sym is.rect_is) there in
    record {
      cell = is.cell;
      rect_is = is.rect_is;
      source_is = is.source_is;
      spans = spans_are layout cut key grid rect c.of.result c.of-2.result is.source_is is.rect_is
          c.of.ensures.first c.of.ensures.count c.of-2.ensures.first c.of-2.ensures.count;
      channels_is = c.channels-channels.ensures.first;
      done_few = omega arith;
      room = c.in_ok-scratch.ensures;
      depth = c.in_ok-samples.ensures.depth ∙ c.depth.ensures.first;
      tile = record {
        channels = c.channels-channels.ensures.in_range;
        texels = count;
        bytes = omega (arith, count, few);
      };
      told = told_begun state layout cut key names stored g.W.World.files samples
          c.in-Ok.ensures.told c.in-Ok.ensures.value c.in_ok-samples.ensures.zeros;
    }
