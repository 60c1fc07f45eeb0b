use Rattle.std.proofs.Common.{◌≡◌, ℕ, ◌*◌, ◌<◌, ◌≤◌, length, ap, ◌∙◌, arith, sym, subst}
use Rattle.tiff_format.specs.declared.rect.Rect.{Rect}
use Rattle.tile_layout.specs.Key.{level_of, index_of}
use Rattle.tile_layout.specs.Cell.{rect_bytes, cell_rect, cut_level_in, channels_in}
use Rattle.tile_layout.specs.Cell.{max_cell_bytes}
use Rattle.tile_layout.specs.Kept.{stored_count}
use Rattle.rect_read.specs.RectSamples.{samples_of}
use Rattle.tile_load.proofs.ToldTiles.{tile_told}
use Rattle.tile_load.proofs.loading.load_at.Goals as goal

pub tile_of-requires-clause-tile : goal.tile_of-requires-clause-tile
tile_of-requires-clause-tile g c =
    let layout = c.args.layout.now in
    let level = c.level-level.result in
    let rect = c.cell_rect-rect.result in
    let channels = c.channels.result in
    let stored : level < stored_count layout =
    omega (arith, c.level-level.ensures.value, c.requires.cell.stored) in
    let same : channels ≡ channels_in layout = c.channels.ensures.first in
    let count : length (samples_of c.in-Ok.texels) ≡ rect.w * rect.h * channels =
    c.in-Ok.ensures.count
    ∙ ap (λ (n : ℕ). rect.w * rect.h * n) (c.channels.ensures.value level stored) in
    let there = c.requires.fits (level_of c.args.key)
    (omega (
      arith,
      c.levels.ensures.value,
      c.levels.ensures.stored,
      c.requires.cell.stored,
    )) (index_of c.args.key) c.requires.cell.index in
    let file_level = level_of c.args.key in
    let rect_is : rect ≡ cell_rect (cut_level_in layout c.args.cut file_level) (index_of c.args.key) =
    c.cell_rect-rect.ensures.value
    ∙ ap (λ (l : ℕ). cell_rect (cut_level_in layout c.args.cut l) c.index.result)
    c.level-level.ensures.value
    ∙ ap (λ (i : ℕ). cell_rect (cut_level_in layout c.args.cut file_level) i)
    c.index.ensures.value in
    let few : rect_bytes (channels_in layout) rect ≤ max_cell_bytes =
    subst (λ (r : Rect). rect_bytes (channels_in layout) r ≤ max_cell_bytes) (sym rect_is) there in
    let bytes : 2 * (rect.w * rect.h * channels) ≡ rect_bytes (channels_in layout) rect =
    rw same (omega arith) in
    record {
      channels = c.channels.ensures.in_range;
      texels = count;
      bytes = omega (arith, count, few, bytes);
    }

pub tile_of-requires-clause-told : goal.tile_of-requires-clause-told
tile_of-requires-clause-told g c =
    let handle = g.T.Handle.TapHandle.named c.args.file.now.handle in
    tile_told g.T.W.World.files handle c.args.layout.now c.args.cut c.args.key c.requires.cell
    c.cell_rect-rect.result c.channels.result (samples_of c.in-Ok.texels) c.channels.ensures.first
    c.channels.ensures.value c.in-Ok.ensures.low
    (g.met.T.Handle.TapHandle.honest c.args.file.now.handle).real c.requires.layout
    (rw c.level-level.ensures.value at c.in-Ok.ensures.told)
