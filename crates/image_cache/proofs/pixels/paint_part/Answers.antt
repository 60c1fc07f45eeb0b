-- The texels of the tile are those of the record's file.
use Rattle.std.proofs.Common.{ℕ, List, subst}
use Rattle.tiff_format.specs.declared.rect.Rect.{Rect}
use Rattle.tile_layout.specs.Key.{level_of}
use Rattle.texel_values.specs.RegionShape.{HasValuesOn}
use Rattle.tile_source.proofs.TexelLemmas.{told_by_record, level_of_cell}
use Rattle.tile_source.proofs.NeedLemmas.{rect_like}
use Rattle.image_cache.proofs.pixels.paint_part.Goals as goal

pub returns-clause-value : goal.returns-clause-value
returns-clause-value g c bytes held =
    let files = g.W.World.files in
    let tile = c.args.tile.now in
    let cell = c.args.cell.now in
    let area = c.args.area.now in
    let new = c.paint.new.values in
    let On : ℕ → Rect → Type 0 = λ l rect.
    HasValuesOn bytes l rect area.window area.height new in
    subst (λ (rect : Rect). On (level_of cell.key) rect) (rect_like cell tile c.requires.of_cell)
    (subst (λ (k : ℕ). On (level_of k) tile.rect) c.requires.keyed
    (told_by_record files g.W.World.lawful c.args.picture.now cell tile.key c.depth-depth.result bytes
    (λ (b : List ℕ). HasValuesOn b (level_of tile.key) tile.rect area.window area.height new)
    c.depth-depth.ensures.told c.requires.cell c.requires.keyed c.depth-depth.ensures.value
    c.paint.ensures.told held))

pub depth-depth-requires : goal.depth-depth-requires
depth-depth-requires g c =
    rw c.level.ensures.value (level_of_cell c.args.picture.now c.args.cell.now c.requires.cell)
