use Rattle.std.proofs.Common.{◌≡◌, ◌+◌, ◌*◌, ◌<◌, ◌^◌, arith, sym, get_or, refl}
use Rattle.std.proofs.lemmas.List.{get_or_read}
use Rattle.tiff_format.specs.Shown.{shown, shown_shape}
use Rattle.tiff_format.specs.Texel.{block_index, sample_place}
use Rattle.tile_layout.specs.declared.piece.Piece.{Piece}
use Rattle.tile_layout.specs.Plane.{plane_level}
use Rattle.tile_layout.proofs.PlaneBlocks.{plane_offset}
use Rattle.tile_layout.proofs.PlaceLemmas.{place_is}
use Rattle.tile_layout.proofs.BlockLemmas.{sound, ends_below}
use Rattle.tile_layout.proofs.place.place.Goals as goal

same : (c : goal.After-texel_bytes)
    → c.index-offset.result.now + c.texels_before.result * c.texel_bytes.result
    ≡ sample_place (plane_level (shown c.args.dir.now) c.args.plane) c.args.x c.args.y 0
same c =
    let dir = c.args.dir.now in
    let level = plane_level (shown dir) c.args.plane in
    let offset : c.index-offset.result.now ≡ get_or dir.offsets.items c.block_index.result 0 =
    get_or_read dir.offsets.items c.block_index.result c.index-offset.result.now
    c.block_index.ensures.stored c.index-offset.ensures 0 in
    rw (
      offset,
      c.block_index.ensures.value,
      c.texels_before.ensures,
      c.texel_bytes.ensures,
      ← plane_offset (shown dir) c.args.plane (block_index (shown_shape dir) c.args.x c.args.y),
    ) (sym (place_is level c.args.x c.args.y refl))

-- the place is below 2^64
low : (c : goal.After-texel_bytes)
    → c.index-offset.result.now + c.texels_before.result * c.texel_bytes.result < 2 ^ 64
low c =
    let dir = c.args.dir.now in
    let level = plane_level (shown dir) c.args.plane in
    let none : Piece = record {
      at = sample_place level c.args.x c.args.y 0;
      x = c.args.x;
      y = c.args.y;
      n = 0;
    } in
    let ends = ends_below level none (sound dir c.args.plane c.requires.plane) c.requires.across c.requires.down refl
    (omega arith) in
    omega (arith, same c, ends)

pub overflow_mul-result : goal.overflow_mul-result
overflow_mul-result c = omega (arith, low c)

pub overflow_add-result : goal.overflow_add-result
overflow_add-result c = omega (arith, low c)

pub returns : goal.returns
returns c = same c
