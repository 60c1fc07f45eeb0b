-- The texels of a row of a strip or tile lie in it.
use Rattle.std.proofs.Common.{◌≡◌, ℕ, ◌+◌, ◌-◌, ◌*◌, ◌/◌, ◌%◌, ◌^◌, ◌<◌, ◌≤◌, min, get_or}
use Rattle.std.proofs.Common.{Option, Some, None, Bool, true, false, eqb, refl, arith, lit≤}
use Rattle.std.specs.Prelude.{if◌then◌else◌}
use Rattle.std.proofs.Math.Nat.{mul-le-mul_right, div-mul-le_self, div-add-mod, mod-eq_of_lt}
use Rattle.std.proofs.lemmas.Nat.{le-div, mod_below, mul-add-lt}
use Rattle.tiff_format.specs.declared.dir.Dir.{Dir}
use Rattle.tiff_format.specs.Block.{LevelShape, Level, pieces_over, blocks_by, block_texels_by}
use Rattle.tiff_format.specs.Block.{blocks_of, plane_blocks, block_bytes, texel_bytes}
use Rattle.tiff_format.specs.Shown.{shown, shown_shape}
use Rattle.tiff_format.specs.Facts.{HasTileSides, IsChannelCount, IsLevelShape}
use Rattle.tiff_format.specs.Texel.{block_by, texels_before_by, sample_place}
use Rattle.tile_layout.specs.declared.piece.Piece.{Piece}
use Rattle.tile_layout.specs.Pieces.{row_rest_by, row_rest, block_of, LiesInBlock}
use Rattle.tile_layout.specs.Plane.{plane_shape, plane_level}
use Rattle.tile_layout.proofs.PlaneBlocks.{plane_offset, plane_block, block_there}
use Rattle.tile_layout.proofs.PlaceLemmas.{place_is}

-- place y is in one of the pieces that cover the side
pub piece_below : (side piece y : ℕ) → 1 ≤ piece → y < side → y / piece < pieces_over side piece
piece_below side piece y some below =
    let more : (y / piece + 1) * piece ≤ side + piece - 1 =
    omega (arith, div-mul-le_self y piece) in
    omega (arith, le-div (y / piece + 1) (side + piece - 1) piece some more)

-- a row lies in the strip with its number, also if the planes before it have as many strips
strip_of : (side piece y : ℕ) → 1 ≤ piece → y < side
    → y / piece % pieces_over side piece ≡ y / piece
strip_of side piece y some below = mod-eq_of_lt (piece_below side piece y some below)

-- ---- the block of a texel

pub block_below : (shape : LevelShape) (tile : Option (ℕ × ℕ)) (x y : ℕ) → HasTileSides tile
    → 1 ≤ shape.rows_per_strip → x < shape.width → y < shape.height
    → block_by shape tile x y < blocks_by shape tile
block_below shape None x y sides some across down =
    piece_below shape.height shape.rows_per_strip y some down
block_below shape (Some tile) x y sides some across down =
    let is = sides tile refl in
    mul-add-lt (y / tile.1) (pieces_over shape.width tile.0) (x / tile.0)
    (pieces_over shape.height tile.1)
    (piece_below shape.height tile.1 y (omega (arith, is.1.low)) down)
    (piece_below shape.width tile.0 x (omega (arith, is.0.low)) across)

-- ---- they lie in the block

-- n texels of a row of a block, from its column x on, fit in a block with this many rows
row_fits : (width row rows unit x n : ℕ) → row < rows → x + n ≤ width
    → (row * width + x + n) * unit ≤ rows * width * unit
row_fits width row rows unit x n below fits =
    let one_row : row * width + x + n ≤ (row + 1) * width = omega arith in
    let all_rows : (row + 1) * width ≤ rows * width = mul-le-mul_right width (omega arith) in
    mul-le-mul_right unit (omega (arith, one_row, all_rows))

block_fits : (shape : LevelShape) (tile : Option (ℕ × ℕ)) (x y n unit : ℕ)
    → HasTileSides tile → 1 ≤ shape.rows_per_strip → x < shape.width → y < shape.height
    → n ≤ row_rest_by shape tile x
    → (texels_before_by shape tile x y + n) * unit
    ≤ block_texels_by shape tile (block_by shape tile x y) * unit
block_fits shape None x y n unit sides some across down le =
    let rows = shape.rows_per_strip in
    let row : y % rows < min rows (shape.height - rows * (y / rows)) =
    omega (arith, mod_below y rows some, div-add-mod y rows) in
    rw (strip_of shape.height rows y some down)
    (row_fits shape.width (y % rows) (min rows (shape.height - rows * (y / rows))) unit x n row
    (omega arith))
block_fits shape (Some tile) x y n unit sides some across down le =
    let is = sides tile refl in
    let row : y % tile.1 < tile.1 = mod_below y tile.1 (omega (arith, is.1.low)) in
    let column : x % tile.0 < tile.0 = mod_below x tile.0 (omega (arith, is.0.low)) in
    omega (
      arith,
      row_fits tile.0 (y % tile.1) tile.1 unit (x % tile.0) n row (omega arith),
    )

-- what is known of every plane, taken alone
pub record IsSound (level : Level) : Type 0 where
  pub shape : IsLevelShape level.shape
  pub ends : (i : ℕ) → i < blocks_of level.shape
      → get_or level.offsets i 0 + block_bytes level.shape i < 2 ^ 64
  pub one : level.shape.planes ≡ 1

module _ (dir : Dir) (p : ℕ) (is : p < dir.planes) where
  pub plane_channels : (b : Bool) → IsChannelCount (if b then dir.channels else 1)
  plane_channels true = dir.shape_in.channels
  plane_channels false = record { low = lit≤ tt; high = lit≤ tt }

  plane_shape_in : IsLevelShape (plane_shape (shown_shape dir) p)
  plane_shape_in = record {
    width = dir.shape_in.width;
    height = dir.shape_in.height;
    channels = plane_channels (eqb dir.planes 1);
    planes = refl;
    depth = dir.shape_in.depth;
    tile = dir.shape_in.tile;
    rows = dir.shape_in.rows;
  }

  pub sound : IsSound (plane_level (shown dir) p)
  sound = record {
    shape = plane_shape_in;
    ends = λ i lt.
        let level = shown dir in
        let below : i < plane_blocks level.shape = omega (arith, lt) in
        rw (plane_offset level p i, plane_block level p i)
        (dir.offsets_in.ends (p * plane_blocks level.shape + i)
        (rw dir.offsets_in.count (block_there level p i is below)));
    one = refl;
  }

-- ---- a piece

module _ (level : Level) (piece : Piece) (is : IsSound level) (across : piece.x < level.shape.width)
    (down : piece.y < level.shape.height) (at : piece.at ≡ sample_place level piece.x piece.y 0)
    (le : piece.n ≤ row_rest level.shape piece.x) where
  pub lies_in_block : LiesInBlock level piece
  lies_in_block = record {
    is = rw is.one (omega (
      arith,
      block_below level.shape level.shape.tile piece.x piece.y is.shape.tile is.shape.rows across
          down,
    ));
    from = omega (arith, at, place_is level piece.x piece.y is.one);
    to = omega (
      arith,
      at,
      place_is level piece.x piece.y is.one,
      block_fits level.shape level.shape.tile piece.x piece.y piece.n (texel_bytes level.shape)
          is.shape.tile is.shape.rows across down le,
    );
  }

  -- no byte of the piece lies past 2^64
  pub ends_below : piece.at + piece.n * texel_bytes level.shape < 2 ^ 64
  ends_below =
      omega (arith, lies_in_block.to, is.ends (block_of level.shape piece) lies_in_block.is)
