-- A level has fewer than 2^32 blocks.
use Rattle.std.proofs.Common.{◌+◌, ℕ, ◌-◌, ◌*◌, ◌≤◌, Option, Some, None, refl, arith, inl, inr}
use Rattle.std.proofs.Math.Nat.{mul-le-mul, mul-le-mul_left, mul-div-le}
use Rattle.std.proofs.lemmas.Bool.{cases_lt}
use Rattle.tiff_format.specs.Block.{LevelShape, blocks_of, pieces_over, blocks_by}
use Rattle.tiff_format.specs.Facts.{IsSide, IsTileSide, HasTileSides, IsLevelShape}
use Rattle.tiff_format.proofs.Planes.{plane_count}

few_strips : (height rows : ℕ) → IsSide height → 1 ≤ rows → pieces_over height rows ≤ 131072
few_strips height rows h some = elim (cases_lt 131072 (pieces_over height rows)) [
  | inr few ↦ few
  | inl many ↦
      let more : rows * 131073 ≤ rows * pieces_over height rows = mul-le-mul_left rows many in
      absurd (omega (arith, more, h.high, mul-div-le (height + rows - 1) rows))
]

few_tiles : (side piece : ℕ) → IsSide side → IsTileSide piece → pieces_over side piece ≤ 8193
few_tiles side piece s p = elim (cases_lt 8193 (pieces_over side piece)) [
  | inr few ↦ few
  | inl many ↦
      let more : piece * 8194 ≤ piece * pieces_over side piece = mul-le-mul_left piece many in
      absurd (omega (arith, more, s.high, p.low, mul-div-le (side + piece - 1) piece))
]

few_by : (shape : LevelShape) (tile : Option (ℕ × ℕ)) → IsSide shape.width → IsSide shape.height
    → HasTileSides tile → 1 ≤ shape.rows_per_strip → blocks_by shape tile ≤ 67125249
few_by shape None w h t some = omega (arith, few_strips shape.height shape.rows_per_strip h some)
few_by shape (Some tile) w h t some =
    let sides = t tile refl in
    mul-le-mul (few_tiles shape.width tile.0 w sides.0) (few_tiles shape.height tile.1 h sides.1)

pub few_blocks : (shape : LevelShape) → IsLevelShape shape → blocks_of shape ≤ 537001992
few_blocks shape is =
    let planes = plane_count shape.channels shape.planes is.planes is.channels in
    mul-le-mul planes.1 (few_by shape shape.tile is.width is.height is.tile is.rows)
