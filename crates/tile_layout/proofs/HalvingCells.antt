-- The four texels from which one of the next level is made lie in one cell.
use Rattle.std.proofs.Common.{◌≡◌, ℕ, ◌+◌, ◌*◌, ◌/◌, ◌≤◌, refl, sym, ap, ◌∙◌}
use Rattle.std.proofs.Common.{arith, inl, inr}
use Rattle.std.proofs.Math.Nat.{div-eq_of_lt, div-div-eq-div-mul}
use Rattle.std.proofs.lemmas.Bool.{cases_lt}
use Rattle.tile_layout.specs.Cell.{CutLevel, cell_index}
use Rattle.tile_layout.specs.CutSide.{IsCellSide}
use Rattle.tile_layout.specs.Halving.{HalvesWithinCells}
use Rattle.tile_layout.specs.Texel.{clamped}

-- two neighbouring places, the first one even, are in one piece of even length
even_piece : (half x i : ℕ) → i ≤ 1 → (2 * x + i) / (2 * half) ≡ x / half
even_piece half x i low =
    let down : (2 * x + i) / 2 ≡ x = omega arith in
    sym (div-div-eq-div-mul (2 * x + i) 2 half) ∙ ap (λ n. n / half) down

-- two places are in one piece if it covers the side
in_first : (size cell place : ℕ) → 1 ≤ cell → size ≤ cell → clamped size place / cell ≡ 0
in_first size cell place some covers = div-eq_of_lt (omega arith)

one_piece : (size cell x i : ℕ) → IsCellSide size cell → i ≤ 1
    → clamped size (2 * x + i) / cell ≡ clamped size (2 * x) / cell
one_piece size cell x i is low = elim (cases_lt cell size) [
  | inl cut ↦
      let even = is.even cut in
      let half : 2 * (cell / 2) ≡ cell = omega (arith, even) in
      elim (cases_lt (2 * x + i) size) [
        | inl inside ↦
            let second : clamped size (2 * x + i) ≡ 2 * x + i = omega arith in
            let first : clamped size (2 * x) ≡ 2 * x + 0 = omega arith in
            rw (second, first, ← half)
            (even_piece (cell / 2) x i low ∙ sym (even_piece (cell / 2) x 0 (omega arith)))
        | inr behind ↦
            let same : clamped size (2 * x + i) ≡ clamped size (2 * x) = omega arith in
            ap (λ n. n / cell) same
      ]
  | inr covers ↦ in_first size cell (2 * x + i) is.some covers
      ∙ sym (in_first size cell (2 * x) is.some covers)
]

pub halves_within : (level : CutLevel) → IsCellSide level.width level.cell_width
    → IsCellSide level.height level.cell_height → HalvesWithinCells level
unfolding cell_index
halves_within level across down = λ x y i j narrow low.
    rw (one_piece level.width level.cell_width x i across narrow)
    (rw (one_piece level.height level.cell_height y j down low) refl)
