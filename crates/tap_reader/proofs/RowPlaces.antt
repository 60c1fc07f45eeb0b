-- Where is a byte of rows in the file, and which rows lie below a length?
use Rattle.std.proofs.Common.{◌≡◌, ℕ, ◌+◌, ◌-◌, ◌*◌, ◌/◌, ◌<◌, ◌≤◌, arith, ap, ◌∙◌}
use Rattle.std.proofs.Math.Nat.{mul_comm, mul-le-mul_right, div-lt_iff_lt-mul, mul-mod_right}
use Rattle.std.proofs.lemmas.Nat.{div-mul-add, mod-mul-add}
use Rattle.tex_world.specs.Tap.{AreRows, place_in_rows}

-- byte i of row r
pub place_of_byte : (at stride row r i : ℕ) → i < row
    → place_in_rows at stride row (r * row + i) ≡ at + r * stride + i
place_of_byte at stride row r i low = rw (div-mul-add r row i low, mod-mul-add r row i low)

-- the place of a byte of the first row
pub place_of_first : (at stride row i : ℕ) → i < row → place_in_rows at stride row i ≡ at + i
place_of_first at stride row i low =
    ap (λ n. place_in_rows at stride row n) (omega arith)
    ∙ place_of_byte at stride row 0 i low ∙ omega arith

-- Whole rows lie below a length if their last row ends below it.
pub rows_lie_below : (at stride row count len : ℕ) → 1 ≤ row → row ≤ stride → 1 ≤ count
    → at + (count - 1) * stride + row ≤ len → AreRows at stride row (row * count) len
rows_lie_below at stride row count len some apart one end = record {
  some = some;
  apart = apart;
  whole = mul-mod_right row count;
  below = λ k low.
      let line : k / row < count =
      (div-lt_iff_lt-mul some).1 (omega (arith, low, mul_comm row count)) in
      let before : k / row * stride ≤ (count - 1) * stride =
      mul-le-mul_right stride (omega (arith, line)) in
      omega (arith, before, end);
}
