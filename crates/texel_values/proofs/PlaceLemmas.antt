-- Where the values of a rectangle are, and which of them a row of samples fills.
use Rattle.std.proofs.Common.{◌≡◌, ℕ, ◌+◌, ◌-◌, ◌*◌, ◌<◌, ◌≤◌, ◌⊎◌, inl, inr, ap, arith, max, min}
use Rattle.std.proofs.Common.{Bool, true, false, nat_lt, refl}
use Rattle.std.proofs.Math.Nat.{mul-le-mul_left}
use Rattle.std.proofs.lemmas.Bool.{ltb-true, ltb-false}
use Rattle.std.proofs.lemmas.Nat.{mul-add-lt}
use Rattle.tiff_format.specs.declared.rect.Rect.{Rect}
use Rattle.texel_values.specs.declared.window.RegionShape.{RegionShape}
use Rattle.texel_values.specs.RegionShape.{IsIn, row_of}

-- the place of channel c of texel (i, j)
abbrev pub place_at : ℕ → ℕ → ℕ → ℕ → ℕ → ℕ
place_at w n i j c = j * (w * n) + (i * n + c)

-- one of two holds
pub less_or_not : (a b : ℕ) → (a < b) ⊎ (b ≤ a)
less_or_not a b = by (nat_lt a b) refl
  where
    by : (less : Bool) → nat_lt a b ≡ less → (a < b) ⊎ (b ≤ a)
    by true is = inl (ltb-true a b is)
    by false is = inr (ltb-false a b is)

-- a row of m texels from texel (i, j) on ends with the values
pub fits_row : (w n h j i m : ℕ) → j < h → i + m ≤ w
    → (j * (w * n) + i * n) + m * n ≤ h * (w * n)
fits_row w n h j i m low fits =
    let rows : (w * n) * (j + 1) ≤ (w * n) * h = mul-le-mul_left (w * n) (omega arith) in
    let row : n * (i + m) ≤ n * w = mul-le-mul_left n fits in
    omega (arith, rows, row)

module _ (w n : ℕ) where
  -- rows above
  above : (i j c k : ℕ) → i < w → c < n → j < k → place_at w n i j c < k * (w * n)
  above i j c k i_low c_low j_low =
      let row : i * n + c < w * n = omega (arith, mul-add-lt i n c w i_low c_low) in
      omega (arith, mul-add-lt j (w * n) (i * n + c) k j_low row)

  -- rows below
  below : (i j c k : ℕ) → k < j → (k + 1) * (w * n) ≤ place_at w n i j c
  below i j c k low =
      let rows : (w * n) * (k + 1) ≤ (w * n) * j = mul-le-mul_left (w * n) (omega arith) in
      omega (arith, rows)

-- What is known of a row of a tile that is written: the columns from `left` to `right` of row y.
pub record IsRow (window : RegionShape) (rect : Rect) (left right top bottom y : ℕ) : Type 0 where
  pub left_is : left ≡ max rect.x window.columns.first
  pub right_is : right ≡ min (rect.x + rect.w) (window.columns.first + window.columns.inside)
  pub top_is : top ≡ max rect.y window.rows.first
  pub bottom_is : bottom ≡ min (rect.y + rect.h) (window.rows.first + window.rows.inside)
  pub some : left < right
  pub low : top ≤ y
  pub high : y < bottom
  pub across : window.columns.before + window.columns.inside ≤ window.width

module _ (window : RegionShape) (rect : Rect) (left right top bottom y : ℕ)
    (is : IsRow window rect left right top bottom y) where
  abbrev pub first_i : ℕ
  first_i = window.columns.before + (left - window.columns.first)

  abbrev pub row_j : ℕ
  row_j = window.rows.before + (y - window.rows.first)

  abbrev pub from_place : ℕ
  from_place = row_j * (window.width * window.channels) + first_i * window.channels

  -- the row of samples ends within its row of the region
  pub ends : first_i + (right - left) ≤ window.width
  ends = omega (arith, is.left_is, is.right_is, is.some, is.across)

  -- any other value comes before the row or after it
  pub elsewhere : (i j c : ℕ) → i < window.width → c < window.channels
      → ¬ (IsIn window rect i j × (row_of window j ≡ y))
      → (place_at window.width window.channels i j c < from_place)
      ⊎ (from_place + (right - left) * window.channels ≤ place_at window.width window.channels i j c)
  elsewhere i j c i_low c_low other = by_row (less_or_not j row_j)
    where
      in_row : j ≡ row_j → (i < first_i) ⊎ (first_i ≤ i)
          → (place_at window.width window.channels i j c < from_place)
          ⊎ (from_place + (right - left) * window.channels
          ≤ place_at window.width window.channels i j c)
      in_row same (inl before) = inl (omega (
        arith,
        ap (λ (k : ℕ). k * (window.width * window.channels)) same,
        mul-add-lt i window.channels c first_i before c_low,
      ))
      in_row same (inr from) = behind (less_or_not i (first_i + (right - left)))
        where
          behind : (i < first_i + (right - left)) ⊎ (first_i + (right - left) ≤ i)
              → (place_at window.width window.channels i j c < from_place)
              ⊎ (from_place + (right - left) * window.channels
              ≤ place_at window.width window.channels i j c)
          behind (inl within) = absurd (other (
            (
              record {
                left = omega (arith, from);
                right = omega (arith, within, is.left_is, is.right_is, is.some);
                top = omega (arith, same);
                bottom = omega (arith, same, is.low, is.high, is.top_is, is.bottom_is);
              },
              record {
                left = omega (arith, from, is.left_is);
                right = omega (arith, within, from, is.left_is, is.right_is, is.some);
                top = omega (arith, same, is.low, is.top_is);
                bottom = omega (arith, same, is.low, is.high, is.top_is, is.bottom_is);
              },
            ),
            omega (arith, same, is.low, is.top_is),
          ))
          behind (inr after) =
              let row : window.channels * (first_i + (right - left)) ≤ window.channels * i =
              mul-le-mul_left window.channels after in
              inr (omega (
                arith,
                ap (λ (k : ℕ). k * (window.width * window.channels)) same,
                row,
              ))

      by_row : (j < row_j) ⊎ (row_j ≤ j)
          → (place_at window.width window.channels i j c < from_place)
          ⊎ (from_place + (right - left) * window.channels
          ≤ place_at window.width window.channels i j c)
      by_row (inl low) =
          inl (omega (arith, above window.width window.channels i j c row_j i_low c_low low))
      by_row (inr high) = at_or_below (less_or_not row_j j)
        where
          at_or_below : (row_j < j) ⊎ (j ≤ row_j)
              → (place_at window.width window.channels i j c < from_place)
              ⊎ (from_place + (right - left) * window.channels
              ≤ place_at window.width window.channels i j c)
          at_or_below (inl more) = inr (omega (
            arith,
            below window.width window.channels i j c row_j more,
            fits_row window.width window.channels (row_j + 1) row_j first_i (right - left)
                (omega arith) ends,
          ))
          at_or_below (inr no_more) = in_row (omega (arith, high, no_more)) (less_or_not i first_i)

  -- the value of a texel of the row
  pub place_is : (i j c : ℕ) → IsIn window rect i j → row_of window j ≡ y
      → place_at window.width window.channels i j c
      ≡ from_place + ((i - first_i) * window.channels + c)
  place_is i j c at row =
      let j_is : j ≡ row_j = omega (arith, at.0.top, row, is.low, is.top_is) in
      let i_is : i ≡ first_i + (i - first_i) =
      omega (arith, at.0.left, at.1.left, is.left_is) in
      omega (
        arith,
        ap (λ (k : ℕ). k * (window.width * window.channels)) j_is,
        ap (λ (k : ℕ). k * window.channels) i_is,
      )

  -- the row's values are among those of the region
  pub ends_within : (height total : ℕ)
      → window.rows.before + window.rows.inside ≤ height
      → total ≡ height * (window.width * window.channels)
      → from_place + (right - left) * window.channels ≤ total
  ends_within height total down count =
      let low : row_j < height =
      omega (arith, down, is.low, is.high, is.top_is, is.bottom_is) in
      let fits = fits_row window.width window.channels height row_j first_i (right - left) low ends in
      omega (arith, fits, count)
