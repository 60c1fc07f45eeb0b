-- The parts of a cell of a generated level, along one side.
use Rattle.std.proofs.Common.{◌≡◌, ℕ, ◌+◌, ◌-◌, ◌*◌, ◌/◌, ◌%◌, ◌<◌, ◌≤◌}
use Rattle.std.proofs.Common.{ap, ◌∙◌, arith, inl, inr}
use Rattle.std.proofs.Math.Nat.{mul-le-mul}
use Rattle.std.proofs.lemmas.Bool.{cases_lt}
use Rattle.std.proofs.lemmas.Nat.{div-mul-add, mod_below, div-add-mod'}
use Rattle.tiff_format.specs.Block.{pieces_over}
use Rattle.tiff_format.specs.Level.{halved}
use Rattle.tiff_format.specs.Limits.{max_side}
use Rattle.tile_layout.specs.Cell.{clipped}
use Rattle.tile_layout.specs.Texel.{clamped}
use Rattle.tile_layout.proofs.BlockLemmas.{piece_below}
use Rattle.tile_load.specs.Halving.{source_cell, source_cells}
use Rattle.tile_load.specs.Halved.{IsHalfCell}

-- ---- multiples of a side

no_longer : (a b cell : ℕ) → a ≤ b → a * cell ≤ b * cell
no_longer a b cell le = let same : cell ≤ cell = omega arith in mul-le-mul le same

below_of : (a b cell : ℕ) → a * cell < b * cell → a < b
below_of a b cell less = elim (cases_lt a b) [
  | inl lt ↦ lt
  | inr le ↦ absurd (omega (arith, no_longer b a cell le))
]

-- the cell of a place begins at or before it, and ends after it
in_cell : (place cell : ℕ) → 1 ≤ cell
    → (place / cell * cell ≤ place) × (place < place / cell * cell + cell)
in_cell place cell some =
    let whole = div-add-mod' place cell in
    let rest = mod_below place cell some in
    (omega arith, omega arith)

-- ---- the first source of a place of the next level

pub source_at : (side x : ℕ) → 1 ≤ side → x < halved side → clamped side (2 * x) ≡ 2 * x
source_at side x some below = omega arith

-- if both sources are in a part of the side that begins at an even place
source_in : (side m w i e x : ℕ) → 1 ≤ w → m + w ≤ side → m % 2 ≡ 0 → (w ≡ 1 → side ≡ 1)
    → i < halved w → e ≤ 1 → x ≡ m / 2 + i
    → clamped side (2 * x + e) ≡ m + clamped w (2 * i + e)
source_in side m w i e x some inside even whole below low is = elim (cases_lt 1 w) [
  | inl wide ↦ omega arith
  | inr narrow ↦
      let one : w ≡ 1 = omega arith in
      let all = whole one in
      omega arith
]

-- ---- the cells that hold the sources of a cell of the next level

module _ (side cell from n : ℕ) (is : IsHalfCell side cell from n) where
  abbrev first : ℕ
  first = source_cell side cell from

  abbrev last : ℕ
  last = source_cell side cell (from + n - 1)

  inside : from + n ≤ halved side
  inside = let long = is.long in let some = is.some_n in omega arith

  pub within_side : from + n ≤ side
  within_side = let some = is.some in omega (arith, inside)

  pub cell_ends : from + n ≤ max_side
  cell_ends =
      let high = is.high in
      let some = is.some in
      omega (arith, inside)

  -- where a source of the cell lies
  source_is : (x : ℕ) → x < from + n
      → (source_cell side cell x * cell ≤ 2 * x) × (2 * x < source_cell side cell x * cell + cell)
  source_is x below =
      let at : clamped side (2 * x) ≡ 2 * x =
      source_at side x is.some (omega (arith, inside)) in
      let both = in_cell (clamped side (2 * x)) cell is.piece.some in
      (omega (arith, both.0, at), omega (arith, both.1, at))

  -- a side that is not cut has one cell, and the cell of the next level is all of it
  one_cell : side ≤ cell → from ≡ 0
  one_cell covers = elim (cases_lt is.number 1) [
    | inl low ↦
        let none : is.number ≡ 0 = omega arith in
        is.from_is ∙ ap (λ k. k * cell) none ∙ omega arith
    | inr high ↦
        let more = no_longer 1 is.number cell high in
        let at = is.from_is in
        let some = is.some_n in
        let low = is.some in
        absurd (omega (arith, inside))
  ]

  -- the first part begins at the first source
  first_is : first * cell ≡ 2 * from
  first_is = elim (cases_lt cell side) [
    | inl less ↦
        let some = is.some_n in
        let both = source_is from (omega arith) in
        let at = is.from_is in
        let double : 2 * is.number * cell ≡ 2 * from = omega arith in
        let up : first < 2 * is.number + 1 =
        below_of first (2 * is.number + 1) cell
        (let low = is.piece.some in omega (arith, both.0)) in
        let down : 2 * is.number < first + 1 =
        below_of (2 * is.number) (first + 1) cell (omega (arith, both.1)) in
        let same : first ≡ 2 * is.number = omega arith in
        ap (λ k. k * cell) same ∙ double
    | inr covers ↦
        let some = is.some_n in
        let none = one_cell covers in
        let both = source_is from (omega arith) in
        let low : first < 1 = below_of first 1 cell
        (let room = is.piece.some in omega (arith, both.0)) in
        let zero_is : first ≡ 0 = omega arith in
        ap (λ k. k * cell) zero_is ∙ omega arith
  ]

  last_low : first ≤ last
  last_low =
      let some = is.some_n in
      let both = source_is (from + n - 1) (omega arith) in
      let less = below_of first (last + 1) cell (omega (arith, both.1, first_is)) in
      omega arith

  last_high : last ≤ first + 1
  last_high =
      let some = is.some_n in
      let long = is.long in
      let both = source_is (from + n - 1) (omega arith) in
      let less = below_of last (first + 2) cell (omega (arith, both.0, first_is)) in
      omega arith

  -- there are one or two
  pub some_parts : 1 ≤ source_cells side cell from n
  some_parts = omega (arith, last_low)

  pub few_parts : source_cells side cell from n ≤ 2
  few_parts = omega (arith, last_high)

  -- ---- a part of them

  module _ (p : ℕ) (low : first ≤ p) (high : p < first + source_cells side cell from n) where
    up_to_last : p ≤ last
    up_to_last = omega (arith, last_low)

    -- the places of the part
    abbrev m : ℕ
    m = p * cell

    abbrev w : ℕ
    w = clipped side m cell

    begins : (2 * from ≤ m) × (m ≤ 2 * from + cell) × (m ≤ 2 * (from + n - 1))
    begins =
        let some = is.some_n in
        let both = source_is (from + n - 1) (omega arith) in
        let behind = no_longer first p cell low in
        let before = no_longer p last cell up_to_last in
        let next = no_longer p (first + 1) cell (omega (arith, up_to_last, last_high)) in (
          omega (arith, behind, first_is),
          omega (arith, next, first_is),
          omega (arith, before, both.0),
        )

    pub even : m % 2 ≡ 0
    even = elim (cases_lt cell side) [
      | inl less ↦
          let half = is.piece.even less in
          let double : cell ≡ 2 * (cell / 2) = omega arith in
          let twice : m ≡ 2 * (p * (cell / 2)) = ap (λ k. p * k) double ∙ omega arith in
          omega arith
      | inr covers ↦
          let none = one_cell covers in
          let room = is.some in
          let some = is.some_n in
          let less : m < 1 * cell = omega (arith, begins.2, inside) in
          let lowest : p < 1 = below_of p 1 cell less in
          let zero_is : p ≡ 0 = omega arith in
          let start : m ≡ 0 = ap (λ k. k * cell) zero_is ∙ omega arith in
          omega arith
    ]

    pub below_side : m < side
    below_side =
        let room = is.some in
        let some = is.some_n in
        omega (arith, begins.2, inside)

    pub is_cell : p < pieces_over side cell
    is_cell =
        let there : p * cell / cell < pieces_over side cell =
        piece_below side cell (p * cell) is.piece.some below_side in
        let room = is.piece.some in
        let at : p * cell / cell ≡ p =
        ap (λ k. k / cell) (let same : p * cell ≡ p * cell + 0 = omega arith in same)
        ∙ div-mul-add p cell 0 room in
        omega arith

    pub some_wide : 1 ≤ w
    some_wide = let room = is.piece.some in omega (arith, below_side)

    pub ends : m + w ≤ side
    ends = omega (arith, below_side)

    pub narrow : w ≡ 1 → side ≡ 1
    narrow one = elim (cases_lt 1 side) [
      | inl wide ↦
          let some = is.some_n in
          let left : 2 ≤ side - m = omega (arith, begins.2, inside) in
          let two : 2 ≤ cell = elim (cases_lt cell side) [
            | inl less ↦ let half = is.piece.even less in let room = is.piece.some in omega arith
            | inr covers ↦ omega arith
          ] in
          absurd (omega arith)
      | inr one_is ↦ let room = is.some in omega arith
    ]

    pub from_left : from ≤ m / 2
    from_left = omega (arith, begins.0)

    pub to_right : m / 2 + halved w ≤ from + n
    to_right =
        let some = is.some_n in
        let long = is.long in
        let start = begins in
        let half = even in
        let all = inside in
        let before = below_side in
        omega arith

    -- the sources of a place that is made of the part
    pub sources : (i x : ℕ) → i < halved w → x ≡ m / 2 + i
        → (clamped side (2 * x) ≡ m + clamped w (2 * i))
        × (clamped side (2 * x + 1) ≡ m + clamped w (2 * i + 1))
    sources i x below at =
        let one : 1 ≤ 1 = omega arith in
        let none : 0 ≤ 1 = omega arith in
        let first = source_in side m w i 0 x some_wide ends even narrow below none at in
        (omega (arith, first), source_in side m w i 1 x some_wide ends even narrow below one at)

  -- ---- the part of a place

  module _ (x : ℕ) (after : from ≤ x) (below : x < from + n) where
    abbrev p_of : ℕ
    p_of = source_cell side cell x

    pub part_low : first ≤ p_of
    part_low =
        let both = source_is x below in
        let less = below_of first (p_of + 1) cell (omega (arith, both.1, first_is)) in
        omega arith

    part_last : p_of ≤ last
    part_last =
        let some = is.some_n in
        let both = source_is x below in
        let end = source_is (from + n - 1) (omega arith) in
        let less = below_of p_of (last + 1) cell (omega (arith, both.0, end.1)) in
        omega arith

    pub part_high : p_of < first + source_cells side cell from n
    part_high = omega (arith, part_last, last_low)

    pub holds_low : p_of * cell / 2 ≤ x
    holds_low = omega (arith, (source_is x below).0)

    pub holds_high : x < p_of * cell / 2 + halved (clipped side (p_of * cell) cell)
    holds_high =
        let both = source_is x below in
        let half = even p_of part_low part_high in
        let room = is.some in
        let all = inside in
        elim (cases_lt cell side) [
          | inl less ↦ let pair = is.piece.even less in omega (arith, both.0, both.1)
          | inr covers ↦
              let none = one_cell covers in
              let start = begins p_of part_low part_high in
              let long = is.long in
              omega (arith, both.0, both.1)
        ]
