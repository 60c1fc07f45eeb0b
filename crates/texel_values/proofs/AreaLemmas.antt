-- The cells that a region meets, and the values of all of it.
use Rattle.std.proofs.Common.{◌≡◌, ℕ, ◌+◌, ◌-◌, ◌*◌, ◌/◌, ◌%◌, ◌<◌, ◌≤◌, ◌⊎◌, inl, inr, ◌==◌, ◌∙◌}
use Rattle.std.proofs.Common.{Bool, true, false, refl, sym, ap, subst, arith, List, Option, Some, None}
use Rattle.std.proofs.Common.{length}
use Rattle.std.specs.Prelude.{if◌then◌else◌, ℤ, pos, ◌+ℤ◌}
use Rattle.std.proofs.Math.Nat.{div-mul-le_self}
use Rattle.std.proofs.lemmas.Bool.{eqb-true, eqb-false}
use Rattle.std.proofs.lemmas.Nat.{mul-add-lt, div-mul-add, mod-mul-add, mod_below, div_below, le-div}
use Rattle.tiff_format.specs.Block.{pieces_over}
use Rattle.tiff_format.specs.declared.cut.Cut.{Cut}
use Rattle.tile_layout.specs.declared.grid.Grid.{Grid}
use Rattle.tile_layout.specs.Grid.{shown_grid}
use Rattle.tile_layout.specs.Cell.{cells_across, cells_down, cell_count, cell_index, cell_rect}
use Rattle.tile_layout.specs.Cell.{HoldsTexel, cut_level_of, channels_of}
use Rattle.tile_layout.specs.Value.{channel_value_of}
use Rattle.tile_layout.proofs.BlockLemmas.{piece_below}
use Rattle.tile_layout.proofs.CellLemmas.{holds_texel}
use Rattle.tile_layout.proofs.GridLemmas.{has_cells}
use Rattle.texel_values.specs.declared.area.Area.{Area}
use Rattle.texel_values.specs.declared.overlap.Overlap.{Overlap}
use Rattle.texel_values.specs.declared.region.Region.{Region}
use Rattle.texel_values.specs.Met.{cells_met}
use Rattle.texel_values.specs.Area.{area_cell, area_cells, IsAreaOf, IsPainted, IsZeroBeside}
use Rattle.texel_values.specs.Overlap.{index_in, IsOverlap}
use Rattle.texel_values.specs.Region.{value_at, value_or_zero, AreRegionValues}
use Rattle.texel_values.specs.RegionShape.{InWindow, IsIn, column_of, row_of, HasValuesOn}
use Rattle.texel_values.proofs.PlaceLemmas.{less_or_not}

-- ---- a side

div_later : (a b n : ℕ) → 1 ≤ n → a ≤ b → a / n ≤ b / n
div_later a b n some later =
    le-div (a / n) b n some (omega (arith, later, div-mul-le_self a n))

-- if the range has places, the cells that it meets exist on the side
below_by : (cell first inside size n : ℕ) (none : Bool) → (inside == 0) ≡ none → 1 ≤ cell
    → first + inside ≤ size
    → n < (if none then 0 else (first + inside - 1) / cell - first / cell + 1)
    → first / cell + n < pieces_over size cell
below_by cell first inside size n true is some within low = absurd (omega (arith, low))
below_by cell first inside size n false is some within low =
    let there = eqb-false inside 0 is in
    let last = first + inside - 1 in
    omega (
      arith,
      low,
      div_later first last cell some (omega (arith, there)),
      piece_below size cell last some (omega (arith, there, within)),
    )

some_inside : (cell first inside : ℕ) (none : Bool) → (inside == 0) ≡ none
    → 0 < (if none then 0 else (first + inside - 1) / cell - first / cell + 1) → 1 ≤ inside
some_inside cell first inside true is some = absurd (omega (arith, some))
some_inside cell first inside false is some =
    let there = eqb-false inside 0 is in omega (arith, there)

pub below_met : (cell first inside size n : ℕ) → 1 ≤ cell → first + inside ≤ size
    → n < cells_met cell first inside → first / cell + n < pieces_over size cell
below_met cell first inside size n some within low =
    below_by cell first inside size n (inside == 0) refl some within low

-- the cell of a place is one of those that are met
met_by : (cell first inside x : ℕ) (none : Bool) → (inside == 0) ≡ none → 1 ≤ cell → first ≤ x
    → x < first + inside
    → x / cell - first / cell < (if none then 0 else (first + inside - 1) / cell - first / cell + 1)
met_by cell first inside x true is some low high =
    let gone = eqb-true inside 0 is in absurd (omega (arith, low, high, gone))
met_by cell first inside x false is some low high =
    omega (arith, div_later x (first + inside - 1) cell some (omega (arith, high)))

met_some : (cell first inside x : ℕ) → 1 ≤ cell → first ≤ x → x < first + inside
    → x / cell - first / cell < cells_met cell first inside
met_some cell first inside x some low high =
    met_by cell first inside x (inside == 0) refl some low high

-- ---- cells

-- if there is a number below a product, the second factor is not 0
some_of : (k m n : ℕ) → k < m * n → 0 < n
some_of k m n low = by (less_or_not 0 n)
  where
    by : (0 < n) ⊎ (n ≤ 0) → 0 < n
    by (inl some) = some
    by (inr none) =
        let zero_is : n ≡ 0 = omega (arith, none) in
        absurd (omega (arith, low, ap (λ (x : ℕ). m * x) zero_is))

module _ (area : Area) where
  abbrev grid : Grid
  grid = area.grid

  abbrev columns : Overlap
  columns = area.window.columns

  abbrev rows : Overlap
  rows = area.window.rows

  abbrev across : ℕ
  across = cells_met grid.across.cell columns.first columns.inside

  abbrev down : ℕ
  down = cells_met grid.down.cell rows.first rows.inside

  pub row_low : (k : ℕ) → k < area_cells area
      → rows.first / grid.down.cell + k / across < cells_down (shown_grid grid)
  row_low k low =
      below_met grid.down.cell rows.first rows.inside grid.down.size (k / across)
      (has_cells grid).cell_height area.met.rows
      (div_below k across down (some_of k down across low) low)

  pub column_low : (k : ℕ) → k < area_cells area
      → columns.first / grid.across.cell + k % across < cells_across (shown_grid grid)
  column_low k low =
      below_met grid.across.cell columns.first columns.inside grid.across.size (k % across)
      (has_cells grid).cell_width area.met.columns (mod_below k across (some_of k down across low))

  pub cell_low : (k : ℕ) → k < area_cells area → area_cell area k < cell_count (shown_grid grid)
  cell_low k low =
      mul-add-lt (rows.first / grid.down.cell + k / across) (cells_across (shown_grid grid))
      (columns.first / grid.across.cell + k % across) (cells_down (shown_grid grid))
      (row_low k low) (column_low k low)

  -- if the area meets a cell, its first place on each side lies on the level
  pub column_first : (k : ℕ) → k < area_cells area → columns.first < grid.across.size
  column_first k low =
      let some = some_inside grid.across.cell columns.first columns.inside (columns.inside == 0) refl
      (some_of k down across low) in
      let within = area.met.columns in
      omega (arith, some, within)

  pub row_first : (k : ℕ) → k < area_cells area → rows.first < grid.down.size
  row_first k low =
      let some = some_inside grid.down.cell rows.first rows.inside (rows.inside == 0) refl
      (omega (arith, div_below k across down (some_of k down across low) low)) in
      let within = area.met.rows in
      omega (arith, some, within)

  in_cell : (x y n : ℕ) → n ≡ y / grid.down.cell * cells_across (shown_grid grid)
      + x / grid.across.cell → x < grid.across.size → y < grid.down.size
      → HoldsTexel (cell_rect (shown_grid grid) n) x y
  unfolding cell_index
  in_cell x y n is x_low y_low =
      subst (λ (k : ℕ). HoldsTexel (cell_rect (shown_grid grid) k) x y) (sym is)
      (holds_texel (shown_grid grid) (has_cells grid) x y x_low y_low)

  -- a texel of the region on its level lies in one of the cells that are met
  pub met_texel : (i j : ℕ) → InWindow area.window i j → (m : ℕ) × (m < area_cells area)
      × IsIn area.window (cell_rect (shown_grid grid) (area_cell area m)) i j
  met_texel i j at =
      let x = column_of area.window i in
      let y = row_of area.window j in
      let x_low : columns.first ≤ x = omega arith in
      let y_low : rows.first ≤ y = omega arith in
      let x_high : x < columns.first + columns.inside = omega (arith, at.left, at.right) in
      let y_high : y < rows.first + rows.inside = omega (arith, at.top, at.bottom) in
      let q = x / grid.across.cell - columns.first / grid.across.cell in
      let r = y / grid.down.cell - rows.first / grid.down.cell in
      let q_low = met_some grid.across.cell columns.first columns.inside x
      (has_cells grid).cell_width x_low x_high in
      let r_low = met_some grid.down.cell rows.first rows.inside y (has_cells grid).cell_height
      y_low y_high in
      let m = r * across + q in
      let m_low : m < down * across = omega (arith, mul-add-lt r across q down r_low q_low) in
      let row : rows.first / grid.down.cell + m / across ≡ y / grid.down.cell = omega (
        arith,
        div-mul-add r across q q_low,
        div_later rows.first y grid.down.cell (has_cells grid).cell_height y_low,
      ) in
      let column : columns.first / grid.across.cell + m % across ≡ x / grid.across.cell = omega (
        arith,
        mod-mul-add r across q q_low,
        div_later columns.first x grid.across.cell (has_cells grid).cell_width x_low,
      ) in
      let is : area_cell area m ≡ y / grid.down.cell * cells_across (shown_grid grid)
      + x / grid.across.cell =
      ap (λ (n : ℕ). n * cells_across (shown_grid grid)
      + (columns.first / grid.across.cell + m % across)) row
      ∙ ap (λ (n : ℕ). y / grid.down.cell * cells_across (shown_grid grid) + n) column in (
        m,
        m_low,
        (
          at,
          in_cell x y (area_cell area m) is
              (omega (arith, x_high, area.met.columns)) (omega (arith, y_high, area.met.rows)),
        ),
      )

  -- if the texels of all cells that are met are painted, all texels are
  pub painted_all : (bytes values : List ℕ)
      → ((m : ℕ) → m < area_cells area → HasValuesOn bytes area.level
      (cell_rect (shown_grid grid) (area_cell area m)) area.window area.height values)
      → IsPainted bytes area values
  painted_all bytes values cells i j c i_low j_low c_low at =
      let met = met_texel i j at in cells met.0 met.1 i j c i_low j_low c_low met.2

-- ---- values

-- A place is before a side, on it, or after it.
record IsBeside (start : ℤ) (size : ℕ) (over : Overlap) (i : ℕ) : Type 0 where
  none : index_in (start +ℤ pos i) size ≡ None
  side : (i < over.before) ⊎ (over.before + over.inside ≤ i)

record IsOn (start : ℤ) (size : ℕ) (over : Overlap) (i : ℕ) : Type 0 where
  some : index_in (start +ℤ pos i) size ≡ Some (over.first + (i - over.before))
  low : over.before ≤ i
  high : i < over.before + over.inside

beside_or_on : (start : ℤ) (count size : ℕ) (over : Overlap) → IsOverlap start count size over
    → (i : ℕ) → i < count → IsBeside start size over i ⊎ IsOn start size over i
beside_or_on start count size over is i low = by (less_or_not i over.before)
  where
    shift : (k : ℕ) → k ≡ i → index_in (start +ℤ pos i) size ≡ index_in (start +ℤ pos k) size
    shift k same = ap (λ (n : ℕ). index_in (start +ℤ pos n) size) (sym same)

    behind : over.before ≤ i → (i < over.before + over.inside) ⊎ (over.before + over.inside ≤ i)
        → IsBeside start size over i ⊎ IsOn start size over i
    behind from (inl within) = inr (record {
      some = shift (over.before + (i - over.before)) (omega (arith, from))
          ∙ is.each_inside (i - over.before) (omega (arith, from, within));
      low = from;
      high = within;
    })
    behind from (inr after) = inl (record {
      none = shift (over.before + over.inside + (i - over.before - over.inside))
          (omega (arith, after))
          ∙ is.none_after (i - over.before - over.inside) (omega (arith, after, low, is.total));
      side = inr after;
    })

    by : (i < over.before) ⊎ (over.before ≤ i) → IsBeside start size over i ⊎ IsOn start size over i
    by (inl before) = inl (record { none = is.none_before i before; side = inl before })
    by (inr from) = behind from (less_or_not i (over.before + over.inside))

module _ (bytes : List ℕ) (cut : Cut) (region : Region) (area : Area) (values : List ℕ)
    (is : IsAreaOf (cut_level_of bytes cut region.level) region (channels_of bytes) area) where
  abbrev right_at : ℕ → ℕ → ℕ → ℕ → ℕ → Type 0
  right_at w n i j c = value_at w n values i j c
      ≡ value_or_zero (channel_value_of bytes region.level)
      (index_in (region.x +ℤ pos i) (cut_level_of bytes cut region.level).width)
      (index_in (region.y +ℤ pos j) (cut_level_of bytes cut region.level).height) c

  abbrev all_right : ℕ → ℕ → ℕ → Type 0
  all_right w h n = (i j c : ℕ) → i < w → j < h → c < n → right_at w n i j c

  module _ (painted : IsPainted bytes area values) (zero : IsZeroBeside area values)
      (i j c : ℕ) (i_low : i < area.window.width) (j_low : j < area.height)
      (c_low : c < area.window.channels) where
    value : ℕ
    value = value_at area.window.width area.window.channels values i j c

    beside_columns : IsBeside region.x (cut_level_of bytes cut region.level).width
        area.window.columns i → right_at area.window.width area.window.channels i j c
    beside_columns beside =
        zero i j c i_low j_low c_low (λ at. out beside.side at)
        ∙ sym (ap (λ (x : Option ℕ). value_or_zero (channel_value_of bytes region.level) x
        (index_in (region.y +ℤ pos j) (cut_level_of bytes cut region.level).height) c) beside.none)
      where
        out : (i < area.window.columns.before)
            ⊎ (area.window.columns.before + area.window.columns.inside ≤ i)
            → InWindow area.window i j → ⊥
        out (inl before) at = omega (arith, before, at.left)
        out (inr after) at = omega (arith, after, at.right)

    beside_rows : (x : ℕ) → index_in (region.x +ℤ pos i) (cut_level_of bytes cut region.level).width
        ≡ Some x → IsBeside region.y (cut_level_of bytes cut region.level).height area.window.rows j
        → right_at area.window.width area.window.channels i j c
    beside_rows x some beside =
        zero i j c i_low j_low c_low (λ at. out beside.side at)
        ∙ sym (ap (λ (o : Option ℕ). value_or_zero (channel_value_of bytes region.level) o
        (index_in (region.y +ℤ pos j) (cut_level_of bytes cut region.level).height) c) some
        ∙ ap (λ (o : Option ℕ). value_or_zero (channel_value_of bytes region.level) (Some x) o c)
        beside.none)
      where
        out : (j < area.window.rows.before)
            ⊎ (area.window.rows.before + area.window.rows.inside ≤ j)
            → InWindow area.window i j → ⊥
        out (inl before) at = omega (arith, before, at.top)
        out (inr after) at = omega (arith, after, at.bottom)

    on_both : IsOn region.x (cut_level_of bytes cut region.level).width area.window.columns i
        → IsOn region.y (cut_level_of bytes cut region.level).height area.window.rows j
        → right_at area.window.width area.window.channels i j c
    on_both x y =
        (painted i j c i_low j_low c_low
        (record { left = x.low; right = x.high; top = y.low; bottom = y.high })
        ∙ ap (λ (l : ℕ). channel_value_of bytes l (column_of area.window i) (row_of area.window j) c)
        is.level_is)
        ∙ sym (ap (λ (o : Option ℕ). value_or_zero (channel_value_of bytes region.level) o
        (index_in (region.y +ℤ pos j) (cut_level_of bytes cut region.level).height) c) x.some
        ∙ ap (λ (o : Option ℕ). value_or_zero (channel_value_of bytes region.level)
        (Some (column_of area.window i)) o c) y.some)

    right : right_at area.window.width area.window.channels i j c
    right = by (beside_or_on region.x region.w (cut_level_of bytes cut region.level).width
        area.window.columns is.columns i (omega (arith, i_low, is.width)))
      where
        by_rows : IsOn region.x (cut_level_of bytes cut region.level).width area.window.columns i
            → (IsBeside region.y (cut_level_of bytes cut region.level).height area.window.rows j
            ⊎ IsOn region.y (cut_level_of bytes cut region.level).height area.window.rows j)
            → right_at area.window.width area.window.channels i j c
        by_rows x (inl beside) =
            beside_rows (area.window.columns.first + (i - area.window.columns.before)) x.some beside
        by_rows x (inr y) = on_both x y

        by : (IsBeside region.x (cut_level_of bytes cut region.level).width area.window.columns i
            ⊎ IsOn region.x (cut_level_of bytes cut region.level).width area.window.columns i)
            → right_at area.window.width area.window.channels i j c
        by (inl beside) = beside_columns beside
        by (inr x) = by_rows x (beside_or_on region.y region.h
            (cut_level_of bytes cut region.level).height area.window.rows is.rows j
            (omega (arith, j_low, is.height)))

  -- the values of a region, all of whose texels are painted
  pub region_values : IsPainted bytes area values → IsZeroBeside area values
      → length values ≡ area.height * (area.window.width * area.window.channels)
      → AreRegionValues bytes region values
  region_values painted zero count = record {
    count = count ∙ (ap (λ (h : ℕ). h * (area.window.width * area.window.channels)) is.height
        ∙ (ap (λ (w : ℕ). region.h * (w * area.window.channels)) is.width
        ∙ ap (λ (n : ℕ). region.h * (region.w * n)) is.channels_are));
    each = subst (λ (n : ℕ). all_right region.w region.h n) is.channels_are
        (subst (λ (w : ℕ). all_right w region.h area.window.channels) is.width
        (subst (λ (h : ℕ). all_right area.window.width h area.window.channels) is.height
        (λ i j c i_low j_low c_low. right painted zero i j c i_low j_low c_low)));
  }
