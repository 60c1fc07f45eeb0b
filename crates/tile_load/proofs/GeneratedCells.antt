-- What is known of a cell of a generated level, and of the fields of one that is begun.
use Rattle.std.proofs.Common.{◌≡◌, ℕ, suc, ◌-◌, ◌*◌, ◌/◌, ◌%◌, ◌<◌, ◌≤◌, min, Bool}
use Rattle.std.proofs.Common.{true, false, cond, ◌&&◌, List, refl, sym, ap, ◌∙◌, subst, arith, inl}
use Rattle.std.proofs.Common.{inr, Ok}
use Rattle.std.proofs.lemmas.Bool.{cases_lt, lt-ltb, le-ltb, eqb-true}
use Rattle.std.specs.Prelude.{if◌then◌else◌, nat_lt}
use Rattle.tiff_format.specs.Block.{LevelShape}
use Rattle.tiff_format.specs.Facts.{IsSide}
use Rattle.tiff_format.specs.Level.{halved}
use Rattle.tiff_format.specs.declared.cut.Cut.{Cut}
use Rattle.tiff_format.specs.declared.rect.Rect.{Rect}
use Rattle.tex_world.specs.World.{Files}
use Rattle.file_table.specs.Record.{RecordState, IsRecord}
use Rattle.tile_layout.specs.declared.grid.Grid.{Grid}
use Rattle.tile_layout.specs.Cell.{CutLevel, cell_count, cell_rect, cells_across, cut_level_in}
use Rattle.tile_layout.specs.Cell.{pattern_shape, cell_width_by, cell_height_by}
use Rattle.tile_layout.specs.CutSide.{IsCellSide, max_cells}
use Rattle.tile_layout.specs.Grid.{shown_grid}
use Rattle.tile_layout.specs.Kept.{Kept, stored_count, level_in}
use Rattle.tile_layout.specs.Key.{level_of, index_of, IsKey}
use Rattle.tile_layout.specs.Level.{side_in, width_in, height_in, level_count_in}
use Rattle.tile_layout.proofs.GridLemmas.{few_cells}
use Rattle.tile_layout.proofs.LevelLemmas.{side_halved}
use Rattle.tile_store.specs.Told.{ToldBy}
use Rattle.tile_load.specs.declared.part_span.PartSpan.{PartSpan}
use Rattle.tile_load.specs.Halving.{NamesGenerated, level_cut, source_cut, rect_of, source_cell}
use Rattle.tile_load.specs.Halving.{source_cells}
use Rattle.tile_load.specs.Halved.{IsHalvedKey, IsHalfMade, AreSpans}
use Rattle.rect_read.specs.Zeros.{AreZeros}
use Rattle.tile_load.proofs.HalfMade.{none_made}
use Rattle.tile_load.proofs.KnownLayouts.{layout_given}
use Rattle.tile_load.proofs.ToldTiles.{some_told}

-- ---- only a file that stores one level has generated ones

one_level : (automip one : Bool) (down stored level : ℕ) → stored ≤ level
    → level < cond (automip && one) down stored → one ≡ true
one_level true true down stored level generated below = refl
one_level true false down stored level generated below = absurd (omega arith)
one_level false one down stored level generated below = absurd (omega arith)

stored_one : (layout : Kept) (automip : Bool) (level : ℕ) → stored_count layout ≤ level
    → level < level_count_in layout automip → stored_count layout ≡ 1
unfolding level_count_in
stored_one layout automip level generated below =
    eqb-true (stored_count layout) 1
    (one_level automip _ _ (stored_count layout) level generated below)

-- all levels are cut as the stored one is
first_number : (l stored : ℕ) → stored ≡ 1 → (if nat_lt l stored then l else 0) ≡ 0
first_number l stored one = elim (cases_lt l stored) [
  | inl lt ↦ rw (lt-ltb l stored lt) (omega arith)
  | inr le ↦ rw (le-ltb l stored le) refl
]

pattern_is : (layout : Kept) (l : ℕ) → stored_count layout ≡ 1
    → pattern_shape layout l ≡ (level_in layout 0).shape
pattern_is layout l one =
    ap (λ (k : ℕ). (level_in layout k).shape) (first_number l (stored_count layout) one)

-- a side of a generated level is half of that of the level before
half_side : (side : LevelShape → ℕ) (layout : Kept) (l : ℕ) → 1 ≤ l → stored_count layout ≤ l
    → side_in side layout l ≡ halved (side_in side layout (l - 1))
half_side side layout l some generated =
    let next : l ≡ suc (l - 1) = omega arith in
    ap (side_in side layout) next ∙ side_halved side layout (l - 1) (omega arith)

-- ---- the sides of a grid

pub record HasSides (level : CutLevel) : Type 0 where
  pub width : IsSide level.width
  pub across : IsCellSide level.width level.cell_width
  pub height : IsSide level.height
  pub down : IsCellSide level.height level.cell_height
  pub few : cell_count level ≤ max_cells

has_sides : (grid : Grid) (level : CutLevel) → shown_grid grid ≡ level → HasSides level
has_sides grid level is =
    let own : HasSides (shown_grid grid) = record {
      width = grid.across.in_range.side;
      across = grid.across.in_range.piece;
      height = grid.down.in_range.side;
      down = grid.down.in_range.piece;
      few = few_cells grid;
    } in
    subst HasSides is own

-- ---- the cell

-- what is known of a cell that is begun
pub record IsBegun (layout : Kept) (cut : Cut) (key : ℕ) (grid : Grid) (rect : Rect) : Type 0 where
  pub cell : IsHalvedKey layout cut key
  pub rect_is : rect ≡ rect_of layout cut key
  pub source_is : shown_grid grid ≡ source_cut layout cut key

module _ (state : RecordState) (layout : Kept) (cut : Cut) (key : ℕ)
    (names : NamesGenerated state layout cut key) (stored : 1 ≤ stored_count layout) where
  one : stored_count layout ≡ 1
  one = stored_one layout cut.automip (level_of key) names.generated names.level

  pub level_some : 1 ≤ level_of key
  level_some = let generated = names.generated in omega (arith, one)

  same_pattern : pattern_shape layout (level_of key) ≡ pattern_shape layout (level_of key - 1)
  same_pattern =
      pattern_is layout (level_of key) one ∙ sym (pattern_is layout (level_of key - 1) one)

  is_halved : (grid : Grid) → IsKey key → shown_grid grid ≡ source_cut layout cut key
      → 1 ≤ (rect_of layout cut key).w → 1 ≤ (rect_of layout cut key).h
      → IsHalvedKey layout cut key
  unfolding cell_rect
  is_halved grid is_key source_is wide high =
      let level = level_of key in
      let sides = has_sides grid (source_cut layout cut key) source_is in
      let columns = cells_across (level_cut layout cut key) in
      let width_is = half_side (λ shape. shape.width) layout level level_some names.generated in
      let height_is = half_side (λ shape. shape.height) layout level level_some names.generated in
      let cell_width : (level_cut layout cut key).cell_width ≡ (source_cut layout cut key).cell_width =
      ap (λ (shape : LevelShape). cell_width_by cut shape shape.tile) same_pattern in
      let cell_height : (level_cut layout cut key).cell_height
      ≡ (source_cut layout cut key).cell_height =
      ap (λ (shape : LevelShape). cell_height_by cut shape shape.tile) same_pattern in
      record {
        is_key = is_key;
        stored = stored;
        generated = names.generated;
        across = record {
          some = sides.width.low;
          high = sides.width.high;
          piece = sides.across;
          number = index_of key % columns;
          from_is = ap (λ (w : ℕ). index_of key % columns * w) cell_width;
          some_n = wide;
          long = ap (λ (w : ℕ). min w (width_in layout level - (rect_of layout cut key).x)) cell_width
              ∙ ap (λ (n : ℕ). min (source_cut layout cut key).cell_width
              (n - (rect_of layout cut key).x)) width_is;
        };
        down = record {
          some = sides.height.low;
          high = sides.height.high;
          piece = sides.down;
          number = index_of key / columns;
          from_is = ap (λ (h : ℕ). index_of key / columns * h) cell_height;
          some_n = high;
          long = ap (λ (h : ℕ). min h (height_in layout level - (rect_of layout cut key).y))
              cell_height
              ∙ ap (λ (n : ℕ). min (source_cut layout cut key).cell_height
              (n - (rect_of layout cut key).y)) height_is;
        };
        few = sides.few;
      }

  -- the rectangle of the cell and the grid of the next larger level, as the code computes them
  pub begun : (grid : Grid) (rect : Rect) (level index : ℕ) → IsKey key → level ≡ level_of key
      → index ≡ index_of key → shown_grid grid ≡ cut_level_in layout cut (level - 1)
      → rect ≡ cell_rect (cut_level_in layout cut level) index → (1 ≤ rect.w) × (1 ≤ rect.h)
      → IsBegun layout cut key grid rect
  begun grid rect level index is_key level_is index_is cuts is some =
      let rect_is : rect ≡ rect_of layout cut key =
      is ∙ ap (λ (l : ℕ). cell_rect (cut_level_in layout cut l) index) level_is
      ∙ ap (λ (i : ℕ). cell_rect (cut_level_in layout cut (level_of key)) i) index_is in
      let source_is : shown_grid grid ≡ source_cut layout cut key =
      cuts ∙ ap (λ (l : ℕ). cut_level_in layout cut (l - 1)) level_is in
      record {
        cell = is_halved grid is_key source_is (subst (λ (r : Rect). 1 ≤ r.w) rect_is some.0)
            (subst (λ (r : Rect). 1 ≤ r.h) rect_is some.1);
        rect_is = rect_is;
        source_is = source_is;
      }

  -- ---- while no part was added, nothing is required of the samples in a modelled world

  pub told_begun : (files : Files) (samples : List ℕ) → IsRecord files state
      → state.layout ≡ Ok layout → AreZeros samples
      → ToldBy files key (λ bytes. IsHalfMade bytes layout cut key 0 samples)
  told_begun files samples honest known zeros = λ tells.
      let held = files.held state.file state.generation in
      rw (names.file, names.generation)
      (some_told held (λ bytes. IsHalfMade bytes layout cut key 0 samples)
      (honest.real.held tells)
      (λ bytes told. none_made bytes layout cut key samples
      (layout_given bytes state.layout layout known (honest.layout bytes told)).kept zeros))

-- ---- the spans

pub spans_are : (layout : Kept) (cut : Cut) (key : ℕ) (grid : Grid) (rect : Rect)
    (across down : PartSpan)
    → shown_grid grid ≡ source_cut layout cut key → rect ≡ rect_of layout cut key
    → across.first ≡ source_cell grid.across.size grid.across.cell rect.x
    → across.count ≡ source_cells grid.across.size grid.across.cell rect.x rect.w
    → down.first ≡ source_cell grid.down.size grid.down.cell rect.y
    → down.count ≡ source_cells grid.down.size grid.down.cell rect.y rect.h
    → AreSpans layout cut key across down
spans_are layout cut key grid rect across down source_is rect_is column columns row rows = record {
  first_column = column
      ∙ ap (λ (r : Rect). source_cell grid.across.size grid.across.cell r.x) rect_is
      ∙ ap (λ (l : CutLevel). source_cell l.width l.cell_width (rect_of layout cut key).x) source_is;
  columns = columns
      ∙ ap (λ (r : Rect). source_cells grid.across.size grid.across.cell r.x r.w) rect_is
      ∙ ap (λ (l : CutLevel). source_cells l.width l.cell_width (rect_of layout cut key).x
      (rect_of layout cut key).w) source_is;
  first_row = row
      ∙ ap (λ (r : Rect). source_cell grid.down.size grid.down.cell r.y) rect_is
      ∙ ap (λ (l : CutLevel). source_cell l.height l.cell_height (rect_of layout cut key).y) source_is;
  rows = rows
      ∙ ap (λ (r : Rect). source_cells grid.down.size grid.down.cell r.y r.h) rect_is
      ∙ ap (λ (l : CutLevel). source_cells l.height l.cell_height (rect_of layout cut key).y
      (rect_of layout cut key).h) source_is;
}
