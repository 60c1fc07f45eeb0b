-- Four texels of one cell that the microcache has.
use Rattle.std.proofs.Common.{◌≡◌, ℕ, ◌+◌, ◌<◌, ◌≤◌, ◌/◌, ◌%◌, ◌*◌, ◌-◌, true, refl, sym, ap, subst}
use Rattle.std.proofs.Common.{◌∙◌, arith, List, [], ◌∷◌, Result, Ok, Err, Option, Some, None, min, length}
use Rattle.std.specs.Prelude.{IsOkAnd, IfOk, IsSomeAnd}
use Rattle.std.proofs.lemmas.Nat.{div-mul-add, div-add-mod'}
use Rattle.tiff_format.specs.declared.fault.TiffFault.{TiffFault}
use Rattle.tex_world.specs.World.{Files, IsWorld}
use Rattle.texel_filter.specs.declared.square.Square.{Square}
use Rattle.texel_filter.specs.declared.square.Corners.{Corners}
use Rattle.texel_filter.specs.Square.{AreCorners}
use Rattle.tiff_format.specs.declared.cut.Cut.{Cut}
use Rattle.tiff_format.specs.declared.rect.Rect.{Rect}
use Rattle.tile_layout.specs.Kept.{Kept}
use Rattle.tile_layout.specs.Key.{key_of, generation_of, file_of, level_of}
use Rattle.tile_layout.specs.Value.{channel_value_of}
use Rattle.tile_layout.specs.declared.grid.Grid.{Grid}
use Rattle.tile_layout.specs.Grid.{shown_grid}
use Rattle.tile_layout.specs.Cell.{CutLevel, cut_level_in, cell_index, cell_rect, cells_across}
use Rattle.tile_layout.specs.Cell.{channels_in, bit_depth_in, bit_depth_of, HoldsTexel}
use Rattle.tile_store.specs.Tile.{CachedTile}
use Rattle.tile_layout.proofs.CellLemmas.{HasCells, holds_texel}
use Rattle.tile_layout.proofs.GridLemmas.{has_cells}
use Rattle.file_table.specs.Record.{RecordState, IsRecord, CutsLevel}
use Rattle.micro.specs.Runs.{IsAsked}
use Rattle.texel_values.specs.declared.texel_at.TexelAt.{TexelAt}
use Rattle.texel_values.specs.Square.{AreToldCorners}
use Rattle.pinned_tiles.specs.declared.cell.CellAt.{CellAt}
use Rattle.pinned_tiles.specs.Pinned.{key_in, AsksFor, IsAskedFor, StaysAskedFor}
use Rattle.pinned_tiles.specs.Cell.{has_cell, StandsFirst}
use Rattle.micro.specs.Items.{key_first}
use Rattle.pinned_tiles.proofs.TurnLemmas.{stands_has}
use Rattle.tile_source.specs.Pass.{PassState, counted, counted_together}
use Rattle.tile_source.specs.Texel.{cell_number_at, cell_of, IsCellIn, IsCellAt, has_cell_by}
use Rattle.tile_source.specs.Texel.{has_cell_at, IsTexelOf, IsTexelIn}
use Rattle.tile_source.specs.Call.{CountsNeed, Needs}
use Rattle.tile_source.specs.Pass.{KeepsAllBut, recent_and_counts}
use Rattle.image_cache.specs.Square.{left_top, right_top, left_bottom, right_bottom}
use Rattle.image_cache.specs.Square.{LieInOne, LieInOneOf, IsShownAt, AreShown}
use Rattle.image_cache.specs.Square.{MeetsAt, MeetsSquare, MeetsRest}
use Rattle.tile_source.proofs.NeedLemmas.{needs_hit}
use Rattle.tile_source.proofs.TexelLemmas.{at_cell, asks_at, told_by_record}

-- ---- their cell

-- the cell of a texel is that of another of its level in the same cell
cell_alike : (generation file : ℕ) (cut : Cut) (kept : Kept) (level x y v u : ℕ)
    → cell_number_at kept cut (record { level = level; x = v; y = u })
    ≡ cell_number_at kept cut (record { level = level; x = x; y = y })
    → cell_of generation file cut kept (record { level = level; x = x; y = y })
    ≡ cell_of generation file cut kept (record { level = level; x = v; y = u })
cell_alike generation file cut kept level x y v u same = ap
    (λ (i : ℕ). let cell : CellAt = record {
      key = key_of generation file level i;
      rect = cell_rect (cut_level_in kept cut level) i;
      channels = channels_in kept;
    } in cell) (sym same)

module _ (state : RecordState) (square : Square) (cell : CellAt) where
  -- the cell holds each of the four texels
  pub record IsCellOfEach : Type 0 where
    pub first : IsCellIn state (left_top square) cell
    pub second : IsCellIn state (right_top square) cell
    pub third : IsCellIn state (left_bottom square) cell
    pub last : IsCellIn state (right_bottom square) cell

  alike : (at : TexelAt) (same : (kept : Kept) → LieInOne kept state.cut square
      → cell_of state.generation state.file state.cut kept (left_top square)
      ≡ cell_of state.generation state.file state.cut kept at)
      → IsCellIn state (left_top square) cell → LieInOneOf state square
      → IsCellIn state at cell
  alike at same is one = by state.layout is one
    where
      by : (layout : Result Kept TiffFault)
          → IsOkAnd layout (λ kept.
          cell ≡ cell_of state.generation state.file state.cut kept (left_top square))
          → IsOkAnd layout (λ kept. LieInOne kept state.cut square)
          → IsOkAnd layout (λ kept.
          cell ≡ cell_of state.generation state.file state.cut kept at)
      by (Ok kept) here lie = here ∙ same kept lie
      by (Err fault) here lie = absurd here

  pub cell_of_each : IsCellIn state (left_top square) cell → LieInOneOf state square
      → IsCellOfEach
  cell_of_each is one = record {
    first = is;
    second = alike (right_top square)
        (λ kept lie. cell_alike state.generation state.file state.cut kept square.level square.left
        square.top square.right square.top lie.right_top_in) is one;
    third = alike (left_bottom square)
        (λ kept lie. cell_alike state.generation state.file state.cut kept square.level square.left
        square.top square.left square.bottom lie.left_bottom_in) is one;
    last = alike (right_bottom square)
        (λ kept lie. cell_alike state.generation state.file state.cut kept square.level square.left
        square.top square.right square.bottom lie.right_bottom_in) is one;
  }

-- the microcache has the cell of a texel if and only if it has this cell
pub has_at : (state : RecordState) (at : TexelAt) (cell : CellAt) (tiles : List CachedTile)
    → IsCellIn state at cell → has_cell_at state at tiles ≡ has_cell cell tiles
has_at state at cell tiles is = by state.layout is
  where
    by : (layout : Result Kept TiffFault)
        → IsOkAnd layout (λ kept. cell ≡ cell_of state.generation state.file state.cut kept at)
        → has_cell_by state.generation state.file state.cut at tiles layout ≡ has_cell cell tiles
    by (Ok kept) same = ap (λ (c : CellAt). has_cell c tiles) (sym same)
    by (Err fault) same = absurd same

-- ---- what they leave

module _ (files : Files) (state : RecordState) (cell : CellAt) where
  -- the first of them turns the microcache to the cell
  meets_first : (at : TexelAt) (old new : PassState) → IsCellIn state at cell
      → has_cell cell old.pinned.recent ≡ true
      → IsAsked key_in old.pinned.recent cell.key true new.pinned.recent
      → AsksFor cell.key old.pinned.recent new.pinned.recent → CountsNeed true old new
      → new.apart ≡ old.apart → KeepsAllBut recent_and_counts old new
      → MeetsAt files state at old new
  meets_first at old new is has asked asks need apart kept = record {
    had = has_at state at cell old.pinned.recent is ∙ has;
    need = need;
    apart = apart;
    asked = asks_at state at cell old.pinned.recent new.pinned.recent is asks;
    turned = at_cell (λ key. IsAskedFor key old.pinned.recent new.pinned.recent) state at cell is
        (true, asked);
    moved = at_cell (λ key. new.pinned.recent ≡ key_first key_in key old.pinned.recent) state at
        cell is asked.1;
    kept = kept;
    needs = at_cell (λ key. Needs files (key ∷ []) old new) state at cell is
        (needs_hit files cell.key old new asked need);
  }

  -- each further texel finds the cell in the microcache
  meets_again : (at : TexelAt) (old new : PassState) → IsCellIn state at cell
      → StandsFirst cell old.pinned.recent → StaysAskedFor cell.key old.pinned.recent
      → new.pinned.recent ≡ old.pinned.recent → CountsNeed true old new → new.apart ≡ old.apart
      → KeepsAllBut recent_and_counts old new → MeetsAt files state at old new
  meets_again at old new is first stays same need apart kept =
      meets_first at old new is (stands_has cell old.pinned.recent first)
      (stays.there, same ∙ stays.moved)
      (subst (λ (tiles : List CachedTile). AsksFor cell.key old.pinned.recent tiles) (sym same)
      stays.again) need apart kept

-- a pass with these counts
abbrev with_counts : PassState → ℕ → ℕ → PassState
with_counts pass n h = record pass { needs = n; hits = h }

same_but_counts : (pass : PassState) (n h m k : ℕ) → length pass.pinned.recent ≤ 2
    → KeepsAllBut recent_and_counts (with_counts pass n h) (with_counts pass m k)
same_but_counts pass n h m k few = record {
  place = record { board = refl; gate = refl; cut = refl; permits = refl; joined = refl };
  seat = refl;
  view = refl;
  tiles = record { few = few; holds = refl; hand = refl };
  counts = tt;
  latest = refl;
}

pub meets_square : (files : Files) (state : RecordState) (square : Square) (cell : CellAt)
    (old new : PassState)
    → IsCellIn state (left_top square) cell → LieInOneOf state square
    → has_cell cell old.pinned.recent ≡ true
    → IsAsked key_in old.pinned.recent cell.key true new.pinned.recent
    → AsksFor cell.key old.pinned.recent new.pinned.recent
    → StandsFirst cell new.pinned.recent → StaysAskedFor cell.key new.pinned.recent
    → KeepsAllBut recent_and_counts old new → new.needs ≡ counted_together old.needs 4
    → new.hits ≡ counted_together old.hits 4 → new.apart ≡ old.apart
    → MeetsSquare files state square old new
meets_square files state square cell old new is one has asked asks first stays kept needs hits apart =
    let each = cell_of_each state square cell is one in
    let n1 = counted old.needs in
    let h1 = counted old.hits in
    let n2 = counted n1 in
    let h2 = counted h1 in
    let n3 = counted n2 in
    let h3 = counted h2 in
    let one_more = with_counts new n1 h1 in
    let two_more = with_counts new n2 h2 in
    let three_more = with_counts new n3 h3 in
    let last_need : new.needs ≡ counted n3 = omega (arith, needs) in
    let last_hit : new.hits ≡ counted h3 = omega (arith, hits) in
    record {
      first = one_more;
      second = two_more;
      third = three_more;
      to_first = meets_first files state cell (left_top square) old one_more each.first has asked asks
          (record { needs = refl; hits = refl }) apart
          (record {
            place = record {
              board = kept.place.board;
              gate = kept.place.gate;
              cut = kept.place.cut;
              permits = kept.place.permits;
              joined = kept.place.joined;
            };
            seat = kept.seat;
            view = kept.view;
            tiles = record {
              few = kept.tiles.few;
              holds = kept.tiles.holds;
              hand = kept.tiles.hand;
            };
            counts = tt;
            latest = kept.latest;
          });
      to_second = meets_again files state cell (right_top square) one_more two_more each.second first
          stays refl (record { needs = refl; hits = refl }) refl
          (same_but_counts new n1 h1 n2 h2 kept.tiles.few);
      to_third = meets_again files state cell (left_bottom square) two_more three_more each.third first
          stays refl (record { needs = refl; hits = refl }) refl
          (same_but_counts new n2 h2 n3 h3 kept.tiles.few);
      to_last = meets_again files state cell (right_bottom square) three_more new each.last first
          stays refl (record { needs = last_need; hits = last_hit }) refl
          (same_but_counts new n3 h3 new.needs new.hits kept.tiles.few);
    }

-- reading the three texels after the first from the microcache
pub meets_rest : (files : Files) (state : RecordState) (square : Square) (cell : CellAt)
    (old new : PassState)
    → IsCellIn state (left_top square) cell → LieInOneOf state square
    → has_cell cell old.pinned.recent ≡ true
    → IsAsked key_in old.pinned.recent cell.key true new.pinned.recent
    → AsksFor cell.key old.pinned.recent new.pinned.recent
    → StandsFirst cell new.pinned.recent → StaysAskedFor cell.key new.pinned.recent
    → KeepsAllBut recent_and_counts old new → new.needs ≡ counted_together old.needs 3
    → new.hits ≡ counted_together old.hits 3 → new.apart ≡ old.apart
    → MeetsRest files state square old new
meets_rest files state square cell old new is one has asked asks first stays kept needs hits apart =
    let each = cell_of_each state square cell is one in
    let n1 = counted old.needs in
    let h1 = counted old.hits in
    let n2 = counted n1 in
    let h2 = counted h1 in
    let one_more = with_counts new n1 h1 in
    let two_more = with_counts new n2 h2 in
    let last_need : new.needs ≡ counted n2 = omega (arith, needs) in
    let last_hit : new.hits ≡ counted h2 = omega (arith, hits) in
    record {
      second = one_more;
      third = two_more;
      to_second = meets_first files state cell (right_top square) old one_more each.second has asked asks
          (record { needs = refl; hits = refl }) apart
          (record {
            place = record {
              board = kept.place.board;
              gate = kept.place.gate;
              cut = kept.place.cut;
              permits = kept.place.permits;
              joined = kept.place.joined;
            };
            seat = kept.seat;
            view = kept.view;
            tiles = record {
              few = kept.tiles.few;
              holds = kept.tiles.holds;
              hand = kept.tiles.hand;
            };
            counts = tt;
            latest = kept.latest;
          });
      to_third = meets_again files state cell (left_bottom square) one_more two_more each.third first
          stays refl (record { needs = refl; hits = refl }) refl
          (same_but_counts new n1 h1 n2 h2 kept.tiles.few);
      to_last = meets_again files state cell (right_bottom square) two_more new each.last first
          stays refl (record { needs = last_need; hits = last_hit }) refl
          (same_but_counts new n2 h2 new.needs new.hits kept.tiles.few);
    }

-- the microcache that has the cell of a texel shows it
pub shown_at : (state : RecordState) (at : TexelAt) (cell : CellAt) (tiles : List CachedTile)
    → IsCellIn state at cell → has_cell cell tiles ≡ true → IsShownAt state at tiles cell.key
shown_at state at cell tiles is has = record {
  had = has_at state at cell tiles is ∙ has;
  keyed = at_cell (λ key. cell.key ≡ key) state at cell is refl;
}

-- if the microcache has the one cell of all four texels, it shows each of them
pub each_shown : (state : RecordState) (square : Square) (cell : CellAt) (tiles : List CachedTile)
    → IsCellIn state (left_top square) cell → LieInOneOf state square
    → has_cell cell tiles ≡ true → AreShown state square tiles cell.key
each_shown state square cell tiles is one has =
    let each = cell_of_each state square cell is one in
    record {
      left_top_shown = shown_at state (left_top square) cell tiles each.first has;
      right_top_shown = shown_at state (right_top square) cell tiles each.second has;
      left_bottom_shown = shown_at state (left_bottom square) cell tiles each.third has;
      right_bottom_shown = shown_at state (right_bottom square) cell tiles each.last has;
    }

-- ---- which cell holds them

module _ (level : CutLevel) where
  -- a place in the part of a side that begins with the k-th cell is in that cell
  in_part : (side cell k x : ℕ) → 1 ≤ cell → k * cell ≤ x → x < k * cell + min cell (side - k * cell)
      → x / cell ≡ k
  in_part side cell k x some left right =
      let rest : x ≡ k * cell + (x - k * cell) = omega (arith, left) in
      ap (λ (n : ℕ). n / cell) rest ∙ div-mul-add k cell (x - k * cell) (omega (arith, left, right))

  -- a texel in the rectangle of a cell belongs to that cell
  pub index_held : (i x y : ℕ) → 1 ≤ level.cell_width → 1 ≤ level.cell_height
      → HoldsTexel (cell_rect level i) x y → cell_index level x y ≡ i
  unfolding cell_index cell_rect
  index_held i x y w h holds =
      let across = cells_across level in
      let column : x / level.cell_width ≡ i % across =
      in_part level.width level.cell_width (i % across) x w holds.left holds.right in
      let row : y / level.cell_height ≡ i / across =
      in_part level.height level.cell_height (i / across) y h holds.top holds.bottom in
      ap (λ (r : ℕ). r * across + x / level.cell_width) row
      ∙ (ap (λ (c : ℕ). i / across * across + c) column ∙ div-add-mod' i across)

has_cells_in : (state : RecordState) (kept : Kept) (l : ℕ) (grid : Grid)
    → shown_grid grid ≡ cut_level_in kept state.cut l → HasCells (cut_level_in kept state.cut l)
has_cells_in state kept l grid is = subst HasCells is (has_cells grid)

module _ (state : RecordState) (square : Square) (cell : CellAt) (grid : Grid)
    (cuts : CutsLevel state square.level grid)
    (is : IsCellIn state (left_top square) cell) where
  -- if a cell's rectangle contains the first and the last texel, one cell holds all four
  pub one_from_held : HoldsTexel cell.rect square.left square.top
      → HoldsTexel cell.rect square.right square.bottom → LieInOneOf state square
  one_from_held first last = by state.layout cuts is
    where
      by : (layout : Result Kept TiffFault)
          → IfOk layout (λ kept. shown_grid grid ≡ cut_level_in kept state.cut square.level)
          → IsOkAnd layout (λ kept.
          cell ≡ cell_of state.generation state.file state.cut kept (left_top square))
          → IsOkAnd layout (λ kept. LieInOne kept state.cut square)
      by (Ok kept) cut here =
          let level = cut_level_in kept state.cut square.level in
          let i = cell_number_at kept state.cut (left_top square) in
          let has = has_cells_in state kept square.level grid cut in
          let rect : cell.rect ≡ cell_rect level i = ap (λ (c : CellAt). c.rect) here in
          let one : HoldsTexel (cell_rect level i) square.left square.top =
          subst (λ (r : Rect). HoldsTexel r square.left square.top) rect first in
          let other : HoldsTexel (cell_rect level i) square.right square.bottom =
          subst (λ (r : Rect). HoldsTexel r square.right square.bottom) rect last in
          record {
            right_top_in = index_held level i square.right square.top has.cell_width
                has.cell_height (record {
                  left = other.left;
                  right = other.right;
                  top = one.top;
                  bottom = one.bottom;
                });
            left_bottom_in = index_held level i square.left square.bottom has.cell_width
                has.cell_height (record {
                  left = one.left;
                  right = one.right;
                  top = other.top;
                  bottom = other.bottom;
                });
            right_bottom_in = index_held level i square.right square.bottom has.cell_width
                has.cell_height other;
          }
      by (Err fault) cut here = absurd here

  -- if one cell holds all four texels, its rectangle contains the last
  pub held_from_one : IsTexelIn state (right_bottom square) → LieInOneOf state square
      → HoldsTexel cell.rect square.right square.bottom
  held_from_one inside one = by state.layout cuts is inside one
    where
      by : (layout : Result Kept TiffFault)
          → IfOk layout (λ kept. shown_grid grid ≡ cut_level_in kept state.cut square.level)
          → IsOkAnd layout (λ kept.
          cell ≡ cell_of state.generation state.file state.cut kept (left_top square))
          → IsOkAnd layout (λ kept. IsTexelOf kept state.cut (right_bottom square))
          → IsOkAnd layout (λ kept. LieInOne kept state.cut square)
          → HoldsTexel cell.rect square.right square.bottom
      by (Ok kept) cut here texel lie =
          let level = cut_level_in kept state.cut square.level in
          let own = holds_texel level (has_cells_in state kept square.level grid cut) square.right
          square.bottom texel.column texel.row in
          subst (λ (r : Rect). HoldsTexel r square.right square.bottom)
          (ap (cell_rect level) lie.right_bottom_in ∙ sym (ap (λ (c : CellAt). c.rect) here)) own
      by (Err fault) cut here texel lie = absurd here

-- ---- their values

some_map : {A : Type 0} (o : Option A) (P Q : A → Type 0) → ((x : A) → P x → Q x)
    → IsSomeAnd o P → IsSomeAnd o Q
some_map (Some x) P Q f p = f x p
some_map None P Q f p = absurd p

pub corners_told : (files : Files) → IsWorld files → (state : RecordState) (square : Square)
    (cell : CellAt) (tile : CachedTile) (depth channels : ℕ) (corners : Corners) (bytes : List ℕ)
    → IsRecord files state → IsCellAt state (left_top square) cell → tile.key ≡ cell.key
    → IfOk state.layout (λ kept. depth ≡ bit_depth_in kept)
    → AreToldCorners files tile depth square channels corners
    → files.held state.file state.generation ≡ Some bytes
    → AreCorners (channel_value_of bytes) square channels corners
corners_told files world state square cell tile depth channels corners bytes honest is_at key same
    told held =
    told_by_record files world state cell tile.key depth bytes
    (λ b. AreCorners (channel_value_of b) square channels corners) honest is_at.of key same
    (λ tells. some_map (files.held (file_of tile.key) (generation_of tile.key))
    (λ b. level_of tile.key ≡ square.level → depth ≡ bit_depth_of b
    → AreCorners (channel_value_of b) square channels corners)
    (λ b. depth ≡ bit_depth_of b → AreCorners (channel_value_of b) square channels corners)
    (λ b p. p (ap level_of key ∙ is_at.level)) (told tells)) held
