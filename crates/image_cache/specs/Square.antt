-- When does a microcache have all four texels of a square, and what does reading them leave?
use Rattle.std.specs.Prelude.{◌≡◌, ℕ, true, IsTrue, IfOk, IsOkAnd, List, [], ◌∷◌}
use Rattle.tex_world.specs.World.{Files}
use Rattle.texel_filter.specs.declared.square.Square.{Square}
use Rattle.texel_filter.specs.declared.square.Corners.{Corners}
use Rattle.texel_filter.specs.Image.{Values, Texel, texel_of, AreFirst}
use Rattle.tiff_format.specs.declared.cut.Cut.{Cut}
use Rattle.tile_layout.specs.Kept.{Kept}
use Rattle.tile_store.specs.Tile.{CachedTile}
use Rattle.file_table.specs.Record.{RecordState}
use Rattle.texel_values.specs.declared.texel_at.TexelAt.{TexelAt}
use Rattle.tile_source.specs.Pass.{PassState}
use Rattle.tile_source.specs.Texel.{cell_number_at, cell_of, has_cell_at, IsTexelIn}
use Rattle.tile_source.specs.Call.{CountsNeed, AsksForCellAt, TurnsToCellAt, MovesCellAt}
use Rattle.tile_source.specs.Call.{NeedsCellAt}
use Rattle.tile_source.specs.Pass.{KeepsAllBut, recent_and_counts}

-- ---- the four texels

abbrev pub left_top : Square → TexelAt
left_top square = record { level = square.level; x = square.left; y = square.top }

abbrev pub right_top : Square → TexelAt
right_top square = record { level = square.level; x = square.right; y = square.top }

abbrev pub left_bottom : Square → TexelAt
left_bottom square = record { level = square.level; x = square.left; y = square.bottom }

abbrev pub right_bottom : Square → TexelAt
right_bottom square = record { level = square.level; x = square.right; y = square.bottom }

-- the three texels after the first
abbrev pub rest_of : Square → List Texel
rest_of square =
    texel_of square.level square.right square.top ∷ texel_of square.level square.left square.bottom
    ∷ texel_of square.level square.right square.bottom ∷ []

-- the first corner has its values, in the first `channels` channels
abbrev pub HasLeftTop : Values → Square → ℕ → Corners → Type 0
HasLeftTop values square channels corners =
    AreFirst channels (values square.level square.left square.top) corners.left_top

-- the square lies in a level of the record
pub record IsSquareIn (state : RecordState) (square : Square) : Type 0 where
  pub first : IsTexelIn state (left_top square)
  pub last : IsTexelIn state (right_bottom square)

-- one cell holds all four texels
pub record LieInOne (kept : Kept) (cut : Cut) (square : Square) : Type 0 where
  pub right_top_in : cell_number_at kept cut (right_top square) ≡ cell_number_at kept cut (left_top square)
  pub left_bottom_in : cell_number_at kept cut (left_bottom square) ≡ cell_number_at kept cut (left_top square)
  pub right_bottom_in
      : cell_number_at kept cut (right_bottom square) ≡ cell_number_at kept cut (left_top square)

-- one cell of the record holds all four texels
abbrev pub LieInOneOf : RecordState → Square → Type 0
LieInOneOf state square = IsOkAnd state.layout (λ kept. LieInOne kept state.cut square)

-- one cell of the record holds all four texels, and the microcache has it
abbrev pub HasSquareAt : RecordState → Square → List CachedTile → Type 0
HasSquareAt state square tiles =
    LieInOneOf state square × IsTrue (has_cell_at state (left_top square) tiles)

-- the microcache has the cell of a texel, and the cell has this key
pub record IsShownAt (state : RecordState) (at : TexelAt) (tiles : List CachedTile) (key : ℕ)
    : Type 0 where
  pub had : has_cell_at state at tiles ≡ true
  pub keyed : IfOk state.layout (λ kept.
      key ≡ (cell_of state.generation state.file state.cut kept at).key)

-- the microcache has the cell of each of the four texels, and each cell has this key
pub record AreShown (state : RecordState) (square : Square) (tiles : List CachedTile) (key : ℕ)
    : Type 0 where
  pub left_top_shown : IsShownAt state (left_top square) tiles key
  pub right_top_shown : IsShownAt state (right_top square) tiles key
  pub left_bottom_shown : IsShownAt state (left_bottom square) tiles key
  pub right_bottom_shown : IsShownAt state (right_bottom square) tiles key

-- ---- what reading them leaves

-- A texel was read from its cell in the microcache: what `fetch_local` leaves if the cell is there.
pub record MeetsAt (files : Files) (state : RecordState) (at : TexelAt) (old new : PassState)
    : Type 0 where
  pub had : has_cell_at state at old.pinned.recent ≡ true
  pub need : CountsNeed true old new
  pub apart : new.apart ≡ old.apart
  pub asked : AsksForCellAt state at old.pinned.recent new.pinned.recent
  pub turned : TurnsToCellAt state at old.pinned.recent new.pinned.recent
  pub moved : MovesCellAt state at old.pinned.recent new.pinned.recent
  pub kept : KeepsAllBut recent_and_counts old new
  pub needs : NeedsCellAt files state at old new

-- All four texels were read from the microcache, one after another, the upper row first.
pub record MeetsSquare (files : Files) (state : RecordState) (square : Square)
    (old new : PassState) : Type 0 where
  pub first : PassState
  pub second : PassState
  pub third : PassState
  pub to_first : MeetsAt files state (left_top square) old first
  pub to_second : MeetsAt files state (right_top square) first second
  pub to_third : MeetsAt files state (left_bottom square) second third
  pub to_last : MeetsAt files state (right_bottom square) third new

-- The three texels after the first were read from the microcache, one after another.
pub record MeetsRest (files : Files) (state : RecordState) (square : Square)
    (old new : PassState) : Type 0 where
  pub second : PassState
  pub third : PassState
  pub to_second : MeetsAt files state (right_top square) old second
  pub to_third : MeetsAt files state (left_bottom square) second third
  pub to_last : MeetsAt files state (right_bottom square) third new
