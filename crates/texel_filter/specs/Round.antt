-- Which columns and rows lie round the coordinates of a lookup, and which values have they?
use Rattle.std.specs.Prelude.{◌≡◌, ℕ, ◌<◌, ℤ, pos, ◌+ℤ◌, IfSome, List, ◌++◌}
use Rattle.texel_filter.specs.declared.mode.Wrap.{Wrap}
use Rattle.texel_filter.specs.declared.request.FineRequest.{FineRequest}
use Rattle.texel_filter.specs.declared.coordinate.Pair.{Pair}
use Rattle.texel_filter.specs.declared.round.Round.{Round}
use Rattle.texel_filter.specs.declared.square.Corners.{Corners}
use Rattle.texel_filter.specs.Image.{Sizes, Values, Image, Texel}
use Rattle.texel_filter.specs.WrapMode.{wrapped_index}
use Rattle.texel_filter.specs.Coordinate.{index_before}
use Rattle.texel_filter.specs.Filter.{value_in, wrapped_value}
use Rattle.texel_filter.specs.Visits.{visit_in}
use Rattle.texel_filter.specs.Square.{AreNumbers}

-- the columns or rows round a coordinate
pub record IsPairAt (mode : Wrap) (s : ℤ) (n : ℕ) (pair : Pair) : Type 0 where
  pub first : pair.first ≡ wrapped_index mode (index_before s n) n
  pub second : pair.second ≡ wrapped_index mode (index_before s n +ℤ pos 1) n
  pub first_inside : IfSome pair.first (λ x. x < n)
  pub second_inside : IfSome pair.second (λ x. x < n)

-- the columns and rows round the coordinates of a request, in a level
pub record IsRoundAt (sizes : Sizes) (r : FineRequest) (l : ℕ) (round : Round) : Type 0 where
  pub level : round.level ≡ l
  pub columns : IsPairAt r.swrap r.s (sizes.width l) round.columns
  pub rows : IsPairAt r.twrap r.t (sizes.height l) round.rows

-- the columns and rows are those of a level of the image
pub record IsRoundInside (sizes : Sizes) (round : Round) : Type 0 where
  pub level : round.level < sizes.levels
  pub left : IfSome round.columns.first (λ x. x < sizes.width round.level)
  pub right : IfSome round.columns.second (λ x. x < sizes.width round.level)
  pub top : IfSome round.rows.first (λ y. y < sizes.height round.level)
  pub bottom : IfSome round.rows.second (λ y. y < sizes.height round.level)

-- the visits in these columns and rows, the upper row first
abbrev pub visits_round : Round → List Texel
visits_round round =
    visit_in round.level round.columns.first round.rows.first
    ++ visit_in round.level round.columns.second round.rows.first
    ++ visit_in round.level round.columns.first round.rows.second
    ++ visit_in round.level round.columns.second round.rows.second

-- the corners have the values of these columns and rows in the first `channels` channels
pub record AreRound (values : Values) (round : Round) (channels : ℕ) (corners : Corners)
    : Type 0 where
  pub left_top : AreNumbers corners.narrow channels
      (value_in (values round.level) round.columns.first round.rows.first) corners.left_top
  pub right_top : AreNumbers corners.narrow channels
      (value_in (values round.level) round.columns.second round.rows.first) corners.right_top
  pub left_bottom : AreNumbers corners.narrow channels
      (value_in (values round.level) round.columns.first round.rows.second) corners.left_bottom
  pub right_bottom : AreNumbers corners.narrow channels
      (value_in (values round.level) round.columns.second round.rows.second) corners.right_bottom

-- the corners have the values round the coordinates in a level, as the wraps have it, in the first
-- `channels` channels
pub record AreWrapped (image : Image) (r : FineRequest) (l channels : ℕ) (corners : Corners)
    : Type 0 where
  pub left_top : AreNumbers corners.narrow channels
      (wrapped_value image r l (index_before r.s (image.sizes.width l))
      (index_before r.t (image.sizes.height l)))
      corners.left_top
  pub right_top : AreNumbers corners.narrow channels
      (wrapped_value image r l (index_before r.s (image.sizes.width l) +ℤ pos 1)
      (index_before r.t (image.sizes.height l)))
      corners.right_top
  pub left_bottom : AreNumbers corners.narrow channels
      (wrapped_value image r l (index_before r.s (image.sizes.width l))
      (index_before r.t (image.sizes.height l) +ℤ pos 1))
      corners.left_bottom
  pub right_bottom : AreNumbers corners.narrow channels
      (wrapped_value image r l (index_before r.s (image.sizes.width l) +ℤ pos 1)
      (index_before r.t (image.sizes.height l) +ℤ pos 1))
      corners.right_bottom
