-- From the columns and rows round the coordinates to the values there, and their weighted sum.
use Rattle.std.proofs.Common.{◌≡◌, ℕ, ◌+◌, ◌-◌, ◌*◌, ◌<◌, pos, ◌+ℤ◌, Some, ap, ◌∙◌, arith}
use Rattle.texel_filter.specs.declared.square.Square.{Square}
use Rattle.texel_filter.specs.declared.square.Corners.{Corners}
use Rattle.texel_filter.specs.declared.round.Round.{Round}
use Rattle.texel_filter.specs.declared.request.FineRequest.{FineRequest}
use Rattle.texel_filter.specs.declared.weights.Weights.{Weights}
use Rattle.texel_filter.specs.Image.{Sizes, Values, image_of}
use Rattle.texel_filter.specs.WrapMode.{wrapped_index}
use Rattle.texel_filter.specs.Coordinate.{unit, index_before, fraction_of_next}
use Rattle.texel_filter.specs.Filter.{bilinear_sum}
use Rattle.texel_filter.specs.Visits.{square_visits}
use Rattle.texel_filter.specs.Square.{AreCorners, texels_of}
use Rattle.texel_filter.specs.Round.{AreRound, IsRoundAt, visits_round, AreWrapped}
use Rattle.texel_filter.specs.Weighted.{HasSums}
use Rattle.texel_filter.proofs.WrapLemmas.{wrapped_there}

-- ---- where none is left out

pub round_of_square : (values : Values) (round : Round) (left right top bottom n : ℕ)
    (corners : Corners) → round.columns.first ≡ Some left → round.columns.second ≡ Some right
    → round.rows.first ≡ Some top → round.rows.second ≡ Some bottom
    → AreCorners values
    (record { level = round.level; left = left; right = right; top = top; bottom = bottom }) n
    corners
    → AreRound values round n corners
round_of_square values round left right top bottom n corners a b c d h = record {
  left_top = rw (a, c) h.left_top;
  right_top = rw (b, c) h.right_top;
  left_bottom = rw (a, d) h.left_bottom;
  right_bottom = rw (b, d) h.right_bottom;
}

-- ---- where they lie side by side in the level, from column x and row y on
module _ (sizes : Sizes) (r : FineRequest) (l x y : ℕ)
    (across : index_before r.s (sizes.width l) ≡ pos x) (fits : x + 1 < sizes.width l)
    (down : index_before r.t (sizes.height l) ≡ pos y) (gits : y + 1 < sizes.height l) where
  square : Square
  square = record { level = l; left = x; right = x + 1; top = y; bottom = y + 1 }

  left : wrapped_index r.swrap (index_before r.s (sizes.width l)) (sizes.width l) ≡ Some x
  left = wrapped_there r.swrap _ x _ across (omega arith)

  right : wrapped_index r.swrap (index_before r.s (sizes.width l) +ℤ pos 1) (sizes.width l)
      ≡ Some (x + 1)
  right = wrapped_there r.swrap _ (x + 1) _ (ap (λ z. z +ℤ pos 1) across) fits

  top : wrapped_index r.twrap (index_before r.t (sizes.height l)) (sizes.height l) ≡ Some y
  top = wrapped_there r.twrap _ y _ down (omega arith)

  bottom : wrapped_index r.twrap (index_before r.t (sizes.height l) +ℤ pos 1) (sizes.height l)
      ≡ Some (y + 1)
  bottom = wrapped_there r.twrap _ (y + 1) _ (ap (λ z. z +ℤ pos 1) down) gits

  pub wrapped_of_square : (values : Values) (n : ℕ) (corners : Corners)
      → AreCorners values
      (record { level = l; left = x; right = x + 1; top = y; bottom = y + 1 }) n corners
      → AreWrapped (image_of sizes values) r l n corners
  wrapped_of_square values n corners h = record {
    left_top = rw (left, top) h.left_top;
    right_top = rw (right, top) h.right_top;
    left_bottom = rw (left, bottom) h.left_bottom;
    right_bottom = rw (right, bottom) h.right_bottom;
  }

  pub visits_of_square : texels_of
      (record { level = l; left = x; right = x + 1; top = y; bottom = y + 1 })
      ≡ square_visits sizes r l
  unfolding square_visits
  visits_of_square = rw (left, right, top, bottom)

-- ---- as the wraps have it

pub visits_at : (sizes : Sizes) (r : FineRequest) (l : ℕ) (round : Round)
    → IsRoundAt sizes r l round → visits_round round ≡ square_visits sizes r l
unfolding square_visits
visits_at sizes r l round is =
    rw (is.level, is.columns.first, is.columns.second, is.rows.first, is.rows.second)

pub wrapped_of_round : (sizes : Sizes) (values : Values) (r : FineRequest) (l : ℕ) (round : Round)
    (n : ℕ) (corners : Corners) → IsRoundAt sizes r l round → AreRound values round n corners
    → AreWrapped (image_of sizes values) r l n corners
wrapped_of_round sizes values r l round n corners is are = record {
  left_top = λ c below.
      are.left_top c below ∙ rw (is.level, is.columns.first, is.rows.first);
  right_top = λ c below.
      are.right_top c below ∙ rw (is.level, is.columns.second, is.rows.first);
  left_bottom = λ c below.
      are.left_bottom c below ∙ rw (is.level, is.columns.first, is.rows.second);
  right_bottom = λ c below.
      are.right_bottom c below ∙ rw (is.level, is.columns.second, is.rows.second);
}

-- ---- their weighted sum

pub sum_at : (sizes : Sizes) (values : Values) (r : FineRequest) (l f g n : ℕ) (corners : Corners)
    (weights : Weights) → AreWrapped (image_of sizes values) r l n corners
    → f ≡ fraction_of_next r.s (sizes.width l) → g ≡ fraction_of_next r.t (sizes.height l)
    → weights.left_top ≡ (unit - f) * (unit - g) → weights.right_top ≡ f * (unit - g)
    → weights.left_bottom ≡ (unit - f) * g → weights.right_bottom ≡ f * g
    → HasSums (image_of sizes values) r l n (record { corners = corners; weights = weights })
unfolding bilinear_sum
sum_at sizes values r l f g n corners weights are across down a b d e c below =
    rw (
      a,
      b,
      d,
      e,
      are.left_top c below,
      are.right_top c below,
      are.left_bottom c below,
      are.right_bottom c below,
      across,
      down,
    )
