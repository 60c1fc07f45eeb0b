-- Which sums have four values with their weights?
use Rattle.std.specs.Prelude.{◌≡◌, ℕ, ◌+◌, ◌*◌, ◌^◌, ◌<◌, ◌≤◌, List, slice_index}
use Rattle.texel_filter.specs.declared.request.FineRequest.{FineRequest}
use Rattle.texel_filter.specs.declared.weighted.Weighted.{Weighted}
use Rattle.texel_filter.specs.Image.{Image}
use Rattle.texel_filter.specs.Filter.{bilinear_sum}
use Rattle.texel_filter.specs.Square.{number_value}

-- the greatest sum of four values by their weights
abbrev pub max_sum : ℕ
max_sum = 65535 * 2 ^ 32

-- the sum of the values of the four numbers of a channel by their weights
abbrev pub sum_of : Weighted → ℕ → ℕ
sum_of four c =
    let value = number_value four.corners.narrow in
    four.weights.left_top * value (slice_index four.corners.left_top c)
    + four.weights.right_top * value (slice_index four.corners.right_top c)
    + four.weights.left_bottom * value (slice_index four.corners.left_bottom c)
    + four.weights.right_bottom * value (slice_index four.corners.right_bottom c)

-- the sums are those of a lookup in a level, in the first `channels` channels
abbrev pub HasSums : Image → FineRequest → ℕ → ℕ → Weighted → Type 0
HasSums image r l channels four =
    (c : ℕ) → c < channels → sum_of four c ≡ bilinear_sum image r l c

-- none of the first `channels` sums of the list is above the greatest sum of a level
abbrev pub AreLevelSums : ℕ → List ℕ → Type 0
AreLevelSums channels listed = (c : ℕ) → c < channels → slice_index listed c ≤ max_sum
