-- Which value does a lookup have? (docs/FILTERING.md, "Filters")
use Rattle.std.specs.Prelude.{ℕ, ◌+◌, ◌-◌, ◌*◌, ◌/◌, ◌^◌, ◌<◌, ◌≤◌, ℤ, pos, ◌+ℤ◌}
use Rattle.std.specs.Prelude.{Option, Some, None, List, length, slice_index}
use Rattle.texel_filter.specs.declared.request.FineRequest.{FineRequest}
use Rattle.texel_filter.specs.declared.request.Filter.{Filter}
use Rattle.texel_filter.specs.declared.request.Filter.TheVariants.{Closest, Bilinear, Trilinear}
use Rattle.texel_filter.specs.Image.{Image}
use Rattle.texel_filter.specs.WrapMode.{wrapped_index}
use Rattle.texel_filter.specs.Coordinate.{unit, index_at, index_before, fraction_of_next}
use Rattle.texel_filter.specs.Coordinate.{nearest_level, level_before, fraction_of_next_level}

-- a value of the texel in a column and a row; 0 where there is no such column or row
abbrev pub value_in : (ℕ → ℕ → ℕ → ℕ) → Option ℕ → Option ℕ → ℕ → ℕ
value_in values (Some x) (Some y) c = values x y c
value_in values (Some x) None c = 0
value_in values None y c = 0

-- the value of channel c at indices i and j of a level, as the wraps of the request have it
abbrev pub wrapped_value : Image → FineRequest → ℕ → ℤ → ℤ → ℕ → ℕ
wrapped_value image r l i j c =
    value_in (image.values l) (wrapped_index r.swrap i (image.sizes.width l))
    (wrapped_index r.twrap j (image.sizes.height l)) c

-- ---- closest

-- the value of the texel in which the coordinates lie, in a level
unfoldable pub closest_in_level : Image → FineRequest → ℕ → ℕ → ℕ
closest_in_level image r l c =
    wrapped_value image r l (index_at r.s (image.sizes.width l))
    (index_at r.t (image.sizes.height l)) c

-- the value in the level nearest to the LOD
abbrev pub closest_value : Image → FineRequest → ℕ → ℕ
closest_value image r c = closest_in_level image r (nearest_level r.lod image.sizes.levels) c

-- ---- bilinear

-- The sum of four values, first those of the upper row, by their weights, where f is the fraction of
-- the right column and g that of the lower row. The weights are 2 ^ 32 together.
abbrev pub weighted_sum : ℕ → ℕ → ℕ → ℕ → ℕ → ℕ → ℕ
weighted_sum f g a b c d =
    (unit - f) * (unit - g) * a + f * (unit - g) * b + (unit - f) * g * c + f * g * d

-- the sum over the four texels whose middles lie round the coordinates in a level
unfoldable pub bilinear_sum : Image → FineRequest → ℕ → ℕ → ℕ
bilinear_sum image r l c =
    let i = index_before r.s (image.sizes.width l) in
    let j = index_before r.t (image.sizes.height l) in
    let f = fraction_of_next r.s (image.sizes.width l) in
    let g = fraction_of_next r.t (image.sizes.height l) in
    weighted_sum f g
    (wrapped_value image r l i j c) (wrapped_value image r l (i +ℤ pos 1) j c)
    (wrapped_value image r l i (j +ℤ pos 1) c)
    (wrapped_value image r l (i +ℤ pos 1) (j +ℤ pos 1) c)

-- the sum as a value, rounded to the nearest, a half up
abbrev pub bilinear_in_level : Image → FineRequest → ℕ → ℕ → ℕ
bilinear_in_level image r l c = (bilinear_sum image r l c + 2 ^ 31) / 2 ^ 32

-- the value in the level nearest to the LOD
abbrev pub bilinear_value : Image → FineRequest → ℕ → ℕ
bilinear_value image r c = bilinear_in_level image r (nearest_level r.lod image.sizes.levels) c

-- ---- trilinear

-- two sums by their weights, where q is the fraction of the second
abbrev pub blended_sum : ℕ → ℕ → ℕ → ℕ
blended_sum q first second = (unit - q) * first + q * second

-- a sum over two levels as a value, rounded to the nearest, a half up
abbrev pub rounded_sum : ℕ → ℕ
rounded_sum sum = (sum + 2 ^ 47) / 2 ^ 48

-- the sums of the two levels about the LOD, by their weights; where q is 0 the second has no part
unfoldable pub trilinear_sum : Image → FineRequest → ℕ → ℕ
trilinear_sum image r c =
    let l = level_before r.lod image.sizes.levels in
    let q = fraction_of_next_level r.lod image.sizes.levels in
    blended_sum q (bilinear_sum image r l c) (bilinear_sum image r (l + 1) c)

-- the greatest such sum, where each of the values is 65535
abbrev pub max_trilinear_sum : ℕ
max_trilinear_sum = 65535 * 2 ^ 48

-- none of these numbers is above it
abbrev pub AreSums : List ℕ → Type 0
AreSums listed = (c : ℕ) → c < length listed → slice_index listed c ≤ max_trilinear_sum

-- the sum as a value
unfoldable pub trilinear_value : Image → FineRequest → ℕ → ℕ
trilinear_value image r c = rounded_sum (trilinear_sum image r c)

-- ---- by the filter of the request

abbrev pub value_by : Filter → Image → FineRequest → ℕ → ℕ
value_by Closest image r c = closest_value image r c
value_by Bilinear image r c = bilinear_value image r c
value_by Trilinear image r c = trilinear_value image r c

-- channel c of the lookup
abbrev pub lookup_value : Image → FineRequest → ℕ → ℕ
lookup_value image r c = value_by r.filter image r c
