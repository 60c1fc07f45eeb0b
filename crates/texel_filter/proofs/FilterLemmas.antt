-- From a level's texels to the value of a lookup.
use Rattle.std.proofs.Common.{◌≡◌, ℕ, ◌+◌, ◌*◌, ◌/◌, ◌^◌, ◌<◌, ◌≢◌, pos, Option, Some}
use Rattle.std.proofs.Common.{List, [], ◌∷◌}
use Rattle.std.proofs.Common.{sym, ap, ◌∙◌, arith}
use Rattle.std.proofs.Math.Nat.{mul-div-mul_left}
use Rattle.std.proofs.lemmas.Bool.{ne_eqb}
use Rattle.texel_filter.specs.declared.request.FineRequest.{FineRequest}
use Rattle.texel_filter.specs.declared.coordinate.LevelPair.{LevelPair}
use Rattle.texel_filter.specs.Image.{Sizes, Values, Image, AreValues, image_of, texel_of}
use Rattle.texel_filter.specs.Coordinate.{unit, index_at, level_before, fraction_of_next_level}
use Rattle.texel_filter.specs.WrapMode.{wrapped_index}
use Rattle.texel_filter.specs.Filter.{value_in, closest_in_level, bilinear_sum, bilinear_in_level}
use Rattle.texel_filter.specs.Filter.{blended_sum, rounded_sum, trilinear_sum, trilinear_value}
use Rattle.texel_filter.specs.Visits.{square_visits, trilinear_visits, texel_visits}
use Rattle.texel_filter.proofs.WrapLemmas.{wrapped_there}
use Rattle.texel_filter.specs.LevelPair.{alone_sum, between_sum, between_value, between_visits}

pub closest_at : (image : Image) (r : FineRequest) (l : ℕ) (x y : Option ℕ) (c : ℕ)
    → x ≡ wrapped_index r.swrap (index_at r.s (image.sizes.width l)) (image.sizes.width l)
    → y ≡ wrapped_index r.twrap (index_at r.t (image.sizes.height l)) (image.sizes.height l)
    → value_in (image.values l) x y c ≡ closest_in_level image r l c
unfolding closest_in_level
closest_at image r l x y c across down = rw (across, down)

-- where the texel lies in the level, which no wrap changes
module _ (sizes : Sizes) (r : FineRequest) (l x y : ℕ)
    (across : index_at r.s (sizes.width l) ≡ pos x) (fits : x < sizes.width l)
    (down : index_at r.t (sizes.height l) ≡ pos y) (gits : y < sizes.height l) where
  column : wrapped_index r.swrap (index_at r.s (sizes.width l)) (sizes.width l) ≡ Some x
  column = wrapped_there r.swrap _ x _ across fits

  row : wrapped_index r.twrap (index_at r.t (sizes.height l)) (sizes.height l) ≡ Some y
  row = wrapped_there r.twrap _ y _ down gits

  pub closest_inside : (values : Values) (c : ℕ)
      → values l x y c ≡ closest_in_level (image_of sizes values) r l c
  closest_inside values c = closest_at (image_of sizes values) r l (Some x) (Some y) c (sym column)
      (sym row)

  pub visits_inside : texel_of l x y ∷ [] ≡ texel_visits sizes r l
  visits_inside = rw (column, row)

-- where the next level has no fraction
pub sum_alone : (first next : ℕ) → unit * first ≡ blended_sum 0 first next
sum_alone first next = omega arith

pub rounded_alone : (sum : ℕ) → (sum + 2 ^ 31) / 2 ^ 32 ≡ rounded_sum (unit * sum)
rounded_alone sum =
    let e : 65536 * sum + 2 ^ 47 ≡ 65536 * (sum + 2 ^ 31) = omega arith in
    rw e (sym (mul-div-mul_left {m = 65536} (sum + 2 ^ 31) (2 ^ 32) (omega arith)))

pub trisum_alone : (image : Image) (r : FineRequest) (l q c : ℕ)
    → l ≡ level_before r.lod image.sizes.levels
    → q ≡ fraction_of_next_level r.lod image.sizes.levels → q ≡ 0
    → alone_sum image r l c ≡ trilinear_sum image r c
unfolding trilinear_sum
trisum_alone image r l q c first fraction none =
    rw (← fraction, none, ← first) (sum_alone _ _)

pub trilinear_alone : (image : Image) (r : FineRequest) (l q c : ℕ)
    → l ≡ level_before r.lod image.sizes.levels
    → q ≡ fraction_of_next_level r.lod image.sizes.levels → q ≡ 0
    → bilinear_in_level image r l c ≡ trilinear_value image r c
unfolding trilinear_value
trilinear_alone image r l q c first fraction none =
    rounded_alone (bilinear_sum image r l c)
    ∙ ap rounded_sum (trisum_alone image r l q c first fraction none)

pub trisum_between : (image : Image) (r : FineRequest) (levels : LevelPair) (c : ℕ)
    → levels.first ≡ level_before r.lod image.sizes.levels
    → levels.fraction ≡ fraction_of_next_level r.lod image.sizes.levels
    → between_sum image r levels c ≡ trilinear_sum image r c
unfolding trilinear_sum
trisum_between image r levels c first fraction = rw (← fraction, ← first)

pub trilinear_between : (image : Image) (r : FineRequest) (levels : LevelPair) (c : ℕ)
    → levels.first ≡ level_before r.lod image.sizes.levels
    → levels.fraction ≡ fraction_of_next_level r.lod image.sizes.levels
    → between_value image r levels c ≡ trilinear_value image r c
unfolding trilinear_value
trilinear_between image r levels c first fraction =
    ap rounded_sum (trisum_between image r levels c first fraction)

pub visits_alone : (sizes : Sizes) (r : FineRequest) (l q : ℕ) → l ≡ level_before r.lod sizes.levels
    → q ≡ fraction_of_next_level r.lod sizes.levels → q ≡ 0
    → square_visits sizes r l ≡ trilinear_visits sizes r
unfolding trilinear_visits
visits_alone sizes r l q first fraction none = rw (← fraction, none, ← first)

pub visits_between : (sizes : Sizes) (r : FineRequest) (levels : LevelPair)
    → levels.first ≡ level_before r.lod sizes.levels
    → levels.fraction ≡ fraction_of_next_level r.lod sizes.levels → levels.fraction ≢ 0
    → between_visits sizes r levels ≡ trilinear_visits sizes r
unfolding trilinear_visits
visits_between sizes r levels first fraction some =
    rw (← fraction, ne_eqb levels.fraction 0 some, ← first)

-- values that are equal to others
pub values_like : (v w : ℕ → ℕ) (listed : List ℕ) → ((c : ℕ) → v c ≡ w c) → AreValues v listed
    → AreValues w listed
values_like v w listed same are c below = are c below ∙ same c
