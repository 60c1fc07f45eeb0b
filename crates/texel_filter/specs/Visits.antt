-- Which texels does a lookup visit, in which order? (docs/FILTERING.md, "Visits")
use Rattle.std.specs.Prelude.{ℕ, ◌+◌, ℤ, pos, ◌+ℤ◌, ◌==◌, if◌then◌else◌, Option, Some, None}
use Rattle.std.specs.Prelude.{List, [], ◌∷◌, ◌++◌}
use Rattle.texel_filter.specs.declared.request.FineRequest.{FineRequest}
use Rattle.texel_filter.specs.declared.request.Filter.{Filter}
use Rattle.texel_filter.specs.declared.request.Filter.TheVariants.{Closest, Bilinear, Trilinear}
use Rattle.texel_filter.specs.Image.{Sizes, Texel, texel_of}
use Rattle.texel_filter.specs.WrapMode.{wrapped_index}
use Rattle.texel_filter.specs.Coordinate.{index_at, index_before}
use Rattle.texel_filter.specs.Coordinate.{nearest_level, level_before, fraction_of_next_level}

-- the texel in a column and a row of a level, alone; none where there is no such column or row
abbrev pub visit_in : ℕ → Option ℕ → Option ℕ → List Texel
visit_in l (Some x) (Some y) = texel_of l x y ∷ []
visit_in l (Some x) None = []
visit_in l None y = []

-- the visit at indices i and j of a level: none where a wrap leaves the texel out
abbrev pub wrapped_visit : Sizes → FineRequest → ℕ → ℤ → ℤ → List Texel
wrapped_visit sizes r l i j =
    visit_in l (wrapped_index r.swrap i (sizes.width l)) (wrapped_index r.twrap j (sizes.height l))

-- that of the texel in which the coordinates lie in a level
abbrev pub texel_visits : Sizes → FineRequest → ℕ → List Texel
texel_visits sizes r l =
    wrapped_visit sizes r l (index_at r.s (sizes.width l)) (index_at r.t (sizes.height l))

-- of closest
abbrev pub closest_visits : Sizes → FineRequest → List Texel
closest_visits sizes r = texel_visits sizes r (nearest_level r.lod sizes.levels)

-- those of the four texels round the coordinates in a level, the upper row first
unfoldable pub square_visits : Sizes → FineRequest → ℕ → List Texel
square_visits sizes r l =
    let i = index_before r.s (sizes.width l) in
    let j = index_before r.t (sizes.height l) in
    wrapped_visit sizes r l i j ++ wrapped_visit sizes r l (i +ℤ pos 1) j
    ++ wrapped_visit sizes r l i (j +ℤ pos 1) ++ wrapped_visit sizes r l (i +ℤ pos 1) (j +ℤ pos 1)

-- of bilinear
abbrev pub bilinear_visits : Sizes → FineRequest → List Texel
bilinear_visits sizes r = square_visits sizes r (nearest_level r.lod sizes.levels)

-- of trilinear: first the level before the LOD, then the next one where it has a fraction
unfoldable pub trilinear_visits : Sizes → FineRequest → List Texel
trilinear_visits sizes r =
    let l = level_before r.lod sizes.levels in
    if fraction_of_next_level r.lod sizes.levels == 0 then square_visits sizes r l
    else square_visits sizes r l ++ square_visits sizes r (l + 1)

-- by the filter
abbrev pub visits_by : Filter → Sizes → FineRequest → List Texel
visits_by Closest sizes r = closest_visits sizes r
visits_by Bilinear sizes r = bilinear_visits sizes r
visits_by Trilinear sizes r = trilinear_visits sizes r

-- of a lookup
abbrev pub lookup_visits : Sizes → FineRequest → List Texel
lookup_visits sizes r = visits_by r.filter sizes r
