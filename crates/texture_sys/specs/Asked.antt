-- What may a lookup ask for, which texels does it visit, and which value has it on an image?
-- (docs/FILTERING.md, "Filters" and "Footprints")
use Rattle.std.specs.Prelude.{◌≡◌, ℕ, List, ℤ, map, ⊤, length, Result, Ok, Err}
use Rattle.std.specs.List.{range_with_len}
use Rattle.texel_filter.specs.Image.{Sizes, Image, Texel, IsChannelCount}
use Rattle.texel_filter.specs.Filter.{lookup_value}
use Rattle.texel_filter.specs.Visits.{lookup_visits}
use Rattle.texel_filter.specs.Deriv.{IsDerivRequest}
use Rattle.texel_filter.specs.Fine.{fine_of, IsFineRequest}
use Rattle.texel_filter.specs.declared.request.TexRequest.{TexRequest}
use Rattle.texel_filter.specs.declared.request.DerivRequest.{DerivRequest}
use Rattle.tex_aniso.specs.Mean.{derivs_value, derivs_visits}
use Rattle.tex_aniso.specs.Line.{IsProbeLine, line_value, line_visits}
use Rattle.tex_aniso.specs.Shape.{IsEllipseRequest}
use Rattle.tex_aniso.specs.Ellipse.{ellipse_value, ellipse_visits}
use Rattle.texture_sys.specs.declared.lookup.Lookup.{Lookup}
use Rattle.texture_sys.specs.declared.lookup.Lookup.TheVariants.{Coarse, Fine, Probes, Ellipse}
use Rattle.texture_sys.specs.declared.lookup.Lookups.{Lookups}
use Rattle.texture_sys.specs.declared.lookup.Lookups.TheVariants.{One, Many}
use Rattle.texture_sys.specs.declared.stopped.Stopped.{Stopped}
use Rattle.texture_sys.specs.Batch.{batch_len, IsBatchInRange, batch_visits, AreAnswered}
use Rattle.texture_sys.specs.Batch.{KeepsBehind}
use Rattle.texture_sys.specs.declared.lookup_request.LookupRequest.{LookupRequest}
use Rattle.texture_sys.specs.declared.lookup_request.LookupRequest.TheVariants.{Point, Footprint}

-- how many channels a lookup asks for
abbrev pub channels_asked : LookupRequest → ℕ
channels_asked (Point r) = r.nch
channels_asked (Footprint r) = r.nch

-- the lookup asks for 1 to 8 channels, and its derivatives are in the allowed range
abbrev pub MayBeLookedUp : LookupRequest → Type 0
MayBeLookedUp (Point r) = IsChannelCount r.nch
MayBeLookedUp (Footprint r) = IsDerivRequest r

-- the coordinates of a lookup
abbrev pub s_asked : LookupRequest → ℤ
s_asked (Point r) = r.s
s_asked (Footprint r) = r.s

abbrev pub t_asked : LookupRequest → ℤ
t_asked (Point r) = r.t
t_asked (Footprint r) = r.t

-- the same request with other coordinates
abbrev pub moved_to : LookupRequest → ℤ → ℤ → LookupRequest
moved_to (Point r) s t = Point (record r { s = s; t = t })
moved_to (Footprint r) s t = Footprint (record r { s = s; t = t })

-- the value of channel c of a lookup on an image
abbrev pub asked_value : Image → LookupRequest → ℕ → ℕ
asked_value image (Point r) c = lookup_value image (fine_of r) c
asked_value image (Footprint r) c = derivs_value image r c

-- the texels that a lookup visits, in order
abbrev pub asked_visits : Sizes → LookupRequest → List Texel
asked_visits sizes (Point r) = lookup_visits sizes (fine_of r)
asked_visits sizes (Footprint r) = derivs_visits sizes r

-- ---- one lookup of any form

-- its number of channels
abbrev pub channels_in : Lookup → ℕ
channels_in (Coarse r) = channels_asked r
channels_in (Fine r) = r.nch
channels_in (Probes line) = line.nch
channels_in (Ellipse r) = r.nch

-- its numbers are in range
abbrev pub IsInRange : Lookup → Type 0
IsInRange (Coarse r) = MayBeLookedUp r
IsInRange (Fine r) = IsFineRequest r
IsInRange (Probes line) = IsProbeLine line
IsInRange (Ellipse r) = IsEllipseRequest r

-- channel c of its value
abbrev pub value_on : Image → Lookup → ℕ → ℕ
value_on image (Coarse r) c = asked_value image r c
value_on image (Fine r) c = lookup_value image r c
value_on image (Probes line) c = line_value image line c
value_on image (Ellipse r) c = ellipse_value image r c

-- its values, channel by channel
abbrev pub values_of : Image → Lookup → List ℕ
values_of image r = map (value_on image r) (range_with_len 0 (channels_in r))

-- the texels that it visits, in order
abbrev pub visits_in : Sizes → Lookup → List Texel
visits_in sizes (Coarse r) = asked_visits sizes r
visits_in sizes (Fine r) = lookup_visits sizes r
visits_in sizes (Probes line) = line_visits sizes line
visits_in sizes (Ellipse r) = ellipse_visits sizes r

-- ---- one lookup or many

-- one lookup in 1/65536 of the image: at a place, or along a footprint
abbrev pub one_point : TexRequest → Lookups
one_point r = One (Coarse (Point r))

abbrev pub one_footprint : DerivRequest → Lookups
one_footprint r = One (Coarse (Footprint r))

-- the number of values
abbrev pub values_in : Lookups → ℕ
values_in (One r) = channels_in r
values_in (Many b) = batch_len b

-- all numbers are in range
abbrev pub AreInRange : Lookups → Type 0
AreInRange (One r) = IsInRange r
AreInRange (Many b) = IsBatchInRange b

-- the texels that are visited, in order
abbrev pub all_visits : Sizes → Lookups → List Texel
all_visits sizes (One r) = visits_in sizes r
all_visits sizes (Many b) = batch_visits sizes b

-- the values on an image
abbrev pub AreValuesOn : Image → Lookups → List ℕ → Type 0
AreValuesOn image (One r) out = out ≡ values_of image r
AreValuesOn image (Many b) out = AreAnswered image b (length b.places.now) out

-- the values of the first `done` lookups of a batch; of one lookup there are all or none
abbrev pub AreFirstOn : Image → Lookups → ℕ → List ℕ → Type 0
AreFirstOn image (One r) done out = ⊤
AreFirstOn image (Many b) done out = AreAnswered image b done out

-- only these were written; one lookup that fails is not answered and writes nothing
abbrev pub KeepsOthers : Lookups → ℕ → List ℕ → List ℕ → Type 0
KeepsOthers (One r) done old new = (done ≡ 0) × (new ≡ old)
KeepsOthers (Many b) done old new = KeepsBehind b done old new

-- ---- results

-- the result without the number of lookups that were answered before the error
abbrev pub whole : {A E : Type 0} → Result A (Stopped E) → Result A E
whole (Ok x) = Ok x
whole (Err stopped) = Err stopped.error
