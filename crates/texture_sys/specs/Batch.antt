-- Which lookups does a batch make, where do their values stand, and which texels do they visit?
use Rattle.std.specs.Prelude.{◌≡◌, ℕ, zero, suc, ◌+◌, ◌*◌, ◌<◌, ◌≤◌, pos}
use Rattle.std.specs.Prelude.{List, [], ◌++◌, length, slice_index, slice_index_or}
use Rattle.texel_filter.specs.Image.{Sizes, Image, Texel}
use Rattle.texel_filter.specs.Filter.{lookup_value}
use Rattle.texel_filter.specs.Visits.{lookup_visits}
use Rattle.texel_filter.specs.Fine.{IsFineRequest}
use Rattle.texel_filter.specs.declared.request.FineRequest.{FineRequest}
use Rattle.tex_aniso.specs.declared.ellipse_request.EllipseRequest.{EllipseRequest}
use Rattle.tex_aniso.specs.Shape.{IsEllipseRequest}
use Rattle.tex_aniso.specs.Ellipse.{ellipse_value, ellipse_visits}
use Rattle.texture_sys.specs.declared.batch.LookupPoint.{LookupPoint}
use Rattle.texture_sys.specs.declared.batch.PointOptions.{PointOptions}
use Rattle.texture_sys.specs.declared.batch.FootprintOptions.{FootprintOptions}
use Rattle.texture_sys.specs.declared.batch.BatchOptions.{BatchOptions}
use Rattle.texture_sys.specs.declared.batch.BatchOptions.TheVariants.{Points, Footprints}
use Rattle.texture_sys.specs.declared.batch.Batch.{Batch}

-- ---- one lookup of a batch

-- the lookup at a place
abbrev pub point_at : PointOptions → LookupPoint → FineRequest
point_at o place = record {
  s = place.s;
  t = place.t;
  lod = o.lod;
  swrap = o.swrap;
  twrap = o.twrap;
  filter = o.filter;
  nch = o.nch;
}

-- the lookup over the footprint at a place
abbrev pub footprint_at : FootprintOptions → LookupPoint → EllipseRequest
footprint_at o place = record {
  s = place.s;
  t = place.t;
  dsdx = place.dsdx;
  dtdx = place.dtdx;
  dsdy = place.dsdy;
  dtdy = place.dtdy;
  max_probes = o.max_probes;
  swrap = o.swrap;
  twrap = o.twrap;
  nch = o.nch;
}

-- the number of channels of each lookup
abbrev pub batch_channels : BatchOptions → ℕ
batch_channels (Points o) = o.nch
batch_channels (Footprints o) = o.nch

-- the numbers of the lookup at a place are in range
abbrev pub IsPlaceInRange : BatchOptions → LookupPoint → Type 0
IsPlaceInRange (Points o) place = IsFineRequest (point_at o place)
IsPlaceInRange (Footprints o) place = IsEllipseRequest (footprint_at o place)

-- channel c of the value of the lookup at a place
abbrev pub place_value : Image → BatchOptions → LookupPoint → ℕ → ℕ
place_value image (Points o) place c = lookup_value image (point_at o place) c
place_value image (Footprints o) place c = ellipse_value image (footprint_at o place) c

-- the texels that the lookup at a place visits, in order
abbrev pub place_visits : Sizes → BatchOptions → LookupPoint → List Texel
place_visits sizes (Points o) place = lookup_visits sizes (point_at o place)
place_visits sizes (Footprints o) place = ellipse_visits sizes (footprint_at o place)

-- ---- all lookups of a batch

-- used only where a batch has no place: it is never read
abbrev pub no_place : LookupPoint
no_place = record { s = pos 0; t = pos 0; dsdx = pos 0; dtdx = pos 0; dsdy = pos 0; dtdy = pos 0 }

-- place i of a batch
abbrev pub nth_place : Batch → ℕ → LookupPoint
nth_place b i = slice_index_or b.places.now i no_place

-- how many values the batch has
abbrev pub batch_len : Batch → ℕ
batch_len b = length b.places.now * batch_channels b.options

-- the numbers of each lookup are in range
abbrev pub IsBatchInRange : Batch → Type 0
IsBatchInRange b = (i : ℕ) → i < length b.places.now → IsPlaceInRange b.options (nth_place b i)

-- Lookup i has a number out of range, and no lookup before it has.
pub record IsFirstOutOfRange (b : Batch) (i : ℕ) : Type 0 where
  pub inside : i < length b.places.now
  pub out : ¬ IsPlaceInRange b.options (nth_place b i)
  pub before : (k : ℕ) → k < i → IsPlaceInRange b.options (nth_place b k)

-- the texels that the first k lookups visit, in order
unfoldable pub batch_visits_upto : Sizes → Batch → ℕ → List Texel
batch_visits_upto sizes b zero = []
batch_visits_upto sizes b (suc k) =
    batch_visits_upto sizes b k ++ place_visits sizes b.options (nth_place b k)

-- those of all lookups
abbrev pub batch_visits : Sizes → Batch → List Texel
batch_visits sizes b = batch_visits_upto sizes b (length b.places.now)

-- The first n lookups are answered: channel c of lookup i stands at i * channels + c.
abbrev pub AreAnswered : Image → Batch → ℕ → List ℕ → Type 0
AreAnswered image b n out = (i c : ℕ) → i < n → c < batch_channels b.options
    → slice_index out (i * batch_channels b.options + c)
    ≡ place_value image b.options (nth_place b i) c

-- Only the values of the first n lookups were written.
pub record KeepsBehind (b : Batch) (n : ℕ) (old new : List ℕ) : Type 0 where
  pub some : n ≤ length b.places.now
  pub long : length new ≡ length old
  pub rest : (k : ℕ) → n * batch_channels b.options ≤ k → slice_index new k ≡ slice_index old k
