-- Which coordinates may a lookup have, and which are those of a coarse one?
-- (docs/FILTERING.md, "Coordinates")
use Rattle.std.specs.Prelude.{◌^◌, ℤ, pos, neg_ℤ, ◌*ℤ◌, ◌≤ℤ◌, ◌<ℤ◌}
use Rattle.texel_filter.specs.declared.request.TexRequest.{TexRequest}
use Rattle.texel_filter.specs.declared.request.FineRequest.{FineRequest}
use Rattle.texel_filter.specs.Image.{IsChannelCount}
use Rattle.texel_filter.specs.Coordinate.{unit}

-- a coordinate in 1/2^32 of the image: at most 32768 images from its edge
pub record IsFineNumber (z : ℤ) : Type 0 where
  pub low : neg_ℤ (pos (2 ^ 47)) ≤ℤ z
  pub high : z <ℤ pos (2 ^ 47)

-- both coordinates of a lookup
pub record IsFinePlace (r : FineRequest) : Type 0 where
  pub s : IsFineNumber r.s
  pub t : IsFineNumber r.t

-- its coordinates and its number of channels
pub record IsFineRequest (r : FineRequest) : Type 0 where
  pub place : IsFinePlace r
  pub channels : IsChannelCount r.nch

-- the same lookup as a coarse one, whose coordinates are in 1/65536 of the image
abbrev pub fine_of : TexRequest → FineRequest
fine_of r = record {
  s = r.s *ℤ pos unit;
  t = r.t *ℤ pos unit;
  lod = r.lod;
  swrap = r.swrap;
  twrap = r.twrap;
  filter = r.filter;
  nch = r.nch;
}
