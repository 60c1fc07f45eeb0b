-- What does a C request ask for, and which requests are in range?
use Rattle.std.specs.Prelude.{ℕ, ◌<◌, ◌==◌, if◌then◌else◌}
use Rattle.tiff_format.specs.declared.info.Info.{Info}
use Rattle.texel_values.specs.declared.region.Region.{Region}
use Rattle.texel_values.specs.declared.texel_at.TexelAt.{TexelAt}
use Rattle.texel_filter.specs.Image.{IsChannelCount}
use Rattle.texel_filter.specs.Deriv.{IsDerivNumber}
use Rattle.texel_filter.specs.declared.mode.Wrap.{Wrap}
use Rattle.texel_filter.specs.declared.mode.Wrap.TheVariants as wrap
use Rattle.texel_filter.specs.declared.request.Filter.{Filter}
use Rattle.texel_filter.specs.declared.request.Filter.TheVariants as by
use Rattle.texel_filter.specs.declared.request.TexRequest.{TexRequest}
use Rattle.texel_filter.specs.declared.request.DerivRequest.{DerivRequest}
use Rattle.supplied_client.specs.declared.holds.TexTexel.{TexTexel}
use Rattle.supplied_client.specs.declared.request.TexLookup.{TexLookup}
use Rattle.supplied_client.specs.declared.saying.TexInfo.{TexInfo}
use Rattle.supplied_client.specs.declared.saying.TexRegion.{TexRegion}

-- the wrap with this number, which is below 4
abbrev pub wrap_of : ℕ → Wrap
wrap_of n = if n == 0 then wrap.Black else if n == 1 then wrap.Clamp
    else if n == 2 then wrap.Periodic else wrap.Mirror

-- the filter with this number, which is below 3
abbrev pub filter_of : ℕ → Filter
filter_of n = if n == 0 then by.Closest else if n == 1 then by.Bilinear else by.Trilinear

-- ---- lookups at a place

-- Each number of a lookup at a place is in its range.
pub record IsPoint (l : TexLookup) : Type 0 where
  pub swrap : l.swrap < 4
  pub twrap : l.twrap < 4
  pub filter : l.filter < 3
  pub channels : IsChannelCount l.channels

-- the lookup at a place that such a request asks for
abbrev pub point_of : TexLookup → TexRequest
point_of l = record {
  s = l.s;
  t = l.t;
  lod = l.lod;
  swrap = wrap_of l.swrap;
  twrap = wrap_of l.twrap;
  filter = filter_of l.filter;
  nch = l.channels;
}

-- ---- lookups along a footprint

-- The coordinates and derivatives are in their range.
pub record AreDerivNumbers (l : TexLookup) : Type 0 where
  pub s : IsDerivNumber l.s
  pub t : IsDerivNumber l.t
  pub dsdx : IsDerivNumber l.dsdx
  pub dtdx : IsDerivNumber l.dtdx
  pub dsdy : IsDerivNumber l.dsdy
  pub dtdy : IsDerivNumber l.dtdy

-- Each number of a lookup along a footprint is in its range.
pub record IsFootprint (l : TexLookup) : Type 0 where
  pub numbers : AreDerivNumbers l
  pub swrap : l.swrap < 4
  pub twrap : l.twrap < 4
  pub channels : IsChannelCount l.channels

-- the lookup along a footprint that such a request asks for
abbrev pub footprint_of : TexLookup → DerivRequest
footprint_of l = record {
  s = l.s;
  t = l.t;
  dsdx = l.dsdx;
  dtdx = l.dtdx;
  dsdy = l.dsdy;
  dtdy = l.dtdy;
  swrap = wrap_of l.swrap;
  twrap = wrap_of l.twrap;
  nch = l.channels;
}

-- ---- regions and files

-- the region that C asks for, as the cache names it
abbrev pub region_of : TexRegion → Region
region_of r = record { level = r.level; x = r.x; y = r.y; w = r.w; h = r.h }

-- the texel that C asks for, as the cache names it
abbrev pub texel_of : TexTexel → TexelAt
texel_of t = record { level = t.level; x = t.x; y = t.y }

-- the description of a file, in C's form
abbrev pub told_info : Info → TexInfo
told_info info = record {
  width = info.width;
  height = info.height;
  channels = info.channels;
  depth = info.depth;
  stored = info.stored;
  levels = info.levels;
}
