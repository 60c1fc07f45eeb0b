-- Which lookups along a pixel's footprint may be asked for?
-- (docs/FILTERING.md, "Footprints")
use Rattle.std.specs.Prelude.{◌^◌, ℤ, pos, neg_ℤ, ◌≤ℤ◌, ◌<ℤ◌}
use Rattle.texel_filter.specs.declared.request.DerivRequest.{DerivRequest}
use Rattle.texel_filter.specs.Image.{IsChannelCount}

-- a coordinate or a derivative of such a lookup
pub record IsDerivNumber (z : ℤ) : Type 0 where
  pub low : neg_ℤ (pos (2 ^ 30)) ≤ℤ z
  pub high : z <ℤ pos (2 ^ 30)

-- its six numbers and its number of channels
pub record IsDerivRequest (r : DerivRequest) : Type 0 where
  pub s : IsDerivNumber r.s
  pub t : IsDerivNumber r.t
  pub dsdx : IsDerivNumber r.dsdx
  pub dtdx : IsDerivNumber r.dtdx
  pub dsdy : IsDerivNumber r.dsdy
  pub dtdy : IsDerivNumber r.dtdy
  pub channels : IsChannelCount r.nch
