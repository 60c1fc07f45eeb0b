-- Which number is each sample in the bytes of a block of one plane?
-- (TIFF 6.0, section 8 on PlanarConfiguration)
use Rattle.std.specs.Prelude.{ℕ, Bool, List}
use Rattle.tiff_format.specs.Texel.{unwhite}
use Rattle.unpack.specs.Sample.{depth_of, stored_sample}

-- sample k, which is inverted in the plane of channel 0 of a WhiteIsZero image
abbrev pub plane_sample : Bool → Bool → Bool → List ℕ → ℕ → ℕ
plane_sample wide big flip bytes k =
    unwhite flip (depth_of wide) (stored_sample wide big bytes k)
