-- How many planes a level can have.
use Rattle.std.proofs.Common.{◌≡◌, ℕ, ◌≤◌, Bool, true, false, refl, arith, eqb}
use Rattle.std.specs.Prelude.{if◌then◌else◌}
use Rattle.std.proofs.lemmas.Bool.{eqb-true, eq-eqb, or_right}
use Rattle.tiff_format.specs.Block.{planes_by}
use Rattle.tiff_format.specs.Limits.{max_channels}
use Rattle.tiff_format.specs.Facts.{IsChannelCount, IsPlaneCount}

by_one : (channels planes : ℕ) (b : Bool) → eqb planes 1 ≡ b → IsPlaneCount channels planes
    → IsChannelCount channels → (1 ≤ planes) × (planes ≤ max_channels)
by_one channels planes true is count few =
    let one : planes ≡ 1 = eqb-true planes 1 is in (omega (arith, one), omega (arith, one))
by_one channels planes false is count few =
    let all : planes ≡ channels = eqb-true planes channels (rw is at count) in
    (omega (arith, all, few.low), omega (arith, all, few.high))

-- there is one at least, and no more than there can be channels
pub plane_count : (channels planes : ℕ) → IsPlaneCount channels planes → IsChannelCount channels
    → (1 ≤ planes) × (planes ≤ max_channels)
plane_count channels planes count few = by_one channels planes (eqb planes 1) refl count few

planes_with : (samples : ℕ) (b : Bool) → IsPlaneCount samples (if b then samples else 1)
planes_with samples true = or_right (eqb samples 1) (eqb samples samples) (eq-eqb samples samples refl)
planes_with samples false = refl

-- as many as PlanarConfiguration asks for
pub planes_in_range : (planar samples : ℕ) → IsPlaneCount samples (planes_by planar samples)
planes_in_range planar samples = planes_with samples (eqb planar 2)
