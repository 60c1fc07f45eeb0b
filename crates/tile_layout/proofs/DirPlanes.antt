-- What a directory says of the planes of its level.
use Rattle.std.proofs.Common.{◌≡◌, ℕ, ◌+◌, ◌<◌, ◌≤◌, Bool, true, false, eqb, ap, subst, ◌∙◌, arith}
use Rattle.std.proofs.Common.{lit≤}
use Rattle.std.specs.Prelude.{if◌then◌else◌}
use Rattle.tiff_format.specs.declared.dir.Dir.{Dir}
use Rattle.tiff_format.specs.Limits.{max_channels}
use Rattle.tiff_format.specs.Block.{Level, samples_aside}
use Rattle.tiff_format.specs.Facts.{IsPlaneCount, IsChannelCount}
use Rattle.tiff_format.specs.Shown.{shown}
use Rattle.tiff_format.specs.Texel.{sample_place}
use Rattle.tiff_format.proofs.Planes.{plane_count}
use Rattle.tile_layout.specs.Plane.{plane_level}
use Rattle.tile_layout.proofs.PlaneBlocks.{plane_place}

module _ (dir : Dir) (level : Level) (is : shown dir ≡ level) where
  pub planes_same : dir.planes ≡ level.shape.planes
  planes_same = ap (λ (l : Level). l.shape.planes) is

  pub one_or_all : IsPlaneCount level.shape.channels level.shape.planes
  one_or_all = subst (λ (l : Level). IsPlaneCount l.shape.channels l.shape.planes) is
      dir.shape_in.planes

  channels_in : IsChannelCount level.shape.channels
  channels_in =
      subst (λ (l : Level). IsChannelCount l.shape.channels) is dir.shape_in.channels

  pub some_planes : (1 ≤ level.shape.planes) × (level.shape.planes ≤ max_channels)
  some_planes = plane_count level.shape.channels level.shape.planes one_or_all channels_in

  aside_by : (b : Bool) → IsChannelCount (if b then level.shape.channels else 1)
  aside_by true = channels_in
  aside_by false = record { low = lit≤ tt; high = lit≤ tt }

  -- a plane has a sample of each texel
  pub aside_in : IsChannelCount (samples_aside level.shape)
  aside_in = aside_by (eqb level.shape.planes 1)

  -- the places of a plane are those of its first channel
  pub first_channel : (p x y : ℕ) → p < level.shape.planes
      → sample_place (plane_level level p) x y 0 ≡ sample_place level x y p
  first_channel p x y there =
      let own : p + 0 ≡ p = omega arith in
      let some : 0 < samples_aside level.shape = omega (arith, aside_in.low) in
      plane_place level p x y 0 there some ∙ ap (λ (c : ℕ). sample_place level x y c) own
