-- The samples of a row, plane by plane, are those of its texels.
use Rattle.std.proofs.Common.{◌≡◌, ℕ, ◌+◌, ◌*◌, ◌<◌, Bool, true, false, eqb, List, length}
use Rattle.std.proofs.Common.{get_or, Option, Some, refl, ap, ◌∙◌, arith}
use Rattle.std.specs.Prelude.{if◌then◌else◌}
use Rattle.std.proofs.lemmas.Bool.{eqb-true, false≢true}
use Rattle.tiff_format.specs.Block.{Level, samples_aside}
use Rattle.tiff_format.specs.Facts.{IsPlaneCount}
use Rattle.tiff_format.specs.Texel.{sample_in, plane_of, samples_before}
use Rattle.tile_layout.specs.Blocks.{HoldsBlocks}
use Rattle.tile_layout.specs.Plane.{plane_level}
use Rattle.tile_layout.specs.Texel.{AreTexelsOn}
use Rattle.tile_layout.proofs.PlaneBlocks.{plane_held, plane_sample}
use Rattle.piece_samples.specs.Beyond.{CountAsZero}
use Rattle.piece_samples.specs.TexelRow.{IsReadSample, row_rect}

-- the plane of a sample of channel c, and its place there
record StandsAt (planes aside channels p a c : ℕ) : Type 0 where
  plane : p < planes
  place : a < aside
  own : p + a ≡ c
  index : (i : ℕ) → (i * aside + a) * planes + p ≡ i * channels + c

stands_by : (one same : Bool) (planes channels c : ℕ) → eqb planes 1 ≡ one
    → eqb planes channels ≡ same → IsPlaneCount channels planes → c < channels
    → StandsAt planes (if one then channels else 1) channels (if one then 0 else c)
    (if one then c else 0) c
stands_by true same planes channels c is alike count below =
    let one : planes ≡ 1 = eqb-true planes 1 is in
    record {
      plane = omega (arith, one);
      place = below;
      own = omega arith;
      index = λ i. ap (λ (n : ℕ). (i * channels + c) * n + 0) one ∙ omega arith;
    }
stands_by false true planes channels c is alike count below =
    let all : planes ≡ channels = eqb-true planes channels alike in
    record {
      plane = omega (arith, all, below);
      place = omega arith;
      own = omega arith;
      index = λ i. ap (λ (n : ℕ). (i * 1 + 0) * n + c) all ∙ omega arith;
    }
stands_by false false planes channels c is alike count below =
    absurd (false≢true (rw (is, alike) at count))

-- how many samples there are in all planes
pub all_samples : (level : Level) → IsPlaneCount level.shape.channels level.shape.planes
    → (n : ℕ) → n * samples_aside level.shape * level.shape.planes ≡ n * level.shape.channels
all_samples level count n = by (eqb level.shape.planes 1)
    (eqb level.shape.planes level.shape.channels) refl refl
  where
    by : (one same : Bool) → eqb level.shape.planes 1 ≡ one
        → eqb level.shape.planes level.shape.channels ≡ same
        → n * (if one then level.shape.channels else 1) * level.shape.planes
        ≡ n * level.shape.channels
    by true same is alike =
        ap (λ (k : ℕ). n * level.shape.channels * k) (eqb-true level.shape.planes 1 is)
        ∙ omega arith
    by false true is alike =
        ap (λ (k : ℕ). n * 1 * k) (eqb-true level.shape.planes level.shape.channels alike)
        ∙ omega arith
    by false false is alike = absurd (false≢true (rw (is, alike) at count))

module _ (level : Level) (count : IsPlaneCount level.shape.channels level.shape.planes)
    (len : ℕ) (held : Option (List ℕ)) (big : Bool) (x y n : ℕ) (samples : List ℕ)
    (read : (q i a : ℕ) → q < level.shape.planes → i < n → a < samples_aside level.shape
    → IsReadSample len held big (plane_level level q) (x + n) (x + i) y a
    (get_or samples ((i * samples_aside level.shape + a) * level.shape.planes + q) 0)) where
  stands : (c : ℕ) → c < level.shape.channels
      → StandsAt level.shape.planes (samples_aside level.shape) level.shape.channels
      (plane_of level.shape c) (samples_before level.shape c) c
  stands c below =
      stands_by (eqb level.shape.planes 1) (eqb level.shape.planes level.shape.channels)
      level.shape.planes level.shape.channels c refl refl count below

  read_at : (i c : ℕ) → i < n → (below : c < level.shape.channels)
      → IsReadSample len held big (plane_level level (plane_of level.shape c)) (x + n) (x + i) y
      (samples_before level.shape c) (get_or samples (i * level.shape.channels + c) 0)
  read_at i c column below =
      let at = stands c below in
      rw (at.index i) at (read (plane_of level.shape c) i (samples_before level.shape c)
      at.plane column at.place)

  -- the samples that count as 0
  pub row_zeros : CountAsZero level len (row_rect x y n) samples
  row_zeros = λ i j c across down below beyond.
      let zero : j ≡ 0 = omega (arith, down) in
      let index : (j * n + i) * level.shape.channels + c ≡ i * level.shape.channels + c =
      ap (λ (k : ℕ). (k * n + i) * level.shape.channels + c) zero ∙ omega arith in
      let row : y + j ≡ y = omega (arith, zero) in
      rw index ((read_at i c across below).zero (rw row at beyond))

  -- the samples of a row in modelled bytes
  pub row_texels_told : (bytes : List ℕ) → held ≡ Some bytes → HoldsBlocks bytes level
      → length samples ≡ n * level.shape.channels
      → AreTexelsOn (sample_in big bytes level) level.shape.channels (row_rect x y n) samples
  row_texels_told bytes told holds long = record {
    count = long ∙ omega arith;
    each = λ i j c across down below.
        let at = stands c below in
        let zero : j ≡ 0 = omega (arith, down) in
        let index : (j * n + i) * level.shape.channels + c ≡ i * level.shape.channels + c =
        ap (λ (k : ℕ). (k * n + i) * level.shape.channels + c) zero ∙ omega arith in
        let row : y ≡ y + j = omega (arith, zero) in
        ap (λ (k : ℕ). get_or samples k 0) index
        ∙ (read_at i c across below).told bytes told
        (plane_held level (plane_of level.shape c) bytes at.plane holds)
        ∙ plane_sample big bytes level (plane_of level.shape c) (x + i) y
        (samples_before level.shape c) at.plane at.place
        ∙ ap (λ (d : ℕ). sample_in big bytes level (x + i) y d) at.own
        ∙ ap (λ (k : ℕ). sample_in big bytes level (x + i) k c) row;
  }
