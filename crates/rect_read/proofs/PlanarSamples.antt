-- The samples of planes among each other.
use Rattle.std.proofs.Common.{◌≡◌, ◌≢◌, ℕ, ◌+◌, ◌*◌, ◌<◌, ◌≤◌, Bool, true, false, List, length}
use Rattle.std.proofs.Common.{get_or, ap, sym, ◌∙◌, arith, inl, inr, refl, zero-add}
use Rattle.std.specs.Prelude.{if◌then◌else◌}
use Rattle.std.proofs.lemmas.Bool.{cases_lt, eqb-true, ne_eqb}
use Rattle.std.proofs.lemmas.Nat.{mul-add-lt}
use Rattle.tiff_format.specs.Block.{Level, samples_aside}
use Rattle.tiff_format.specs.Facts.{IsPlaneCount}
use Rattle.tiff_format.specs.Texel.{sample_in, plane_of}
use Rattle.tiff_format.specs.declared.rect.Rect.{Rect}
use Rattle.tile_layout.specs.Plane.{plane_level}
use Rattle.tile_layout.specs.Texel.{AreTexelsOn}
use Rattle.tile_layout.proofs.PlaneBlocks.{plane_sample}
use Rattle.piece_samples.specs.Beyond.{CountAsZero}
use Rattle.rect_read.specs.Planes.{OfPlanes, ArePlaneZeros, ArePlaneSamples}
use Rattle.rect_read.specs.Zeros.{AreZerosBeyond}

-- ---- a level of several planes

-- has one for each channel, and one sample of a texel in each
pub one_each : (channels planes : ℕ) → planes ≢ 1 → IsPlaneCount channels planes
    → planes ≡ channels
one_each channels planes many count =
    eqb-true planes channels (rw (ne_eqb planes 1 many) at count)

pub one_aside : (level : Level) → level.shape.planes ≢ 1 → samples_aside level.shape ≡ 1
one_aside level many = rw (ne_eqb level.shape.planes 1 many) refl

pub own_plane : (level : Level) (c : ℕ) → level.shape.planes ≢ 1 → plane_of level.shape c ≡ c
own_plane level c many = rw (ne_eqb level.shape.planes 1 many) refl

-- one plane more: its samples are placed, and those of the planes before are as they were
pub planes_more : (n planes : ℕ) (rect : Rect) (own old new : List ℕ)
    (says : ℕ → ℕ → ℕ → ℕ → Type 0) → n < planes
    → length own ≡ rect.w * rect.h
    → ((k : ℕ) → k < length own → get_or new (k * planes + n) 0 ≡ get_or own k 0)
    → ((k c : ℕ) → c < planes → c ≢ n
    → get_or new (k * planes + c) 0 ≡ get_or old (k * planes + c) 0)
    → ((i j : ℕ) → i < rect.w → j < rect.h → says n i j (get_or own (j * rect.w + i) 0))
    → OfPlanes n planes rect old says → OfPlanes (n + 1) planes rect new says
planes_more n planes rect own old new says there long placed others more before =
    λ q i j lt across down. elim (cases_lt q n) [
      | inl lower ↦
          rw (others (j * rect.w + i) q (omega arith) (λ e. omega arith))
          (before q i j lower across down)
      | inr higher ↦
          let here : q ≡ n = omega arith in
          let below : j * rect.w + i < length own =
          omega (arith, long, mul-add-lt j rect.w i rect.h down across) in
          rw (here, placed (j * rect.w + i) below) (more i j across down)
    ]

module _ (level : Level) (rect : Rect) (samples : List ℕ) (many : level.shape.planes ≢ 1)
    (all : level.shape.planes ≡ level.shape.channels) where
  -- the samples of all planes are those of the texels
  pub planar_texels : (big : Bool) (bytes : List ℕ)
      → length samples ≡ rect.w * rect.h * level.shape.planes
      → ArePlaneSamples big bytes level rect level.shape.planes samples
      → AreTexelsOn (sample_in big bytes level) level.shape.channels rect samples
  planar_texels big bytes long are = record {
    count = long ∙ ap (λ (n : ℕ). rect.w * rect.h * n) all;
    each = λ i j c across down some.
        let there : c < level.shape.planes = omega (arith, all, some) in
        let aside : 0 < samples_aside level.shape = omega (arith, one_aside level many) in
        let own : c + 0 ≡ c = omega arith in
        ap (λ (n : ℕ). get_or samples ((j * rect.w + i) * n + c) 0) (sym all)
        ∙ are c i j there across down
        ∙ plane_sample big bytes level c (rect.x + i) (rect.y + j) 0 there aside
        ∙ ap (λ (n : ℕ). sample_in big bytes level (rect.x + i) (rect.y + j) n) own;
  }

  pub planar_zeros : (len : ℕ)
      → ArePlaneZeros level len rect level.shape.planes samples → CountAsZero level len rect samples
  planar_zeros len are = λ i j c across down some beyond.
      let there : c < level.shape.planes = omega (arith, all, some) in
      ap (λ (n : ℕ). get_or samples ((j * rect.w + i) * n + c) 0) (sym all)
      ∙ are c i j there across down (rw (own_plane level c many) at beyond)

-- the white rule of one of several planes
pub white_low : (white : Bool) (channels : ℕ) → channels ≡ 1
    → (if white then channels else 0) ≤ 1
white_low true channels one = omega (arith, one)
white_low false channels one = omega arith

-- ---- a level of one plane

pub aside_all : (level : Level) → level.shape.planes ≡ 1
    → samples_aside level.shape ≡ level.shape.channels
aside_all level one = rw one refl

module _ (level : Level) (rect : Rect) (samples : List ℕ) (one : level.shape.planes ≡ 1) where
  -- has its samples
  pub alone_texels : (big : Bool) (bytes : List ℕ)
      → AreTexelsOn (sample_in big bytes (plane_level level 0)) (samples_aside level.shape) rect
      samples
      → AreTexelsOn (sample_in big bytes level) level.shape.channels rect samples
  alone_texels big bytes are = record {
    count = rw (aside_all level one) at are.count;
    each = λ i j c across down some.
        let aside : c < samples_aside level.shape = rw (aside_all level one) some in
        let there : 0 < level.shape.planes = omega (arith, one) in
        let own : 0 + c ≡ c = zero-add c in
        ap (λ (n : ℕ). get_or samples ((j * rect.w + i) * n + c) 0) (sym (aside_all level one))
        ∙ are.each i j c across down aside
        ∙ plane_sample big bytes level 0 (rect.x + i) (rect.y + j) c there aside
        ∙ ap (λ (n : ℕ). sample_in big bytes level (rect.x + i) (rect.y + j) n) own;
  }

  pub alone_zeros : (len : ℕ) → AreZerosBeyond (plane_level level 0) len rect samples
      → CountAsZero level len rect samples
  alone_zeros len are = λ i j c across down some beyond.
      let aside : c < samples_aside level.shape = rw (aside_all level one) some in
      let plane : plane_of level.shape c ≡ 0 = rw one refl in
      ap (λ (n : ℕ). get_or samples ((j * rect.w + i) * n + c) 0) (sym (aside_all level one))
      ∙ are i j c across down aside (rw plane at beyond)
