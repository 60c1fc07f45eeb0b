-- How do the functions of this crate describe the samples of several planes?
use Rattle.std.specs.Prelude.{◌≡◌, ℕ, ◌+◌, ◌*◌, ◌<◌, Bool, List, slice_index}
use Rattle.tiff_format.specs.Block.{Level}
use Rattle.tiff_format.specs.Texel.{sample_in}
use Rattle.tiff_format.specs.declared.rect.Rect.{Rect}
use Rattle.tile_layout.specs.Plane.{plane_level}
use Rattle.piece_samples.specs.Beyond.{IsBeyond}

-- `says` holds for each sample of a rectangle in the first n planes. It is given the plane, the
-- column and the row in the rectangle, and the sample.
abbrev pub OfPlanes : ℕ → ℕ → Rect → List ℕ → (ℕ → ℕ → ℕ → ℕ → Type 0) → Type 0
OfPlanes n planes rect samples says = (q i j : ℕ) → q < n → i < rect.w → j < rect.h
    → says q i j (slice_index samples ((j * rect.w + i) * planes + q))

-- each sample of a piece beyond the end of the file is 0, in the first n planes of a level
abbrev pub ArePlaneZeros : Level → ℕ → Rect → ℕ → List ℕ → Type 0
ArePlaneZeros level len rect n samples = OfPlanes n level.shape.planes rect samples
    (λ q i j v. IsBeyond (plane_level level q) (rect.x + rect.w) len (rect.x + i) (rect.y + j)
    → v ≡ 0)

-- each sample is the one that the file stores, in the first n planes of a level
abbrev pub ArePlaneSamples : Bool → List ℕ → Level → Rect → ℕ → List ℕ → Type 0
ArePlaneSamples big bytes level rect n samples = OfPlanes n level.shape.planes rect samples
    (λ q i j v. v ≡ sample_in big bytes (plane_level level q) (rect.x + i) (rect.y + j) 0)
