-- How do the functions of this crate describe the zeros that they append?
use Rattle.std.specs.Prelude.{◌≡◌, ℕ, ◌+◌, ◌*◌, ◌<◌, List, [], ◌∷◌, ◌++◌, length, slice_index}
use Rattle.tiff_format.specs.Block.{Level}
use Rattle.tiff_format.specs.declared.rect.Rect.{Rect}
use Rattle.piece_samples.specs.Beyond.{IsBeyond}

-- each of the numbers is 0
abbrev pub AreZeros : List ℕ → Type 0
AreZeros numbers = (k : ℕ) → k < length numbers → slice_index numbers k ≡ 0

-- n numbers were appended, all of them 0 if `beyond` holds
pub record AddsTexel (beyond : Type 0) (n : ℕ) (old new : List ℕ) : Type 0 where
  pub added : List ℕ
  pub behind : new ≡ old ++ added
  pub count : length added ≡ n
  pub zeros : beyond → AreZeros added

-- the numbers of texels were appended, n for each; those of a texel are 0 if the fact holds of it
abbrev pub AddsTexels : (ℕ × ℕ → Type 0) → ℕ → List (ℕ × ℕ) → List ℕ → List ℕ → Type 0
AddsTexels beyond n [] old new = new ≡ old
AddsTexels beyond n (texel ∷ texels) old new =
    (mid : List ℕ) × (AddsTexel (beyond texel) n old mid × AddsTexels beyond n texels mid new)

-- the piece with the texel lies beyond this length of the file
abbrev pub LiesBeyond : Level → ℕ → ℕ → ℕ × ℕ → Type 0
LiesBeyond level right len texel = IsBeyond level right len texel.0 texel.1

-- each sample of a piece of a plane is 0 if the piece lies beyond this length
abbrev pub AreZerosBeyond : Level → ℕ → Rect → List ℕ → Type 0
AreZerosBeyond level len rect samples = (i j c : ℕ) → i < rect.w → j < rect.h
    → c < level.shape.channels
    → IsBeyond level (rect.x + rect.w) len (rect.x + i) (rect.y + j)
    → slice_index samples ((j * rect.w + i) * level.shape.channels + c) ≡ 0

-- the numbers of a rectangle were appended, and those of a piece beyond the length are 0
abbrev pub AddsZeros : Level → ℕ → Rect → List ℕ → List ℕ → Type 0
AddsZeros level len rect old new = (i j c : ℕ) → i < rect.w → j < rect.h
    → c < level.shape.channels
    → IsBeyond level (rect.x + rect.w) len (rect.x + i) (rect.y + j)
    → slice_index new (length old + ((j * rect.w + i) * level.shape.channels + c)) ≡ 0
