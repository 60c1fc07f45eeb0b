-- What does reading an image say about the file's bytes, and what does it leave of the reader?
use Rattle.std.specs.Prelude.{◌≡◌, ℕ, ◌≤◌, ◌<◌, List, None, IsSome, Result, Ok, Err, ⊤}
use Rattle.tiff_format.specs.Fault.{first_fault}
use Rattle.tex_make.specs.declared.picture.Pyramid.{Pyramid}
use Rattle.tex_make.specs.declared.reading.PictureError.{PictureError}
use Rattle.tex_make.specs.declared.reading.PictureError.TheVariants.{Fault, TooLarge, Reader}
use Rattle.tex_make.specs.declared.reading.PictureError.TheVariants.{NoMemory}
use Rattle.tex_make.specs.Picture.{AreAlike, picture_of, samples_of, max_samples}
use Rattle.tex_make.specs.Pyramid.{seen}

-- the bytes are those of an image from which a texture can be made
pub record IsSource (bytes : List ℕ) : Type 0 where
  pub good : first_fault bytes ≡ None
  pub small : samples_of (picture_of bytes) ≤ max_samples

-- the bytes are those of an image with too many samples
pub record IsLargeSource (bytes : List ℕ) : Type 0 where
  pub good : first_fault bytes ≡ None
  pub large : max_samples < samples_of (picture_of bytes)

-- the bytes have a fault
abbrev pub IsBadSource : List ℕ → Type 0
IsBadSource bytes = IsSome (first_fault bytes)

-- the image is that of these bytes
pub record IsPictureOf (bytes : List ℕ) (pyramid : Pyramid) : Type 0 where
  pub source : IsSource bytes
  pub alike : AreAlike (seen pyramid) (picture_of bytes)

-- the result, for modelled bytes
abbrev pub Pictures : {E : Type 0} → List ℕ → Result Pyramid (PictureError E) → Type 0
Pictures bytes (Ok pyramid) = IsPictureOf bytes pyramid
Pictures bytes (Err Fault) = IsBadSource bytes
Pictures bytes (Err TooLarge) = IsLargeSource bytes
Pictures bytes (Err (Reader e)) = ⊤
Pictures bytes (Err NoMemory) = ⊤

-- After success the reader is as its reads leave it. After a reader's error it is as the failed
-- read left it.
abbrev pub LeavesReader : {R E : Type 0} → (R → R → Type 0) → (R → E → R → Type 0) → R → R
    → Result Pyramid (PictureError E) → Type 0
LeavesReader keeps refuses old new (Ok x) = keeps old new
LeavesReader keeps refuses old new (Err Fault) = keeps old new
LeavesReader keeps refuses old new (Err TooLarge) = keeps old new
LeavesReader {R} keeps refuses old new (Err (Reader e)) =
    (mid : R) × keeps old mid × refuses mid e new
LeavesReader keeps refuses old new (Err NoMemory) = keeps old new
