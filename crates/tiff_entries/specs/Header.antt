-- What is kept of the header of a file?
use Rattle.std.specs.Prelude.{◌≡◌, ℕ, List}
use Rattle.tiff_entries.specs.declared.place.FilePlace.{FilePlace}
use Rattle.tiff_format.specs.Form.{form_of, first_place}

-- the form of the file, and the place of its first directory
pub record IsHeader (bytes : List ℕ) (first : FilePlace) : Type 0 where
  pub form : first.form ≡ form_of bytes
  pub at : first.at ≡ first_place (form_of bytes) bytes
