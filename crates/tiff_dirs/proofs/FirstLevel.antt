-- The first level of a file is where the header says.
use Rattle.std.proofs.Common.{◌≡◌, ℕ, List, [], ◌∷◌, refl, ap, ◌∙◌}
use Rattle.std.specs.Option.{option_or}
use Rattle.tiff_format.specs.declared.form.Form.{Form}
use Rattle.tiff_entries.specs.declared.place.FilePlace.{FilePlace}
use Rattle.tiff_dirs.specs.declared.read_level.ReadLevel.{ReadLevel}
use Rattle.tiff_format.specs.Form.{form_of}
use Rattle.tiff_format.specs.Directory.{directory_place}
use Rattle.tiff_format.specs.Block.{level_at}
use Rattle.tiff_format.specs.DirectoryFault.{first_of, directory_fault}
use Rattle.tiff_entries.specs.Header.{IsHeader}
use Rattle.tiff_format.specs.Fault.{header_fault, data_faults, first_fault}
use Rattle.tiff_format.specs.Level.{level_place, directory_level}
use Rattle.tiff_entries.specs.Entries.{IsLinkAt}
use Rattle.tiff_dirs.specs.ReadLevel.{IsLevelAt, seen_level}
use Rattle.tiff_dirs.specs.Chain.{IsEnd}

module _ (bytes : List ℕ) (place : FilePlace) (is : IsHeader bytes place) where
  place_there : place.at ≡ level_place bytes 0
  unfolding directory_place
  place_there = is.at

  pub fault_there : directory_fault place.form bytes place.at
      ≡ directory_fault (form_of bytes) bytes (level_place bytes 0)
  fault_there =
      ap (λ (f : Form). directory_fault f bytes place.at) is.form
      ∙ ap (λ (p : ℕ). directory_fault (form_of bytes) bytes p) place_there

  pub first_there : (read : ReadLevel) → IsLevelAt place.form bytes place.at read
      → seen_level read ≡ directory_level bytes 0
  unfolding directory_level
  first_there read at =
      at.level
      ∙ ap (λ (f : Form). level_at f bytes place.at) is.form
      ∙ ap (λ (p : ℕ). level_at (form_of bytes) bytes p) place_there

  pub end_there : (read : ReadLevel) → IsLevelAt place.form bytes place.at read
      → IsEnd bytes 0 read.next
  end_there read at =
      let link : IsLinkAt (form_of bytes) bytes place.at read.next =
      rw is.form at at.link in
      rw (← place_there) link

-- the first fault of a file, in the order in which its parts are read
pub fault_is : (bytes : List ℕ) → first_fault bytes
    ≡ option_or (header_fault bytes)
    (first_of (directory_fault (form_of bytes) bytes (level_place bytes 0)
    ∷ data_faults bytes ∷ []))
unfolding first_fault
fault_is bytes = refl
