-- Which faults can the fields of a directory have, except too few offsets?
use Rattle.std.specs.Prelude.{ℕ, List, [], ◌∷◌, Option}
use Rattle.tiff_format.specs.declared.form.Form.{Form}
use Rattle.tiff_format.specs.declared.fault.TiffFault.{TiffFault}
use Rattle.tiff_format.specs.DirectoryFault.{first_of, missing_fault, shape_fault}
use Rattle.tiff_format.specs.DirectoryFault.{unsupported_fault, zero_fault, large_fault, tile_fault}

-- the first fault of its fields
abbrev pub fields_fault : Form → List ℕ → ℕ → Option TiffFault
fields_fault form bytes at = first_of
    (missing_fault form bytes at ∷ shape_fault form bytes at ∷ unsupported_fault form bytes at
    ∷ zero_fault form bytes at ∷ large_fault form bytes at ∷ tile_fault form bytes at ∷ [])
