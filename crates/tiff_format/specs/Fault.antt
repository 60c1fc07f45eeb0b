-- Which is the first fault of a file, and which number does it have? (docs/FORMAT.md, "Faults")
use Rattle.std.specs.Prelude.{ℕ, Bool, ◌==◌, ◌&&◌, ◌||◌, not, nat_lt, List, [], ◌∷◌, length, map}
use Rattle.std.specs.Prelude.{Option}
use Rattle.std.specs.Bool.{then_some}
use Rattle.std.specs.List.{range_with_len}
use Rattle.tiff_format.specs.declared.fault.TiffFault.{TiffFault}
use Rattle.tiff_format.specs.declared.fault.TiffFault.TheVariants.{Short, BadMark, BadVersion}
use Rattle.tiff_format.specs.declared.fault.TiffFault.TheVariants.{DirOutside, FieldMissing}
use Rattle.tiff_format.specs.declared.fault.TiffFault.TheVariants.{FieldShape, Unsupported}
use Rattle.tiff_format.specs.declared.fault.TiffFault.TheVariants.{ZeroSize, TooLarge, TileShape}
use Rattle.tiff_format.specs.declared.fault.TiffFault.TheVariants.{OffsetCount, DataOutside}
use Rattle.tiff_format.specs.Bytes.{number_at, is_big, is_marked, version, tiff_version, has_wide_offsets}
use Rattle.tiff_format.specs.Form.{form_of, header_bytes}
use Rattle.tiff_format.specs.DirectoryFault.{first_of, directory_fault, data_fault}
use Rattle.tiff_format.specs.Level.{level_place, directory_level, stored_levels}

-- the place of the fault in the order in which faults are looked for, from 1
abbrev pub code_of : TiffFault → ℕ
code_of Short = 1
code_of BadMark = 2
code_of BadVersion = 3
code_of DirOutside = 4
code_of (FieldMissing tag) = 5
code_of (FieldShape tag) = 6
code_of (Unsupported tag value) = 7
code_of ZeroSize = 8
code_of TooLarge = 9
code_of TileShape = 10
code_of OffsetCount = 11
code_of (DataOutside level index) = 12

-- the bytes of the shortest header
abbrev pub least_bytes : ℕ
least_bytes = 8

-- whether the header is incomplete: the file is shorter than any header, or has a mark and is
-- shorter than a header of its form
abbrev pub is_short : List ℕ → Bool
is_short bytes =
    nat_lt (length bytes) least_bytes
    || (is_marked bytes && nat_lt (length bytes) (header_bytes (form_of bytes)))

-- whether the BigTIFF version is followed by the number of bytes of an offset, 8, and by 0
abbrev pub says_wide : List ℕ → Bool
says_wide bytes =
    (number_at (is_big bytes) 2 bytes 4 == 8) && (number_at (is_big bytes) 2 bytes 6 == 0)

-- whether the version is one that is read
abbrev pub has_version : List ℕ → Bool
has_version bytes = (version bytes == tiff_version) || (has_wide_offsets bytes && says_wide bytes)

-- 1 to 3: the header is incomplete, has no valid mark, or another version
unfoldable pub header_fault : List ℕ → Option TiffFault
header_fault bytes = first_of
    (then_some (is_short bytes) Short
    ∷ then_some (not (is_marked bytes)) BadMark
    ∷ then_some (not (has_version bytes)) BadVersion ∷ [])

-- 12: the first block that does not lie in the file, level 0 first
unfoldable pub data_faults : List ℕ → Option TiffFault
data_faults bytes = first_of
    (map (λ k. data_fault (form_of bytes) bytes k (directory_level bytes k))
    (range_with_len 0 (stored_levels bytes)))

-- The first fault of a file; `None` if it is valid.
unfoldable pub first_fault : List ℕ → Option TiffFault
first_fault bytes = first_of
    (header_fault bytes ∷ directory_fault (form_of bytes) bytes (level_place bytes 0)
    ∷ data_faults bytes ∷ [])
