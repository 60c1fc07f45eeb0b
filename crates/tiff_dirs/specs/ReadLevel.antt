-- What was read of a level, and which of its blocks lies outside the file?
use Rattle.std.specs.Prelude.{◌≡◌, ℕ, ◌+◌, ◌&&◌, not, nat_le, Bool, List, slice_index, find, Option}
use Rattle.std.specs.Option.{option_map}
use Rattle.std.specs.List.{range_with_len}
use Rattle.tiff_format.specs.declared.form.Form.{Form}
use Rattle.tiff_dirs.specs.declared.read_level.ReadLevel.{ReadLevel}
use Rattle.tiff_format.specs.declared.fault.TiffFault.{TiffFault}
use Rattle.tiff_format.specs.declared.fault.TiffFault.TheVariants.{DataOutside}
use Rattle.tiff_format.specs.Form.{header_bytes}
use Rattle.tiff_format.specs.Block.{Level, level_at, level_with, blocks_of, block_bytes}
use Rattle.tiff_dirs.specs.Shape.{seen_shape}
use Rattle.tiff_entries.specs.Entries.{IsLinkAt}

-- the shape and the offsets as plain data
abbrev pub seen_level : ReadLevel → Level
seen_level read = level_with (seen_shape read.shape) read.offsets.items

-- the directory at a place is this level
pub record IsLevelAt (form : Form) (bytes : List ℕ) (at : ℕ) (read : ReadLevel) : Type 0 where
  pub link : IsLinkAt form bytes at read.next
  pub level : seen_level read ≡ level_at form bytes at

-- whether block i lies in a file of this length, after the header
abbrev pub lies_within : Form → ℕ → Level → ℕ → Bool
lies_within form file level i =
    nat_le (header_bytes form) (slice_index level.offsets i)
    && nat_le (slice_index level.offsets i + block_bytes level.shape i) file

-- the first block that does not lie in the file
abbrev pub first_outside : Form → ℕ → Level → Option ℕ
first_outside form file level =
    find (λ i. not (lies_within form file level i)) (range_with_len 0 (blocks_of level.shape))

-- 12: the first block that does not lie in the file, as the fault of the level with this number
abbrev pub blocks_fault : Form → ℕ → ℕ → Level → Option TiffFault
blocks_fault form file number level =
    option_map (DataOutside number) (first_outside form file level)
