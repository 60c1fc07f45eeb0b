-- Where are the directories of a file? (TIFF 6.0, section 2, "Image File Directory") A directory is
-- a number of entries, the entries, and the offset of the next directory.
use Rattle.std.specs.Prelude.{ℕ, zero, suc, ◌+◌, ◌*◌, Bool, ◌==◌, ◌&&◌, nat_le, List, length}
use Rattle.std.specs.Prelude.{Option, Some, None, if◌then◌else◌}
use Rattle.std.specs.Option.{option_and_then}
use Rattle.tiff_format.specs.declared.form.Form.{Form}
use Rattle.tiff_format.specs.Bytes.{number_at}
use Rattle.tiff_format.specs.Form.{header_bytes, count_bytes, entry_bytes, offset_bytes, offset_at}
use Rattle.tiff_format.specs.Form.{first_place}

-- the number of entries in the directory at a place
abbrev pub entry_count : Form → List ℕ → ℕ → ℕ
entry_count form bytes at = number_at form.big (count_bytes form) bytes at

-- the place of its entry i
abbrev pub entry_place : Form → ℕ → ℕ → ℕ
entry_place form at i = at + count_bytes form + entry_bytes form * i

-- the place of its offset of the next directory
abbrev pub next_place : Form → List ℕ → ℕ → ℕ
next_place form bytes at = entry_place form at (entry_count form bytes at)

-- whether the directory lies in the file: after the header, and with all entries and the next
-- offset
unfoldable pub lies_inside : Form → List ℕ → ℕ → Bool
lies_inside form bytes at =
    nat_le (header_bytes form) at
    && nat_le (next_place form bytes at + offset_bytes form) (length bytes)

-- the place of the directory after the one at a place; `None` if that one does not lie in the file,
-- or names no next one
unfoldable pub next_directory : Form → List ℕ → ℕ → Option ℕ
next_directory form bytes at =
    if lies_inside form bytes at
    then (let next = offset_at form bytes (next_place form bytes at) in
    if next == 0 then None else Some next)
    else None

-- the place of directory k: the header names the first, and each directory names the next
unfoldable pub directory_place : Form → List ℕ → ℕ → Option ℕ
directory_place form bytes zero = Some (first_place form bytes)
directory_place form bytes (suc k) =
    option_and_then (next_directory form bytes) (directory_place form bytes k)
