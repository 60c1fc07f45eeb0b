-- Which numbers are in the bytes of a file? (TIFF 6.0, section 2, "Image File Header": the byte
-- order)
--
-- Every file has numbers of two and four bytes; BigTIFF files also have numbers of eight.
use Rattle.std.specs.Prelude.{◌≡◌, ℕ, ◌+◌, ◌<◌, Bool, ◌==◌, ◌&&◌, ◌||◌, List, length}
use Rattle.std.specs.Prelude.{slice_index, if◌then◌else◌}
use Rattle.byteorder.specs.Endian.{big_from, little_from}

-- the number in the n bytes at a place, highest byte first if `big`
unfoldable pub number_at : Bool → ℕ → List ℕ → ℕ → ℕ
number_at big n bytes at = if big then big_from at n bytes else little_from at n bytes

-- the part equals the bytes at a place
abbrev pub IsPartAt : List ℕ → ℕ → List ℕ → Type 0
IsPartAt bytes at part = (k : ℕ) → k < length part → slice_index part k ≡ slice_index bytes (at + k)

-- whether both of the first two bytes are this one
unfoldable pub has_mark : ℕ → List ℕ → Bool
has_mark letter bytes = (slice_index bytes 0 == letter) && (slice_index bytes 1 == letter)

-- `II`: numbers have their lowest byte first
abbrev pub is_little : List ℕ → Bool
is_little bytes = has_mark 73 bytes

-- `MM`: numbers have their highest byte first
abbrev pub is_big : List ℕ → Bool
is_big bytes = has_mark 77 bytes

-- whether the file begins with `II` or `MM`
abbrev pub is_marked : List ℕ → Bool
is_marked bytes = is_little bytes || is_big bytes

-- the version of a TIFF file
abbrev pub tiff_version : ℕ
tiff_version = 42

-- the version of a BigTIFF file
abbrev pub wide_version : ℕ
wide_version = 43

-- the version, after the byte-order mark
abbrev pub version : List ℕ → ℕ
version bytes = number_at (is_big bytes) 2 bytes 2

-- whether the file is BigTIFF, with offsets of 64 bits
abbrev pub has_wide_offsets : List ℕ → Bool
has_wide_offsets bytes = version bytes == wide_version
