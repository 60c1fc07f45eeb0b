-- Which names and which bytes have the sample files?
--
-- Each is a TIFF with one directory. Files with an even number are little-endian: 8-bit RGB in
-- strips of 16 rows. Those with an odd number are big-endian: one 16-bit channel in tiles of 64 by
-- 64. Their headers are given in units of two bytes, in the byte order of the file.
use Rattle.std.specs.Prelude.{ℕ, ◌+◌, ◌-◌, ◌*◌, ◌/◌, ◌%◌, ◌==◌, ◌||◌, Bool, nat_lt, codes}
use Rattle.std.specs.Prelude.{if◌then◌else◌, List, [], ◌∷◌, slice_index, Option, Some, None}

-- the number of sample files
abbrev pub sample_count : ℕ
sample_count = 8

-- the names, in the order of the files' numbers
abbrev pub sample_names : List (List ℕ)
sample_names =
    codes "sample0.tif" ∷ codes "sample1.tif" ∷ codes "sample2.tif" ∷ codes "sample3.tif"
    ∷ codes "sample4.tif" ∷ codes "sample5.tif" ∷ codes "sample6.tif" ∷ codes "sample7.tif" ∷ []

-- the texels in a row; there are 192 rows
abbrev pub sample_width : ℕ → ℕ
sample_width n = 256 + 32 * n

-- ---- stripped files

-- the bytes of a strip: 16 rows of three samples per texel
abbrev pub strip_size : ℕ → ℕ
strip_size n = 48 * sample_width n

-- the lower or the upper half of a four-byte number
abbrev pub half_of : Bool → ℕ → ℕ
half_of lower value = if lower then value % 65536 else value / 65536

-- The header of a stripped file and its directory (TIFF 6.0, section 2): tag, type, count, then the
-- value, lower half first. The width is computed and is 0 here.
abbrev pub strips_header : List ℕ
strips_header =
    18761 ∷ 42 ∷ 8 ∷ 0 ∷ 9  -- "II", nine entries
    ∷ 256 ∷ 3 ∷ 1 ∷ 0 ∷ 0 ∷ 0  -- ImageWidth
    ∷ 257 ∷ 3 ∷ 1 ∷ 0 ∷ 192 ∷ 0  -- ImageLength
    ∷ 258 ∷ 3 ∷ 3 ∷ 0 ∷ 122 ∷ 0  -- BitsPerSample
    ∷ 259 ∷ 3 ∷ 1 ∷ 0 ∷ 1 ∷ 0  -- Compression
    ∷ 262 ∷ 3 ∷ 1 ∷ 0 ∷ 2 ∷ 0  -- RGB
    ∷ 273 ∷ 4 ∷ 12 ∷ 0 ∷ 128 ∷ 0  -- StripOffsets
    ∷ 277 ∷ 3 ∷ 1 ∷ 0 ∷ 3 ∷ 0  -- SamplesPerPixel
    ∷ 278 ∷ 3 ∷ 1 ∷ 0 ∷ 16 ∷ 0  -- RowsPerStrip
    ∷ 279 ∷ 3 ∷ 12 ∷ 0 ∷ 176 ∷ 0  -- StripByteCounts
    ∷ 0 ∷ 0  -- no further directory
    ∷ []

-- unit j of a stripped file's header: its width, the other entries, three BitsPerSample, twelve
-- StripOffsets, lower half first, and twelve StripByteCounts
unfoldable pub strips_word : ℕ → ℕ → ℕ
strips_word n j =
    if j == 9 then sample_width n
    else if nat_lt j 61 then slice_index strips_header j
    else if nat_lt j 64 then 8
    else if nat_lt j 88 then half_of (j % 2 == 0) (200 + strip_size n * ((j - 64) / 2))
    else strip_size n

-- sample c of texel (x, y) of a stripped file
abbrev pub strips_sample : ℕ → ℕ → ℕ → ℕ → ℕ
strips_sample n x y c = (7 * x + 13 * y + 29 * c + n) % 256

-- the byte at place k after a stripped file's header, row after row
unfoldable pub strips_byte : ℕ → ℕ → ℕ
strips_byte n k =
    let row = 3 * sample_width n in
    strips_sample n (k % row / 3) (k / row) (k % row % 3)

-- ---- tiled files

-- the tiles in a row of tiles; there are three rows of tiles
abbrev pub tiles_across : ℕ → ℕ
tiles_across n = (sample_width n + 63) / 64

abbrev pub tile_count : ℕ → ℕ
tile_count n = 3 * tiles_across n

-- where the first tile begins
abbrev pub first_tile : ℕ → ℕ
first_tile n = 146 + 6 * tile_count n

-- The header of a tiled file and its directory, upper half first. The width, the two counts of
-- tiles and the place of TileByteCounts are computed and are 0 here.
abbrev pub tiles_header : List ℕ
tiles_header =
    19789 ∷ 42 ∷ 0 ∷ 8 ∷ 11  -- "MM", eleven entries
    ∷ 256 ∷ 3 ∷ 0 ∷ 1 ∷ 0 ∷ 0  -- ImageWidth
    ∷ 257 ∷ 3 ∷ 0 ∷ 1 ∷ 192 ∷ 0  -- ImageLength
    ∷ 258 ∷ 3 ∷ 0 ∷ 1 ∷ 16 ∷ 0  -- BitsPerSample
    ∷ 259 ∷ 3 ∷ 0 ∷ 1 ∷ 1 ∷ 0  -- Compression
    ∷ 262 ∷ 3 ∷ 0 ∷ 1 ∷ 1 ∷ 0  -- BlackIsZero
    ∷ 277 ∷ 3 ∷ 0 ∷ 1 ∷ 1 ∷ 0  -- SamplesPerPixel
    ∷ 284 ∷ 3 ∷ 0 ∷ 1 ∷ 1 ∷ 0  -- PlanarConfiguration
    ∷ 322 ∷ 3 ∷ 0 ∷ 1 ∷ 64 ∷ 0  -- TileWidth
    ∷ 323 ∷ 3 ∷ 0 ∷ 1 ∷ 64 ∷ 0  -- TileLength
    ∷ 324 ∷ 4 ∷ 0 ∷ 0 ∷ 0 ∷ 146  -- TileOffsets
    ∷ 325 ∷ 3 ∷ 0 ∷ 0 ∷ 0 ∷ 0  -- TileByteCounts
    ∷ 0 ∷ 0  -- no further directory
    ∷ []

-- unit j of a tiled file's header: its width, two counts, the place of TileByteCounts, the other
-- entries, the TileOffsets, upper half first, and the TileByteCounts
unfoldable pub tiles_word : ℕ → ℕ → ℕ
tiles_word n j =
    if j == 9 then sample_width n
    else if (j == 62) || (j == 68) then tile_count n
    else if j == 70 then 146 + 4 * tile_count n
    else if nat_lt j 73 then slice_index tiles_header j
    else if nat_lt j (73 + 2 * tile_count n)
    then half_of (j % 2 == 0) (first_tile n + 8192 * ((j - 73) / 2))
    else 8192

-- the sample of texel (x, y) of a tiled file; 0 outside the image
abbrev pub tiles_sample : ℕ → ℕ → ℕ → ℕ
tiles_sample n x y = if nat_lt x (sample_width n) then (x * y + 257 * n) % 65536 else 0

-- sample k of the tiles, which are numbered row by row
unfoldable pub tiles_number : ℕ → ℕ → ℕ
tiles_number n k =
    let tile = k / 4096 in
    tiles_sample n (64 * (tile % tiles_across n) + k % 64)
    (64 * (tile / tiles_across n) + k % 4096 / 64)

-- ---- the files

-- byte `at` in a list of two-byte units, lower or upper byte first
abbrev pub byte_of_word : Bool → ℕ → ℕ
byte_of_word lower word = if lower then word % 256 else word / 256

-- the number of bytes of a file
abbrev pub sample_len : ℕ → ℕ
sample_len n =
    if n % 2 == 0 then 200 + 12 * strip_size n else first_tile n + 8192 * tile_count n

-- the length of a generation; only generation 1 exists
abbrev pub sample_len_of : ℕ → ℕ → Option ℕ
sample_len_of n g = if g == 1 then Some (sample_len n) else None

-- the byte at a place of a stripped file
abbrev pub byte_of_strips : ℕ → ℕ → ℕ
byte_of_strips n at =
    if nat_lt at 200 then byte_of_word (at % 2 == 0) (strips_word n (at / 2))
    else strips_byte n (at - 200)

-- the byte at a place of a tiled file
abbrev pub byte_of_tiles : ℕ → ℕ → ℕ
byte_of_tiles n at =
    byte_of_word (at % 2 == 1)
    (if nat_lt at (first_tile n) then tiles_word n (at / 2)
    else tiles_number n ((at - first_tile n) / 2))

abbrev pub sample_byte : ℕ → ℕ → ℕ
sample_byte n at = if n % 2 == 0 then byte_of_strips n at else byte_of_tiles n at
