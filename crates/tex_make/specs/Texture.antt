-- Which file is the texture of an image? (docs/FORMAT.md, "Textures that are made")
--
-- It is little-endian, and has a directory for each level, the largest first, and then the tiles of
-- each level.
use Rattle.std.specs.Prelude.{ℕ, zero, suc, ◌+◌, ◌*◌, ◌/◌, ◌%◌, ◌==◌, ◌&&◌, nat_lt, List, [], ◌∷◌}
use Rattle.std.specs.Prelude.{◌++◌, map, if◌then◌else◌}
use Rattle.std.specs.Int.{w16, w32, to_le_bytes, byte_at}
use Rattle.std.specs.List.{range_with_len}
use Rattle.tiff_format.specs.Bytes.{tiff_version}
use Rattle.tiff_format.specs.Block.{pieces_over, sample_bytes}
use Rattle.tiff_format.specs.Tag.{image_width_tag, image_length_tag, bits_per_sample_tag}
use Rattle.tiff_format.specs.Tag.{compression_tag, photometric_tag, samples_per_pixel_tag}
use Rattle.tiff_format.specs.Tag.{planar_configuration_tag, tile_width_tag, tile_length_tag}
use Rattle.tiff_format.specs.Tag.{tile_offsets_tag}
use Rattle.tex_make.specs.declared.field.FieldKind.{FieldKind}
use Rattle.tex_make.specs.declared.field.FieldKind.TheVariants.{Short, Long}
use Rattle.tex_make.specs.declared.field.Field.{Field}
use Rattle.tex_make.specs.Joined.{joined}
use Rattle.tex_make.specs.Field.{directory_size, directory_bytes}
use Rattle.tex_make.specs.Picture.{Picture, picture_of, colours, extra_samples}

-- ---- tags that are written and not read

-- 1 means that the image is a reduced version of another (TIFF 6.0, section 8, NewSubfileType)
abbrev pub new_subfile_type_tag : ℕ
new_subfile_type_tag = 254

-- (section 15, TileByteCounts)
abbrev pub tile_byte_counts_tag : ℕ
tile_byte_counts_tag = 325

-- (section 18, ExtraSamples: 0 says nothing of them)
abbrev pub extra_samples_tag : ℕ
extra_samples_tag = 338

-- ---- the tiles of a level

-- the number of tiles across
abbrev pub tiles_across : Picture → ℕ → ℕ → ℕ
tiles_across p side l = pieces_over (p.width l) side

-- the number of tiles down
abbrev pub tiles_down : Picture → ℕ → ℕ → ℕ
tiles_down p side l = pieces_over (p.height l) side

-- the number of tiles
abbrev pub tile_count : Picture → ℕ → ℕ → ℕ
tile_count p side l = tiles_across p side l * tiles_down p side l

-- the bytes of a tile, with its padding
abbrev pub tile_size : Picture → ℕ → ℕ
tile_size p side = side * side * (p.channels * sample_bytes p.depth)

-- sample c of texel (x, y); 0 outside the level
abbrev pub padded_sample : Picture → ℕ → ℕ → ℕ → ℕ → ℕ
padded_sample p l x y c =
    if nat_lt x (p.width l) && nat_lt y (p.height l) then p.sample l x y c else 0

-- sample n of tile i: all samples of a texel together, row by row
abbrev pub tile_sample : Picture → ℕ → ℕ → ℕ → ℕ → ℕ
tile_sample p side l i n =
    padded_sample p l
    (i % tiles_across p side l * side + n / p.channels % side)
    (i / tiles_across p side l * side + n / p.channels / side)
    (n % p.channels)

-- byte k of tile i
abbrev pub tile_byte : Picture → ℕ → ℕ → ℕ → ℕ → ℕ
tile_byte p side l i k =
    byte_at (k % sample_bytes p.depth) (tile_sample p side l i (k / sample_bytes p.depth))

-- tile i
unfoldable pub tile_bytes : Picture → ℕ → ℕ → ℕ → List ℕ
tile_bytes p side l i = map (tile_byte p side l i) (range_with_len 0 (tile_size p side))

-- all tiles of a level
unfoldable pub level_tiles : Picture → ℕ → ℕ → List ℕ
level_tiles p side l = joined (tile_bytes p side l) (tile_count p side l)

-- ---- the directory of a level

-- a field of one value, and one whose values are all the same
abbrev pub single : FieldKind → ℕ → ℕ → Field
single kind tag n = record { tag = tag; kind = kind; count = 1; first = n; step = 0 }

abbrev pub equal : FieldKind → ℕ → ℕ → ℕ → Field
equal kind tag count n = record { tag = tag; kind = kind; count = count; first = n; step = 0 }

-- the places of `count` tiles, which follow one another from a place on
abbrev pub places : ℕ → ℕ → ℕ → Field
places count first size =
    record { tag = tile_offsets_tag; kind = Long; count = count; first = first; step = size }

-- 2 is RGB, 1 BlackIsZero
abbrev pub photometric : Picture → ℕ
photometric p = if colours p == 3 then 2 else 1

-- the field for samples that are not colours, if there are any
abbrev pub extra_field : ℕ → List Field
extra_field zero = []
extra_field (suc n) = equal Short extra_samples_tag (suc n) 0 ∷ []

-- the first fields of the directory of level l
abbrev pub own_fields : Picture → ℕ → ℕ → List Field
own_fields p side l =
    single Long new_subfile_type_tag (if l == 0 then 0 else 1)
    ∷ single Long image_width_tag (p.width l)
    ∷ single Long image_length_tag (p.height l)
    ∷ equal Short bits_per_sample_tag p.channels p.depth
    ∷ single Short compression_tag 1
    ∷ single Short photometric_tag (photometric p)
    ∷ single Short samples_per_pixel_tag p.channels
    ∷ single Short planar_configuration_tag 1
    ∷ single Long tile_width_tag side
    ∷ single Long tile_length_tag side
    ∷ []

-- all fields of the directory of level l, whose tiles begin at a place
unfoldable pub fields_of : Picture → ℕ → ℕ → ℕ → List Field
fields_of p side l first =
    own_fields p side l
    ++ (places (tile_count p side l) first (tile_size p side)
    ∷ equal Long tile_byte_counts_tag (tile_count p side l) (tile_size p side)
    ∷ extra_field (extra_samples p))

-- ---- where they are

-- the bytes of the header
abbrev pub header_size : ℕ
header_size = 8

-- the place of the directory of level l: after the values of the one before
unfoldable pub directory_at : Picture → ℕ → ℕ → ℕ
directory_at p side zero = header_size
directory_at p side (suc l) = directory_at p side l + directory_size (fields_of p side l 0)

-- the place of the tiles of level l: after all directories, in the order of the levels
unfoldable pub tiles_at : Picture → ℕ → ℕ → ℕ
tiles_at p side zero = directory_at p side p.levels
tiles_at p side (suc l) = tiles_at p side l + tile_count p side l * tile_size p side

-- the place that the directory of level l names for the next; 0 for none
abbrev pub next_at : Picture → ℕ → ℕ → ℕ
next_at p side l = if nat_lt (suc l) p.levels then directory_at p side (suc l) else 0

-- ---- the file

-- `II`, 42, and the place of the first directory
abbrev pub header : List ℕ
header = 73 ∷ 73 ∷ to_le_bytes w16 tiff_version ++ to_le_bytes w32 header_size

-- the directory of level l
unfoldable pub directory_of : Picture → ℕ → ℕ → List ℕ
directory_of p side l =
    directory_bytes (directory_at p side l) (next_at p side l)
    (fields_of p side l (tiles_at p side l))

-- the bytes before the tiles
unfoldable pub head_of : Picture → ℕ → List ℕ
head_of p side = header ++ joined (directory_of p side) p.levels

-- The texture of an image, with tiles of this side.
unfoldable pub texture_of : Picture → ℕ → List ℕ
texture_of p side = head_of p side ++ joined (level_tiles p side) p.levels

-- The texture made from a file with these bytes.
abbrev pub made_of : List ℕ → ℕ → List ℕ
made_of bytes side = texture_of (picture_of bytes) side
