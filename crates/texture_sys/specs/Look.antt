-- Which image do the levels of a file make under a cut?
-- (docs/FILTERING.md)
use Rattle.std.specs.Prelude.{ℕ, List}
use Rattle.tiff_format.specs.declared.cut.Cut.{Cut}
use Rattle.tile_layout.specs.Kept.{Kept, kept_of}
use Rattle.tile_layout.specs.Value.{channel_value_in}
use Rattle.image_cache.specs.Sizes.{sizes_in}
use Rattle.texel_filter.specs.Image.{Image, image_of}

-- ---- from what the cache keeps of a file

-- the image that the levels make, if the file has these bytes
abbrev pub picture_in : Kept → Cut → List ℕ → Image
picture_in file cut bytes = image_of (sizes_in file cut) (channel_value_in file bytes)

-- ---- from the bytes of a file

-- the image that the levels of a file make under a cut
abbrev pub picture_of : Cut → List ℕ → Image
picture_of cut bytes = picture_in (kept_of bytes) cut bytes
