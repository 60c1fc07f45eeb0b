-- Which number has each tag that is read? (TIFF 6.0, section 8, and section 15 for tiles)
use Rattle.std.specs.Prelude.{ℕ}

abbrev pub image_width_tag : ℕ
image_width_tag = 256

abbrev pub image_length_tag : ℕ
image_length_tag = 257

abbrev pub bits_per_sample_tag : ℕ
bits_per_sample_tag = 258

abbrev pub compression_tag : ℕ
compression_tag = 259

abbrev pub photometric_tag : ℕ
photometric_tag = 262

abbrev pub strip_offsets_tag : ℕ
strip_offsets_tag = 273

abbrev pub samples_per_pixel_tag : ℕ
samples_per_pixel_tag = 277

abbrev pub rows_per_strip_tag : ℕ
rows_per_strip_tag = 278

abbrev pub planar_configuration_tag : ℕ
planar_configuration_tag = 284

abbrev pub tile_width_tag : ℕ
tile_width_tag = 322

abbrev pub tile_length_tag : ℕ
tile_length_tag = 323

abbrev pub tile_offsets_tag : ℕ
tile_offsets_tag = 324

abbrev pub sample_format_tag : ℕ
sample_format_tag = 339
