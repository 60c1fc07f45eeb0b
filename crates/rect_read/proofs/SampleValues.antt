-- Samples that were unpacked.
use Rattle.std.proofs.Common.{◌≡◌, ℕ, ◌*◌, ◌<◌, ◌≤◌, Bool, refl, List, ◌++◌, map}
use Rattle.std.proofs.Common.{zero-add, arith}
use Rattle.std.specs.List.{range_with_len}
use Rattle.std.proofs.lemmas.List.Elements.{All-append, All-from_get_or}
use Rattle.std.proofs.lemmas.List.FromFn.{length-map-range_with_len, get_or-map-range_with_len}
use Rattle.tiff_format.specs.Block.{LevelShape}
use Rattle.tiff_format.specs.Texel.{greatest_sample}
use Rattle.tile_layout.specs.FormatOf.{IsFormatOf}
use Rattle.tile_layout.specs.Texel.{FitDepth}
use Rattle.tile_layout.specs.declared.texel_format.TexelFormat.{TexelFormat}

-- the byte order that the format has
pub own_order : (big : Bool) (shape : LevelShape) (format : TexelFormat) → IsFormatOf big shape format
    → IsFormatOf format.big shape format
own_order big shape format is = record {
  one = is.one;
  depth = is.depth;
  order = refl;
  channels = is.channels;
  invert = is.invert;
}

-- numbers that fit a depth, appended to others that do
pub fit_appended : (depth : ℕ) (old : List ℕ) (value : ℕ → ℕ) (count : ℕ) → FitDepth depth old
    → ((k : ℕ) → k < count → value k ≤ greatest_sample depth)
    → FitDepth depth (old ++ map value (range_with_len 0 count))
fit_appended depth old value count fit each =
    let more = map value (range_with_len 0 count) in
    All-append (λ sample. sample ≤ greatest_sample depth) old more fit
    (All-from_get_or (λ sample. sample ≤ greatest_sample depth) more 0 (λ k lt.
    let below : k < count = omega (arith, length-map-range_with_len value 0 count) in
    rw (get_or-map-range_with_len value 0 count k k 0 below (zero-add k)) (each k below)))

-- n texels of that many samples of that size
pub span_samples : (n unit channels size : ℕ) → unit ≡ channels * size
    → n * unit ≡ size * (n * channels)
span_samples n unit channels size is = rw is (omega arith)
