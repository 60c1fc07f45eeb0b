-- Which sample is made from bytes of a level? (docs/FORMAT.md, "Values")
use Rattle.std.specs.Prelude.{ℕ, Bool, ◌==◌, true, List}
use Rattle.tile_layout.specs.Texel.{FitDepth}
use Rattle.tile_layout.specs.declared.texel_format.TexelFormat.{TexelFormat}
use Rattle.unpack.specs.Sample.{depth_of, sample_of}

-- whether samples with this many bits take two bytes
abbrev pub is_wide : ℕ → Bool
is_wide depth = depth == depth_of true

-- sample k, made from the bytes
abbrev pub unpacked : TexelFormat → List ℕ → ℕ → ℕ
unpacked format bytes k = sample_of (is_wide format.depth) format.big format.invert bytes k

-- the samples are in the range of the depth if the earlier ones were
abbrev pub KeepsDepth : TexelFormat → List ℕ → List ℕ → Type 0
KeepsDepth format old new = FitDepth format.depth old → FitDepth format.depth new
