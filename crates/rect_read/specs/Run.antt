-- Which texels follow one another in a file, and which samples have they?
use Rattle.std.specs.Prelude.{◌≡◌, ℕ, ◌+◌, ◌*◌, ◌<◌, List, length, ◌++◌, map, slice_index}
use Rattle.std.specs.List.{range_with_len}
use Rattle.tiff_format.specs.Block.{Level, sample_bytes, texel_bytes}
use Rattle.tiff_format.specs.Bytes.{IsPartAt}
use Rattle.tiff_format.specs.Texel.{sample_in, sample_place}
use Rattle.rect_read.specs.declared.run.Run.{Run}
use Rattle.tile_layout.specs.declared.texel_format.TexelFormat.{TexelFormat}
use Rattle.piece_samples.specs.Unpacked.{unpacked}

-- texel j of the run is the one in column `x_of j` and row `y_of j`: its bytes are there
abbrev pub StandSideBySide : Level → Run → (ℕ → ℕ) → (ℕ → ℕ) → Type 0
StandSideBySide level run x_of y_of =
    (j c : ℕ) → j < run.texels → sample_place level (x_of j) (y_of j) c
    ≡ run.at + j * texel_bytes level.shape + c * sample_bytes level.shape.depth

-- these are the samples of the first n of these texels, all channels of a texel together
abbrev pub AreValuesOf : List ℕ → Level → TexelFormat → ℕ → (ℕ → ℕ) → (ℕ → ℕ) → List ℕ → Type 0
AreValuesOf bytes level format n x_of y_of values =
    (j c : ℕ) → j < n → c < level.shape.channels
    → slice_index values (j * level.shape.channels + c)
    ≡ sample_in format.big bytes level (x_of j) (y_of j) c

-- the samples from the bytes of a run were appended
pub record AppendsRun (bytes : List ℕ) (format : TexelFormat) (run : Run) (old new : List ℕ)
    : Type 0 where
  pub span : List ℕ
  pub part : IsPartAt bytes run.at span
  pub long : length span ≡ run.texels * format.texel_bytes
  pub values : new ≡ old ++ map (unpacked format span)
      (range_with_len 0 (run.texels * format.channels))

-- the samples of n texels were appended
pub record AppendsValues (bytes : List ℕ) (level : Level) (format : TexelFormat) (n : ℕ)
    (x_of y_of : ℕ → ℕ) (old new : List ℕ) : Type 0 where
  pub added : List ℕ
  pub behind : new ≡ old ++ added
  pub count : length added ≡ n * level.shape.channels
  pub values : AreValuesOf bytes level format n x_of y_of added
