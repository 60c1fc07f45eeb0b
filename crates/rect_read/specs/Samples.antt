-- Which samples has a texel of a level?
use Rattle.std.specs.Prelude.{ℕ, Bool, List, map}
use Rattle.std.specs.List.{range_with_len}
use Rattle.tiff_format.specs.Block.{Level}
use Rattle.tiff_format.specs.Texel.{sample_in}

-- the samples of a texel, given by column and row, all channels together
abbrev pub samples_at : Bool → List ℕ → Level → ℕ × ℕ → List ℕ
samples_at big bytes level texel =
    map (λ c. sample_in big bytes level texel.0 texel.1 c)
    (range_with_len 0 level.shape.channels)
