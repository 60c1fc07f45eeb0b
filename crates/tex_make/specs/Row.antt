-- Which bytes do samples have, one after another, lowest byte first?
use Rattle.std.specs.Prelude.{ℕ, ◌/◌, ◌%◌, List, slice_index}
use Rattle.std.specs.Int.{byte_at}
use Rattle.tiff_format.specs.Block.{sample_bytes}

-- byte k of samples of this depth; 0 after the last one
abbrev pub byte_of_samples : ℕ → List ℕ → ℕ → ℕ
byte_of_samples depth samples k =
    byte_at (k % sample_bytes depth) (slice_index samples (k / sample_bytes depth))
