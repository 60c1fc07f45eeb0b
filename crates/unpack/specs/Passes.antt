-- What do the two passes over the samples of a block do?
use Rattle.std.specs.Prelude.{◌≡◌, ℕ, ◌<◌, ◌≤◌, Bool, List, length, slice_index}
use Rattle.tiff_format.specs.Texel.{greatest_sample, unwhite}
use Rattle.unpack.specs.Sample.{depth_of, is_white, stored_sample}

-- these are the stored samples of the bytes
abbrev pub AreStored : Bool → Bool → List ℕ → List ℕ → Type 0
AreStored wide big bytes samples =
    (k : ℕ) → k < length samples → slice_index samples k ≡ stored_sample wide big bytes k

-- no sample is greater than its depth allows
abbrev pub AreLow : Bool → List ℕ → Type 0
AreLow wide samples =
    (k : ℕ) → k < length samples → slice_index samples k ≤ greatest_sample (depth_of wide)

-- white was inverted in each of these samples
abbrev pub AreUnwhite : Bool → ℕ → List ℕ → List ℕ → Type 0
AreUnwhite wide channels old new =
    (k : ℕ) → k < length old
    → slice_index new k ≡ unwhite (is_white channels k) (depth_of wide) (slice_index old k)

-- for each sample, the mask has the bits to flip: all bits of the depth, or none
abbrev pub IsWhiteMask : Bool → ℕ → ℕ → List ℕ → Type 0
IsWhiteMask wide channels size mask =
    (k : ℕ) → k < size
    → slice_index mask k ≡ unwhite (is_white channels k) (depth_of wide) 0
