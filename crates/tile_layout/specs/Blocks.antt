-- When do all strips and tiles of a level lie in the file?
use Rattle.std.specs.Prelude.{ℕ, ◌+◌, ◌<◌, ◌≤◌, List, length, slice_index}
use Rattle.tiff_format.specs.Block.{Level, blocks_of, block_bytes}

-- none of them ends after the end of the file
abbrev pub HoldsBlocks : List ℕ → Level → Type 0
HoldsBlocks bytes level = (i : ℕ) → i < blocks_of level.shape
    → slice_index level.offsets i + block_bytes level.shape i ≤ length bytes
