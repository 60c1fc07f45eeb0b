-- A number of eight bytes is two of four.
use Rattle.std.proofs.Common.{◌≡◌, ℕ, suc, ◌+◌, ◌*◌, true, false, List, arith}
use Rattle.tiff_format.specs.Bytes.{number_at}

-- the highest byte first
pub big_eight : (bytes : List ℕ) (at : ℕ) → number_at true 8 bytes at
    ≡ number_at true 4 bytes at * 4294967296 + number_at true 4 bytes (at + 4)
unfolding number_at
big_eight bytes at =
    let e : at + 4 ≡ suc (suc (suc (suc at))) = omega arith in
    rw e (omega arith)

-- the lowest byte first
pub little_eight : (bytes : List ℕ) (at : ℕ) → number_at false 8 bytes at
    ≡ number_at false 4 bytes at + number_at false 4 bytes (at + 4) * 4294967296
unfolding number_at
little_eight bytes at =
    let e : at + 4 ≡ suc (suc (suc (suc at))) = omega arith in
    rw e (omega arith)
