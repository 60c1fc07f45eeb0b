-- Which bytes have the images that are not written out?
use Rattle.std.specs.Prelude.{ℕ, ◌+◌, ◌-◌, ◌*◌, ◌/◌, ◌%◌, ◌==◌, ◌&&◌, nat_lt, if◌then◌else◌}
use Rattle.std.specs.Prelude.{List, slice_index}

-- the sample of channel c of texel (x, y) of an image of 80 by 48, which is greater by one in
-- generation 2; or the padding outside it
abbrev pub tiled_sample : ℕ → ℕ → ℕ → ℕ → ℕ
tiled_sample g x y c =
    if nat_lt x 80 && nat_lt y 48 then 20000 * c + 100 * y + x + (if g == 2 then 1 else 0)
    else 65535

-- The byte at a place of its tiles of 64 by 32, two in a row. Samples have 16 bits, highest byte
-- first.
unfoldable pub tiled_byte : ℕ → ℕ → ℕ
tiled_byte g at =
    let tile = at / 12288 in
    let k = at % 12288 / 2 in
    let sample = tiled_sample g (64 * (tile % 2) + k % 192 / 3) (32 * (tile / 2) + k / 192) (k % 3)
    in
    if at % 2 == 0 then sample / 256 else sample % 256

-- the byte at a place of a file whose first bytes are written out and whose others are computed
abbrev pub byte_behind : List ℕ → ℕ → (ℕ → ℕ) → ℕ → ℕ
byte_behind head len rest at = if nat_lt at len then slice_index head at else rest (at - len)
