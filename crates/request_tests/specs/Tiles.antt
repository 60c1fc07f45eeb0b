-- Which bytes have the tiles of the two images?
use Rattle.std.specs.Prelude.{ℕ, ◌+◌, ◌-◌, ◌*◌, ◌/◌, ◌%◌, ◌==◌, ◌&&◌, nat_lt, if◌then◌else◌}

-- the sample of channel c of texel (x, y) of an image of 80 by 48, which is greater by one in
-- generation 2; or the padding outside it
abbrev pub tiled_sample : ℕ → ℕ → ℕ → ℕ → ℕ
tiled_sample g x y c =
    if nat_lt x 80 && nat_lt y 48 then 20000 * c + 100 * y + x + (if g == 2 then 1 else 0)
    else 65535

-- The byte at a place of its tiles of 64 by 32, two in a row. Samples have 16 bits, highest byte
-- first.
unfoldable pub tiled_byte : ℕ → ℕ → ℕ
tiled_byte g at =
    let tile = at / 12288 in
    let k = at % 12288 / 2 in
    let sample = tiled_sample g (64 * (tile % 2) + k % 192 / 3) (32 * (tile / 2) + k / 192) (k % 3)
    in
    if at % 2 == 0 then sample / 256 else sample % 256

-- the sample of channel c of texel (x, y) of an image of 20 by 18, or the padding outside it
abbrev pub seam_sample : ℕ → ℕ → ℕ → ℕ
seam_sample x y c =
    if nat_lt x 20 && nat_lt y 18
    then if c == 0 then 11 * y + x else 200 - 5 * y - x
    else 255

-- The byte at a place of its tiles of 16 by 16, two in a row.
unfoldable pub seam_byte : ℕ → ℕ
seam_byte at =
    let tile = at / 512 in
    let k = at % 512 in
    seam_sample (16 * (tile % 2) + k % 32 / 2) (16 * (tile / 2) + k / 32) (k % 2)
