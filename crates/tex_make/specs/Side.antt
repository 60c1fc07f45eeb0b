-- Which tiles may a texture have, and how large may it be?
use Rattle.std.specs.Prelude.{◌≡◌, ℕ, ◌%◌, ◌≤◌, ◌<◌, ◌^◌}
use Rattle.tex_make.specs.Picture.{Picture}
use Rattle.tex_make.specs.Texture.{tiles_at}

-- a side of its tiles: a multiple of 16 from 16 to 256
pub record IsMadeSide (side : ℕ) : Type 0 where
  pub low : 16 ≤ side
  pub high : side ≤ 256
  pub multiple : side % 16 ≡ 0

-- the number of bytes of a texture, which ends with its last tile
abbrev pub texture_size : Picture → ℕ → ℕ
texture_size p side = tiles_at p side p.levels

-- each place in it fits four bytes
abbrev pub IsShort : Picture → ℕ → Type 0
IsShort p side = texture_size p side < 2 ^ 32
