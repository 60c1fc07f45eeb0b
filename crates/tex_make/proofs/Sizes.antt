-- How long is a texture? Each place in it is a number of four bytes.
use Rattle.std.proofs.Common.{◌≡◌, ℕ, zero, suc, ◌+◌, ◌-◌, ◌*◌, ◌^◌, ◌<◌, ◌≤◌, arith, ap, ◌∙◌}
use Rattle.std.proofs.Common.{refl, sym, subst, add-one, Bool, true, false}
use Rattle.std.specs.Prelude.{if◌then◌else◌}
use Rattle.std.proofs.Math.Nat.{mul-le-mul, mul-le-mul_left, div-mul-le_self}
use Rattle.tiff_format.specs.Block.{pieces_over, sample_bytes}
use Rattle.tiff_format.specs.Level.{halved}
use Rattle.tex_make.specs.declared.field.Field.{Field}
use Rattle.tex_make.specs.declared.field.FieldKind.TheVariants.{Short, Long}
use Rattle.tex_make.specs.Field.{all_outside, directory_size, field_size, outside_size, fits_entry}
use Rattle.tex_make.specs.Picture.{Picture, IsPicture, samples_of, max_samples, extra_samples}
use Rattle.tex_make.specs.Side.{IsMadeSide, IsShort}
use Rattle.tex_make.specs.Texture.{tile_count, tile_size, tiles_across, tiles_down, fields_of}
use Rattle.tex_make.specs.Texture.{extra_field, directory_at, tiles_at, equal, places}
use Rattle.tex_make.proofs.Fields.{fields_few, sample_low}
use Rattle.tex_make.proofs.Directories.{first_directory, first_tiles, next_directory, next_tiles}

-- ---- bounds on a level and the levels after it

-- pieces of a side, each as long as a tile may be, are no longer than the side and a tile
covered : (n side : ℕ) → IsMadeSide side → pieces_over n side * side ≤ n + 256
covered n side is =
    let whole = div-mul-le_self (n + side - 1) side in
    let high = is.high in omega (arith, whole)

-- the texels of the tiles of a level of this size are no more than this
room : ℕ → ℕ → ℕ
room w h = (w + 256) * (h + 256)

-- a bound for a level and the n - 1 after it
left_for : ℕ → ℕ → ℕ → ℕ
left_for w h n = 2 * (w * h) + 512 * (w + h) + n * 66048

-- the next level has half of the texels at most
halves : (w h : ℕ) → 1 ≤ w → 1 ≤ h → 2 ≤ w * h → 2 * (halved w * halved h) ≤ w * h
halves w (suc (suc h)) wide high more =
    let down : 2 * halved (suc (suc h)) ≤ suc (suc h) = omega arith in
    let across : halved w ≤ w = omega arith in
    let both : halved w * (2 * halved (suc (suc h))) ≤ w * suc (suc h) =
    mul-le-mul across down in
    omega (arith, both)
halves (suc (suc w)) (suc zero) wide high more =
    let across : 2 * halved (suc (suc w)) ≤ suc (suc w) = omega arith in
    omega (arith, across)
halves (suc zero) (suc zero) wide high more = absurd (omega (arith, more))
halves zero h wide high more = absurd (omega (arith, wide))
halves w zero wide high more = absurd (omega (arith, high))

-- a level and those after it stay within the bound
step : (w h n : ℕ) → 1 ≤ w → 1 ≤ h → 2 ≤ w * h
    → room w h + left_for (halved w) (halved h) n ≤ left_for w h (n + 1)
unfolding room left_for
step w h n wide high more =
    from w h (halved w) (halved h) n (halves w h wide high more) (omega arith) (omega arith)
  where
    from : (w h v g n : ℕ) → 2 * (v * g) ≤ w * h → 2 * v ≤ w + 1 → 2 * g ≤ h + 1
        → (w + 256) * (h + 256) + (2 * (v * g) + 512 * (v + g) + n * 66048)
        ≤ 2 * (w * h) + 512 * (w + h) + (n + 1) * 66048
    from w h v g n half across down = omega (arith, half, across, down)

last_step : (n : ℕ) → room 1 1 ≤ left_for 1 1 (n + 1)
unfolding room left_for
last_step n = omega arith

more_left : (w h n m : ℕ) → n ≡ m → left_for w h n ≤ left_for w h m
unfolding left_for
more_left w h n m same = omega (arith, same)

-- ---- the levels of an image

module _ (p : Picture) (is : IsPicture p) where
  -- a bound for the first levels
  rooms : ℕ → ℕ
  rooms zero = 0
  rooms (suc l) = rooms l + room (p.width l) (p.height l)

  rooms_left : (l n : ℕ) → l + n + 1 ≡ p.levels
      → rooms l + left_for (p.width l) (p.height l) (n + 1)
      ≤ left_for (p.width 0) (p.height 0) p.levels
  unfolding rooms
  rooms_left zero n all =
      let more = more_left (p.width 0) (p.height 0) (n + 1) p.levels (omega (arith, all)) in
      omega (arith, more)
  rooms_left (suc l) n all =
      let below : l + 1 < p.levels = omega (arith, all) in
      let at : p.width (suc l) ≡ halved (p.width l) =
      ap p.width (sym (add-one l)) ∙ is.half_width l below in
      let down : p.height (suc l) ≡ halved (p.height l) =
      ap p.height (sym (add-one l)) ∙ is.half_height l below in
      let behind : left_for (p.width (suc l)) (p.height (suc l)) (n + 1)
      ≡ left_for (halved (p.width l)) (halved (p.height l)) (n + 1) =
      ap (λ (w : ℕ). left_for w (p.height (suc l)) (n + 1)) at
      ∙ ap (λ (h : ℕ). left_for (halved (p.width l)) h (n + 1)) down in
      let here = step (p.width l) (p.height l) (n + 1) (is.width l (omega (arith, below))).low
      (is.height l (omega (arith, below))).low (is.before l below) in
      let before = rooms_left l (n + 1) (omega (arith, all)) in
      omega (arith, behind, here, before)

  few_rooms : rooms p.levels ≤ left_for (p.width 0) (p.height 0) p.levels
  unfolding rooms
  few_rooms =
      let k = p.levels - 1 in
      let some = is.some in
      let all : suc k ≡ p.levels = omega (arith, some) in
      let last : room (p.width k) (p.height k) ≡ room 1 1 =
      ap (λ (w : ℕ). room w (p.height k)) is.last_width ∙ ap (room 1) is.last_height in
      let left : left_for (p.width k) (p.height k) (0 + 1) ≡ left_for 1 1 (0 + 1) =
      ap (λ (w : ℕ). left_for w (p.height k) (0 + 1)) is.last_width
      ∙ ap (λ (h : ℕ). left_for 1 h (0 + 1)) is.last_height in
      let before = rooms_left k 0 (omega (arith, all)) in
      let here : rooms (suc k) ≤ left_for (p.width 0) (p.height 0) p.levels =
      omega (arith, last, left, before, last_step 0) in
      subst (λ (n : ℕ). rooms n ≤ left_for (p.width 0) (p.height 0) p.levels) all here

  module _ (side : ℕ) (side_is : IsMadeSide side) where
    -- the texels of the tiles of a level
    tiles_in_room : (l : ℕ) → tile_count p side l * (side * side) ≤ room (p.width l) (p.height l)
    unfolding room
    tiles_in_room l =
        let across = covered (p.width l) side side_is in
        let down = covered (p.height l) side side_is in
        let both = mul-le-mul across down in
        let same : tile_count p side l * (side * side)
        ≡ (tiles_across p side l * side) * (tiles_down p side l * side) = turned
        (tiles_across p side l) (tiles_down p side l) side in
        omega (arith, both, same)
      where
        turned : (a d t : ℕ) → a * d * (t * t) ≡ (a * t) * (d * t)
        turned a d t = omega arith

    -- the bytes of a texel
    abbrev m : ℕ
    m = p.channels * sample_bytes p.depth

    tiles_low : (l : ℕ) → tiles_at p side l ≤ tiles_at p side 0 + m * rooms l
    unfolding rooms
    tiles_low zero = omega arith
    tiles_low (suc l) =
        let before = tiles_low l in
        let next : tiles_at p side (suc l)
        ≡ tiles_at p side l + tile_count p side l * tile_size p side =
        ap (tiles_at p side) (sym (add-one l)) ∙ next_tiles p side l in
        let here : m * (tile_count p side l * (side * side))
        ≤ m * room (p.width l) (p.height l) = mul-le-mul_left m (tiles_in_room l) in
        let same = turned (tile_count p side l) side p.channels (sample_bytes p.depth) in
        let parts = parted m (rooms l) (room (p.width l) (p.height l)) in
        omega (arith, before, next, here, same, parts)
      where
        turned : (n t c s : ℕ) → n * (t * t * (c * s)) ≡ (c * s) * (n * (t * t))
        turned n t c s = omega arith

        parted : (m a b : ℕ) → m * (a + b) ≡ m * a + m * b
        parted m a b = omega arith

    -- ---- the directories

    no_more : (b : Bool) (x : ℕ) → (if b then 0 else x) ≤ x
    no_more true x = omega arith
    no_more false x = omega arith

    outside_low : (field : Field) → outside_size field ≤ field_size field
    outside_low field = no_more (fits_entry field) (field_size field)

    extra_low : (n : ℕ) → all_outside (extra_field n) ≤ n * 2
    extra_low zero = omega arith
    extra_low (suc n) =
        let low = outside_low (equal Short 338 (suc n) 0) in omega (arith, low)

    directory_low : (l : ℕ) → l < p.levels
        → directory_size (fields_of p side l 0) ≤ 194 + 8 * tile_count p side l
    unfolding fields_of
    directory_low l below =
        let few = fields_few p is side l side_is below 0 in
        let channels = is.channels.high in
        let bits = outside_low (equal Short 258 p.channels p.depth) in
        let offsets = outside_low (places (tile_count p side l) 0 (tile_size p side)) in
        let counts = outside_low (equal Long 325 (tile_count p side l) (tile_size p side)) in
        let extra = extra_low (extra_samples p) in
        omega (arith, few, channels, bits, offsets, counts, extra)

    directories_low : (l : ℕ) → l ≤ p.levels
        → 32 * directory_at p side l ≤ 256 + rooms l + 6208 * l
    unfolding rooms
    directories_low zero low = let first = first_directory p side in omega (arith, first)
    directories_low (suc l) low =
        let before = directories_low l (omega arith) in
        let next : directory_at p side (suc l)
        ≡ directory_at p side l + directory_size (fields_of p side l 0) =
        ap (directory_at p side) (sym (add-one l)) ∙ next_directory p side l in
        let here = directory_low l low in
        let least : 16 * 16 ≤ side * side = mul-le-mul side_is.low side_is.low in
        let texels : tile_count p side l * (16 * 16) ≤ tile_count p side l * (side * side) =
        mul-le-mul_left (tile_count p side l) least in
        let few = tiles_in_room l in
        omega (arith, before, next, here, texels, few)

    -- ---- all of it

    bounds : (b w h c s n : ℕ) → b ≡ c * s → c ≤ 8 → s ≤ 2 → 1 ≤ c → w ≤ 131072 → h ≤ 131072
        → n ≤ 18 → w * h * c ≤ 67108864 → (r d t : ℕ) → r ≤ left_for w h n
        → 32 * d ≤ 256 + r + 6208 * n → t ≤ d + b * r → t < 2 ^ 32
    unfolding left_for
    bounds b w h c s n is few small some wide high levels samples r d t bound directories tiles =
        let texels : w * h ≤ w * h * c =
        let one = mul-le-mul_left (w * h) some in omega (arith, one) in
        let bytes : (c * s) * (w * h) ≤ 2 * 67108864 =
        let most = mul-le-mul samples small in omega (arith, most) in
        let low : c * s ≤ 16 = mul-le-mul few small in
        let both : w + h ≤ 262144 = omega arith in
        let sides : (c * s) * (w + h) ≤ 16 * 262144 = mul-le-mul low both in
        let counts : (c * s) * n ≤ 16 * 18 = mul-le-mul low levels in
        let all : b * r ≤ (c * s) * (2 * (w * h) + 512 * (w + h) + n * 66048) =
        let same : b ≤ c * s = omega (arith, is) in mul-le-mul same bound in
        let parted : (c * s) * (2 * (w * h) + 512 * (w + h) + n * 66048)
        ≡ 2 * ((c * s) * (w * h)) + 512 * ((c * s) * (w + h)) + 66048 * ((c * s) * n) =
        parts (c * s) (w * h) (w + h) n in
        omega (arith, texels, bytes, sides, counts, all, parted, samples, bound, directories, tiles)
      where
        parts : (m a b n : ℕ) → m * (2 * a + 512 * b + n * 66048)
            ≡ 2 * (m * a) + 512 * (m * b) + 66048 * (m * n)
        parts m a b n = omega arith

    -- a texture of an image with few enough samples is short
    pub short_texture : samples_of p ≤ max_samples → IsShort p side
    short_texture small =
        let some = is.some in
        let first = first_tiles p side in
        let tiles = tiles_low p.levels in
        let low : 0 < p.levels = omega (arith, some) in
        bounds m (p.width 0) (p.height 0) p.channels (sample_bytes p.depth) p.levels refl
        is.channels.high (sample_low p.depth) is.channels.low (is.width 0 low).high
        (is.height 0 low).high is.few small (rooms p.levels) (directory_at p side p.levels)
        (tiles_at p side p.levels) few_rooms (directories_low p.levels (omega arith))
        (omega (arith, tiles, first))
