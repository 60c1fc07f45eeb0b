-- A sample of a texture is read as it was written.
use Rattle.std.specs.Prelude.{◌==◌, if◌then◌else◌}
use Rattle.std.proofs.Common.{◌≡◌, ℕ, zero, suc, ◌+◌, ◌-◌, ◌*◌, ◌/◌, ◌%◌, ◌^◌, ◌<◌, ◌≤◌, Bool, true, false, List}
use Rattle.std.proofs.Common.{length, slice_index, refl, sym, ap, ◌∙◌, subst, arith}
use Rattle.std.proofs.Common.{length-append}
use Rattle.std.specs.Int.{byte_at}
use Rattle.std.proofs.lemmas.Bool.{eqb-true}
use Rattle.std.proofs.lemmas.List.FromFn.{length-map-range_with_len, get_or-map-range_with_len}
use Rattle.std.proofs.lemmas.Nat.{mul-add-lt, div-add-mod', mod_below, div_below}
use Rattle.std.proofs.Math.Nat.{mul-add-div_right, mul-add-mod_self_right, div-eq_of_lt, mod-eq_of_lt}
use Rattle.tiff_format.specs.Block.{Level, level_with, pieces_over, sample_bytes}
use Rattle.tiff_format.specs.Bytes.{number_at}
use Rattle.tiff_format.specs.Facts.{IsDepth}
use Rattle.tiff_format.specs.Texel.{sample_in, sample_place, greatest_sample}
use Rattle.tex_make.specs.Field.{number_in}
use Rattle.tex_make.specs.Joined.{joined}
use Rattle.tex_make.specs.Picture.{Picture, IsPicture}
use Rattle.tex_make.specs.Side.{IsMadeSide, IsShort, texture_size}
use Rattle.tex_make.specs.Texture.{tile_count, tile_size, tiles_across, tiles_down, tile_bytes, tile_byte}
use Rattle.tex_make.specs.Texture.{tile_sample, level_tiles, places, photometric, tiles_at, head_of, texture_of}
use Rattle.tex_make.proofs.Directories.{first_tiles, next_tiles}
use Rattle.tex_make.proofs.DirectoryGood.{tiled_shape}
use Rattle.tex_make.proofs.HalfLevel.{place_below}
use Rattle.tex_make.proofs.Parts.{Holds, holds_all, holds_right, holds_piece, holds_equal, length_joined}
use Rattle.tex_make.proofs.ReadBack.{values_of}
use Rattle.tex_make.proofs.TextureParts.{head_long}
use Rattle.tex_make.proofs.TileBytes.{padded_in}

-- ---- numbers of one byte and of two

narrow : (bytes : List ℕ) (at v : ℕ) → slice_index bytes at ≡ v % 256 → v ≤ 255
    → number_at false 1 bytes at ≡ v
unfolding number_at
narrow bytes at v is low = omega (arith, is, low)

wide : (bytes : List ℕ) (at v : ℕ) → slice_index bytes at ≡ v % 256
    → slice_index bytes (suc at) ≡ v / 256 ^ 1 % 256 → v ≤ 65535 → number_at false 2 bytes at ≡ v
unfolding number_at
wide bytes at v first second low = omega (arith, first, second, low)

-- byte b of value q
byte_of : (f : ℕ → ℕ) (s q b : ℕ) → b < s
    → byte_at ((q * s + b) % s) (f ((q * s + b) / s)) ≡ byte_at b (f q)
byte_of f s q b low =
    let some : 1 ≤ s = omega (arith, low) in
    let rest : (q * s + b) % s ≡ b = mul-add-mod_self_right q s b ∙ mod-eq_of_lt low in
    let none : b / s ≡ 0 = div-eq_of_lt low in
    let whole : (q * s + b) / s ≡ q = mul-add-div_right some q b ∙ omega (arith, none) in
    ap (λ (k : ℕ). byte_at k (f ((q * s + b) / s))) rest ∙ ap (λ (k : ℕ). byte_at b (f k)) whole

-- the number of value q, if each of its bytes is at its place
value_by : (b : Bool) (d : ℕ) → (d == 8) ≡ b → IsDepth d → (bytes : List ℕ) (f : ℕ → ℕ) (at q : ℕ)
    → ((k : ℕ) → k < (if b then 1 else 2) → slice_index bytes (at + (q * (if b then 1 else 2) + k))
    ≡ byte_at ((q * (if b then 1 else 2) + k) % (if b then 1 else 2))
    (f ((q * (if b then 1 else 2) + k) / (if b then 1 else 2))))
    → f q ≤ greatest_sample d
    → number_at false (if b then 1 else 2) bytes (at + q * (if b then 1 else 2)) ≡ f q
value_by true d is depth bytes f at q each low =
    let eight : d ≡ 8 = eqb-true d 8 is in
    let here : at + (q * 1 + 0) ≡ at + q * 1 = omega arith in
    let most : f q ≤ 255 = omega (arith, low, ap greatest_sample eight) in
    narrow bytes (at + q * 1) (f q)
    (ap (slice_index bytes) (sym here) ∙ each 0 (omega arith) ∙ byte_of f 1 q 0 (omega arith)) most
value_by false d is depth bytes f at q each low =
    let sixteen : d ≡ 16 = eqb-true d 16 (rw is at depth) in
    let here : at + (q * 2 + 0) ≡ at + q * 2 = omega arith in
    let there : at + (q * 2 + 1) ≡ suc (at + q * 2) = omega arith in
    let most : f q ≤ 65535 = omega (arith, low, ap greatest_sample sixteen) in
    wide bytes (at + q * 2) (f q)
    (ap (slice_index bytes) (sym here) ∙ each 0 (omega arith) ∙ byte_of f 2 q 0 (omega arith))
    (ap (slice_index bytes) (sym there) ∙ each 1 (omega arith) ∙ byte_of f 2 q 1 (omega arith)) most

-- ---- the tile of a texel

-- a place lies in one of the pieces of its side
piece_below : (x w side : ℕ) → x < w → 1 ≤ side → x / side < pieces_over w side
piece_below x w side low some =
    let whole : (w + side - 1) / side * side + (w + side - 1) % side ≡ w + side - 1 =
    div-add-mod' (w + side - 1) side in
    let rest = mod_below (w + side - 1) side some in
    let covered : x < pieces_over w side * side = omega (arith, whole, rest, low) in
    div_below x side (pieces_over w side) some (omega (arith, covered))

-- the tile, and the place of the sample in it
module _ (p : Picture) (l x y c : ℕ) (side : ℕ) (some : 1 ≤ side) (across : x < p.width l)
    (down : y < p.height l) (channel : c < p.channels) where
  abbrev tile : ℕ
  tile = y / side * tiles_across p side l + x / side

  abbrev place : ℕ
  place = (y % side * side + x % side) * p.channels + c

  column : x / side < tiles_across p side l
  column = piece_below x (p.width l) side across some

  row : y / side < tiles_down p side l
  row = piece_below y (p.height l) side down some

  pub tile_below : tile < tile_count p side l
  tile_below = let low = mul-add-lt (y / side) (tiles_across p side l) (x / side) (tiles_down p side l) row column in
      omega (arith, low)

  pub place_inside : place < side * side * p.channels
  place_inside = place_below side side p.channels (x % side) (y % side) c (mod_below x side some)
      (mod_below y side some) channel

  pub sample_is : tile_sample p side l tile place ≡ p.sample l x y c
  sample_is =
      let a = tiles_across p side l in
      let n = p.channels in
      let channels : 1 ≤ n = omega (arith, channel) in
      let a_some : 1 ≤ a = omega (arith, column) in
      let t = y % side * side + x % side in
      let c_none : c / n ≡ 0 = div-eq_of_lt channel in
      let texel : place / n ≡ t = mul-add-div_right channels t c ∙ omega (arith, c_none) in
      let c_is : place % n ≡ c = mul-add-mod_self_right t n c ∙ mod-eq_of_lt channel in
      let x_low = mod_below x side some in
      let x_none : x % side / side ≡ 0 = div-eq_of_lt x_low in
      let t_row : t / side ≡ y % side = mul-add-div_right some (y % side) (x % side) ∙ omega (arith, x_none) in
      let t_column : t % side ≡ x % side =
      mul-add-mod_self_right (y % side) side (x % side) ∙ mod-eq_of_lt x_low in
      let i_none : x / side / a ≡ 0 = div-eq_of_lt column in
      let i_row : tile / a ≡ y / side = mul-add-div_right a_some (y / side) (x / side) ∙ omega (arith, i_none) in
      let i_column : tile % a ≡ x / side = mul-add-mod_self_right (y / side) a (x / side) ∙ mod-eq_of_lt column in
      let whole_x : x / side * side + x % side ≡ x = div-add-mod' x side in
      let whole_y : y / side * side + y % side ≡ y = div-add-mod' y side in
      let x_is : tile % a * side + place / n % side ≡ x =
      ap (λ (k : ℕ). k * side + place / n % side) i_column
      ∙ ap (λ (k : ℕ). x / side * side + k % side) texel
      ∙ ap (λ (k : ℕ). x / side * side + k) t_column ∙ whole_x in
      let y_is : tile / a * side + place / n / side ≡ y =
      ap (λ (k : ℕ). k * side + place / n / side) i_row
      ∙ ap (λ (k : ℕ). y / side * side + k / side) texel
      ∙ ap (λ (k : ℕ). y / side * side + k) t_row ∙ whole_y in
      rw (x_is, y_is, c_is) (padded_in p l x y c across down)

-- ---- the texture

module _ (p : Picture) (is : IsPicture p) (side : ℕ) (made : IsMadeSide side) (short : IsShort p side)
  where
    abbrev bytes : List ℕ
    bytes = texture_of p side

    tile_long : (l i : ℕ) → length (tile_bytes p side l i) ≡ tile_size p side
    unfolding tile_bytes
    tile_long l i = length-map-range_with_len (tile_byte p side l i) 0 (tile_size p side)

    level_long : (l : ℕ) → length (level_tiles p side l) ≡ tile_count p side l * tile_size p side
    unfolding level_tiles
    level_long l = length_joined (tile_bytes p side l) (tile_size p side) (tile_count p side l)
        (λ i low. tile_long l i)

    tiles_held : Holds bytes (tiles_at p side 0) (joined (level_tiles p side) p.levels)
    unfolding texture_of
    tiles_held = holds_right bytes (head_of p side) (joined (level_tiles p side) p.levels) 0
        (tiles_at p side 0)
        (let long = head_long p is side made short in
        let first = first_tiles p side in omega (arith, long, first)) (holds_all bytes)

    pub tiles_at_is : (l : ℕ) → tiles_at p side 0 + length (joined (level_tiles p side) l) ≡ tiles_at p side l
    tiles_at_is zero = omega arith
    tiles_at_is (suc l) =
        let before = tiles_at_is l in
        let here = level_long l in
        let more : l + 1 ≡ suc l = omega arith in
        let next = ap (tiles_at p side) (sym more) ∙ next_tiles p side l in
        omega (arith, before, here, next, length-append (joined (level_tiles p side) l) (level_tiles p side l))

    pub texture_long : length bytes ≡ texture_size p side
    unfolding texture_of
    texture_long =
        let head = head_long p is side made short in
        let first = first_tiles p side in
        let all = tiles_at_is p.levels in
        omega (arith, head, first, all, length-append (head_of p side) (joined (level_tiles p side) p.levels))

    module _ (l : ℕ) (below : l < p.levels) (i : ℕ) (low : i < tile_count p side l) where
      pub tile_held : Holds bytes (tiles_at p side l + i * tile_size p side) (tile_bytes p side l i)
      unfolding level_tiles
      tile_held =
          let level = subst (λ (k : ℕ). Holds bytes k (level_tiles p side l)) (tiles_at_is l)
          (holds_piece bytes (level_tiles p side) p.levels l (tiles_at p side 0) below tiles_held) in
          holds_equal bytes (tile_bytes p side l) (tile_size p side) (tile_count p side l) i
          (tiles_at p side l) low (λ i low. tile_long l i) level

      pub tile_ends : tiles_at p side l + i * tile_size p side + tile_size p side ≤ length bytes
      tile_ends =
          let ends = tile_held.ends in
          let long = tile_long l i in
          omega (arith, ends, long)

      byte_is : (k : ℕ) → k < tile_size p side
          → slice_index bytes (tiles_at p side l + i * tile_size p side + k) ≡ tile_byte p side l i k
      unfolding tile_bytes
      byte_is k inside =
          sym (tile_held.each k (let long = tile_long l i in omega (arith, long, inside)))
          ∙ get_or-map-range_with_len (tile_byte p side l i) 0 (tile_size p side) k k 0 inside (omega arith)

    -- ---- a sample

    module _ (l x y c : ℕ) (below : l < p.levels) (across : x < p.width l) (down : y < p.height l)
        (channel : c < p.channels) where
      some : 1 ≤ side
      some = let low = made.low in omega (arith, low)

      abbrev i : ℕ
      i = y / side * tiles_across p side l + x / side

      abbrev q : ℕ
      q = (y % side * side + x % side) * p.channels + c

      abbrev s : ℕ
      s = sample_bytes p.depth

      size_is : tile_size p side ≡ side * side * p.channels * s
      size_is = omega arith

      i_low : i < tile_count p side l
      i_low = tile_below p l x y c side some across down channel

      byte_inside : (k : ℕ) → k < s → q * s + k < tile_size p side
      byte_inside k low =
          let inside = place_inside p l x y c side some across down channel in
          let all = mul-add-lt q s k (side * side * p.channels) inside low in
          omega (arith, all, size_is)

      tile_at : slice_index (values_of (places (tile_count p side l) (tiles_at p side l) (tile_size p side))) i
          ≡ tiles_at p side l + tile_size p side * i
      tile_at = get_or-map-range_with_len
          (number_in (places (tile_count p side l) (tiles_at p side l) (tile_size p side))) 0
          (tile_count p side l) i i 0 i_low (omega arith)

      abbrev level : Level
      level = level_with (tiled_shape (p.width l) (p.height l) p.channels p.depth (photometric p) side)
          (values_of (places (tile_count p side l) (tiles_at p side l) (tile_size p side)))

      sample_at : sample_place level x y c ≡ tiles_at p side l + i * tile_size p side + q * s
      unfolding sample_place
      sample_at =
          let none : 0 * (pieces_over (p.width l) side * pieces_over (p.height l) side) + i ≡ i = omega arith in
          ap (λ (k : ℕ). slice_index
          (values_of (places (tile_count p side l) (tiles_at p side l) (tile_size p side))) k + q * s) none
          ∙ omega (arith, tile_at)

      number_is : number_at false s bytes (tiles_at p side l + i * tile_size p side + q * s)
          ≡ tile_sample p side l i q
      number_is = value_by (p.depth == 8) p.depth refl is.depth bytes (tile_sample p side l i)
          (tiles_at p side l + i * tile_size p side) q
          (λ k low. byte_is l below i i_low (q * s + k) (byte_inside k low))
          (let low = is.low l x y c below across down channel in
          let same = sample_is p l x y c side some across down channel in omega (arith, low, same))

      pub sample_read : sample_in false bytes level x y c ≡ p.sample l x y c
      unfolding sample_in
      sample_read =
          ap (number_at false s bytes) sample_at ∙ number_is
          ∙ sample_is p l x y c side some across down channel
