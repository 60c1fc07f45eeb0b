-- The samples of a tile: where they are, and which texels they belong to.
use Rattle.std.proofs.Common.{◌≡◌, ℕ, ◌+◌, ◌-◌, ◌*◌, ◌<◌, ◌≤◌, List, length, get_or, take, drop, Option, Some, None}
use Rattle.std.proofs.Common.{ap, ◌∙◌, arith, IsSomeAnd, length-take, length-drop}
use Rattle.std.proofs.lemmas.List.{get_or-take, get_or-drop}
use Rattle.std.proofs.lemmas.List.Elements.{All-get_or}
use Rattle.std.proofs.lemmas.Nat.{mul-add-lt, mul-le}
use Rattle.std.proofs.Math.Nat.{add-mul, mul_comm}
use Rattle.tiff_format.specs.Texel.{greatest_sample}
use Rattle.tex_world.specs.World.{Files}
use Rattle.tile_layout.specs.Cell.{HoldsTexel, bit_depth_of}
use Rattle.tile_layout.specs.Key.{generation_of, file_of}
use Rattle.tile_store.specs.Tile.{CachedTile, IsTile, place_in, kept_sample, HoldsRow, AreSamples}
use Rattle.tile_store.specs.Told.{IsOfBytes, IsTold, IsSampleOf, IsToldSample, AreToldSamples}

-- the samples of n texels of a row end within those of the tile
pub row_ends : (tile : CachedTile) (x y n : ℕ) → IsTile tile → HoldsRow tile x y n
    → place_in tile x y + n * tile.channels ≤ length tile.texels
row_ends tile x y n is row =
    let w = tile.rect.w in
    let h = tile.rect.h in
    let i : ℕ = x - tile.rect.x in
    let j : ℕ = y - tile.rect.y in
    let left = row.left in
    let right = row.right in
    let top = row.top in
    let bottom = row.bottom in
    let across : i + n ≤ w = omega arith in
    let down : j + 1 ≤ h = omega arith in
    let above : (j + 1) * w ≤ h * w = mul-le (j + 1) w h w down (omega arith) in
    let wide : (j + 1) * w ≡ j * w + w = add-mul j 1 w ∙ ap (λ k. j * w + k) (omega arith) in
    let turned : h * w ≡ w * h = mul_comm h w in
    let texels : j * w + i + n ≤ w * h = omega arith in
    let samples : (j * w + i + n) * tile.channels ≤ w * h * tile.channels =
    mul-le (j * w + i + n) tile.channels (w * h) tile.channels texels (omega arith) in
    let split : (j * w + i + n) * tile.channels ≡ (j * w + i) * tile.channels + n * tile.channels =
    add-mul (j * w + i) n tile.channels in
    let all = is.texels in
    omega arith

-- i texels on in the row
pub place_on : (tile : CachedTile) (x y i : ℕ) → tile.rect.x ≤ x
    → place_in tile (x + i) y ≡ place_in tile x y + i * tile.channels
place_on tile x y i left =
    let w = tile.rect.w in
    let a : ℕ = (y - tile.rect.y) * w in
    let on : a + (x + i - tile.rect.x) ≡ a + (x - tile.rect.x) + i = omega arith in
    ap (λ k. k * tile.channels) on ∙ add-mul (a + (x - tile.rect.x)) i tile.channels

-- the samples from there on are those of the row
pub row_samples : (tile : CachedTile) (x y n : ℕ) → IsTile tile → HoldsRow tile x y n
    → AreSamples tile x y n (take (n * tile.channels) (drop (place_in tile x y) tile.texels))
row_samples tile x y n is row =
    let m : ℕ = n * tile.channels in
    let from : ℕ = place_in tile x y in
    let ends = row_ends tile x y n is row in
    record {
      count = omega (arith, length-take m (drop from tile.texels), length-drop from tile.texels);
      each = λ i c i_in c_in.
          let within : i * tile.channels + c < tile.channels * n = mul-add-lt i tile.channels c n i_in c_in in
          let turned : tile.channels * n ≡ n * tile.channels = mul_comm tile.channels n in
          let at : ℕ = i * tile.channels + c in
          let on = place_on tile x y i row.left in
          get_or-take m (drop from tile.texels) at 0 (omega arith)
          ∙ get_or-drop from tile.texels at 0
          ∙ ap (λ k. get_or tile.texels k 0) (omega arith);
    }

-- ---- the same of the samples that a tile keeps, by its parts

module _ (parts tile : CachedTile) (view : parts ≡ tile) (is : IsTile tile) (x y n place : ℕ)
    (from : place ≡ place_in tile x y) (row : HoldsRow tile x y n) where
  pub part_ends : place + n * parts.channels ≤ length parts.texels
  part_ends =
      let same : parts.texels ≡ tile.texels = ap (λ t. t.texels) view in
      let wide : parts.channels ≡ tile.channels = ap (λ t. t.channels) view in
      rw (from, same, wide) (row_ends tile x y n is row)

  pub part_samples : (samples : List ℕ)
      → samples ≡ take (n * parts.channels) (drop place parts.texels)
      → AreSamples tile x y n samples
  part_samples samples part =
      let same : parts.texels ≡ tile.texels = ap (λ t. t.texels) view in
      let wide : parts.channels ≡ tile.channels = ap (λ t. t.channels) view in
      rw (part, same, wide, from) (row_samples tile x y n is row)

-- a sample of a texel of the tile comes before the end
pub sample_within : (tile : CachedTile) (x y c : ℕ) → IsTile tile → HoldsTexel tile.rect x y
    → c < tile.channels → place_in tile x y + c < length tile.texels
sample_within tile x y c is inside channel =
    let right = inside.right in
    let row : HoldsRow tile x y 1 = record {
      left = inside.left;
      right = omega arith;
      top = inside.top;
      bottom = inside.bottom;
    } in
    omega (arith, row_ends tile x y 1 is row)

module _ (files : Files) (tile : CachedTile) (is : IsTile tile) (told : IsTold files tile) where
  sample_of : (x y c : ℕ) → HoldsTexel tile.rect x y → c < tile.channels → (bytes : List ℕ)
      → IsOfBytes bytes tile → IsSampleOf bytes tile.key x y c (kept_sample tile x y c)
  sample_of x y c inside channel bytes h =
      let left = inside.left in
      let right = inside.right in
      let top = inside.top in
      let bottom = inside.bottom in
      let across : tile.rect.x + (x - tile.rect.x) ≡ x = omega arith in
      let down : tile.rect.y + (y - tile.rect.y) ≡ y = omega arith in
      let same = h.texels.each (x - tile.rect.x) (y - tile.rect.y) c (omega arith) (omega arith) channel in
      record {
        value = rw (across, down) at same;
        low = All-get_or (λ sample. sample ≤ greatest_sample (bit_depth_of bytes)) tile.texels
            (place_in tile x y + c) 0 (sample_within tile x y c is inside channel) h.low;
      }

  sample_held : (x y c : ℕ) → HoldsTexel tile.rect x y → c < tile.channels
      → (held : Option (List ℕ)) → IsSomeAnd held (λ bytes. IsOfBytes bytes tile)
      → IsSomeAnd held (λ bytes. IsSampleOf bytes tile.key x y c (kept_sample tile x y c))
  sample_held x y c inside channel None h = h
  sample_held x y c inside channel (Some bytes) h = sample_of x y c inside channel bytes h

  -- a sample of the tile is that of the level
  pub told_sample : (x y c : ℕ) → HoldsTexel tile.rect x y → c < tile.channels
      → IsToldSample files tile x y c (kept_sample tile x y c)
  told_sample x y c inside channel = λ tells.
      sample_held x y c inside channel (files.held (file_of tile.key) (generation_of tile.key))
      (told tells)

  samples_held : (x y n : ℕ) (samples : List ℕ) → HoldsRow tile x y n → AreSamples tile x y n samples
      → (held : Option (List ℕ)) → IsSomeAnd held (λ bytes. IsOfBytes bytes tile)
      → IsSomeAnd held (λ bytes. (i c : ℕ) → i < n → c < tile.channels
      → IsSampleOf bytes tile.key (x + i) y c (get_or samples (i * tile.channels + c) 0))
  samples_held x y n samples row are None h = h
  samples_held x y n samples row are (Some bytes) h = λ i c i_in c_in.
      let left = row.left in
      let right = row.right in
      let inside : HoldsTexel tile.rect (x + i) y = record {
        left = omega arith;
        right = omega arith;
        top = row.top;
        bottom = row.bottom;
      } in
      rw (are.each i c i_in c_in) (sample_of (x + i) y c inside c_in bytes h)

  -- the samples of a row are those of the level
  pub told_samples : (x y n : ℕ) (samples : List ℕ) → HoldsRow tile x y n
      → AreSamples tile x y n samples → AreToldSamples files tile x y n samples
  told_samples x y n samples row are = λ tells.
      samples_held x y n samples row are (files.held (file_of tile.key) (generation_of tile.key))
      (told tells)
