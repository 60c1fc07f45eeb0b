-- A plane of a level, taken alone as a level.
use Rattle.std.proofs.Common.{◌≡◌, ℕ, ◌+◌, ◌*◌, ◌<◌, Bool, true, false, eqb, List, drop, get_or}
use Rattle.std.proofs.Common.{Option, Some, None, refl, ap, sym, subst, ◌∙◌, ◌⊎◌, inl, inr, arith}
use Rattle.std.proofs.Common.{zero-add}
use Rattle.std.specs.Prelude.{◌&&◌, if◌then◌else◌}
use Rattle.std.proofs.lemmas.Bool.{eqb-true}
use Rattle.std.proofs.lemmas.List.{get_or-drop}
use Rattle.std.proofs.Math.Nat.{mul-add-mod_self_right}
use Rattle.std.proofs.lemmas.Nat.{mul-add-lt}
use Rattle.tiff_format.specs.Bytes.{number_at}
use Rattle.tiff_format.specs.declared.rect.Rect.{Rect}
use Rattle.tiff_format.specs.Block.{LevelShape, Level, plane_blocks, blocks_of, block_bytes, block_texels_by}
use Rattle.tiff_format.specs.Block.{sample_bytes, samples_aside, texel_bytes}
use Rattle.tiff_format.specs.Texel.{block_index, texels_before, sample_place, sample_in, unwhite}
use Rattle.tile_layout.specs.Blocks.{HoldsBlocks}
use Rattle.tile_layout.specs.WholeRows.{HasWholeRows}
use Rattle.tile_layout.specs.Plane.{plane_shape, plane_level}

module _ (level : Level) (p : ℕ) where
  abbrev blocks : ℕ
  blocks = plane_blocks level.shape

  -- offset i of the plane belongs to block i after the blocks of the planes before it
  pub plane_offset : (i : ℕ) → get_or (plane_level level p).offsets i 0
      ≡ get_or level.offsets (p * blocks + i) 0
  plane_offset i = get_or-drop (p * blocks) level.offsets i 0

  -- ---- its blocks

  same_texels : (tile : Option (ℕ × ℕ)) (i : ℕ) → tile ≡ level.shape.tile
      → block_texels_by (plane_shape level.shape p) tile i
      ≡ block_texels_by level.shape tile (p * blocks + i)
  same_texels None i is = rw (← is, mul-add-mod_self_right) refl
  same_texels (Some tile) i is = refl

  -- a block of the plane has the bytes that it has in the level
  pub plane_block : (i : ℕ) → block_bytes (plane_shape level.shape p) i
      ≡ block_bytes level.shape (p * blocks + i)
  plane_block i = ap (λ n. n * texel_bytes level.shape) (same_texels level.shape.tile i refl)

  -- each block of the plane is one of the level
  pub block_there : (i : ℕ) → p < level.shape.planes → i < blocks
      → p * blocks + i < blocks_of level.shape
  block_there i is below = omega (arith, mul-add-lt p blocks i level.shape.planes is below)

  -- the plane's blocks lie in every file that contains the blocks of the level
  pub plane_held : (bytes : List ℕ) → p < level.shape.planes → HoldsBlocks bytes level
      → HoldsBlocks bytes (plane_level level p)
  plane_held bytes is holds = λ i below.
      let lt : i < blocks = omega (arith, below) in
      rw (plane_offset i, plane_block i) (holds (p * blocks + i) (block_there i is lt))

-- whole rows of a plane are whole rows of the level
pub each_of : (shape : LevelShape) (p : ℕ) (rect : Rect) → HasWholeRows shape rect
    → HasWholeRows (plane_shape shape p) rect
each_of shape p rect each = record { left = each.left; width = each.width }

-- ---- its samples

-- the blocks of the first plane come first
none_before : (level : Level) (x y : ℕ)
    → 0 * plane_blocks level.shape + block_index level.shape x y ≡ block_index level.shape x y
none_before level x y = omega arith

-- a sample's place in a level with one plane
first_place : (level : Level) (x y c : ℕ) → eqb level.shape.planes 1 ≡ true
    → sample_place (plane_level level 0) x y c ≡ sample_place level x y c
unfolding sample_place
first_place level x y c is =
    let block = block_index level.shape x y in
    rw is (ap (λ (n : ℕ). n + (texels_before level.shape x y * level.shape.channels + c)
    * sample_bytes level.shape.depth)
    (ap (λ (m : ℕ). get_or (plane_level level 0).offsets m 0) (none_before level x y)
    ∙ plane_offset level 0 block))

-- a sample's place in a level with several planes, each with one channel
later_place : (level : Level) (p x y : ℕ) → eqb level.shape.planes 1 ≡ false
    → sample_place (plane_level level p) x y 0 ≡ sample_place level x y p
unfolding sample_place
later_place level p x y is =
    let block = block_index level.shape x y in
    rw is (ap (λ (n : ℕ). n + (texels_before level.shape x y * 1 + 0)
    * sample_bytes level.shape.depth)
    (ap (λ (m : ℕ). get_or (plane_level level p).offsets m 0) (none_before level x y)
    ∙ plane_offset level p block))

place_by : (one : Bool) (level : Level) (p x y c : ℕ) → eqb level.shape.planes 1 ≡ one
    → p < level.shape.planes → c < (if one then level.shape.channels else 1)
    → sample_place (plane_level level p) x y c ≡ sample_place level x y (p + c)
place_by true level p x y c is there some =
    let zero : 0 ≡ p = omega (arith, eqb-true level.shape.planes 1 is) in
    subst
    (λ (q : ℕ). sample_place (plane_level level q) x y c ≡ sample_place level x y (q + c)) zero
    (first_place level x y c is
    ∙ ap (λ (n : ℕ). sample_place level x y n) (sym (zero-add c)))
place_by false level p x y c is there some =
    let zero : 0 ≡ c = omega arith in
    let own : p ≡ p + 0 = omega arith in
    subst
    (λ (d : ℕ). sample_place (plane_level level p) x y d ≡ sample_place level x y (p + d)) zero
    (later_place level p x y is ∙ ap (λ (n : ℕ). sample_place level x y n) own)

-- the plane's samples are where those of its channels are
pub plane_place : (level : Level) (p x y c : ℕ) → p < level.shape.planes
    → c < samples_aside level.shape
    → sample_place (plane_level level p) x y c ≡ sample_place level x y (p + c)
plane_place level p x y c there some =
    place_by (eqb level.shape.planes 1) level p x y c refl there some

and_true : (b : Bool) → (b && true) ≡ b
and_true true = refl
and_true false = refl

-- channel 0 is that of the first plane
white_by : (white : Bool) (p c : ℕ) → (p ≡ 0) ⊎ (c ≡ 0)
    → ((white && eqb p 0) && eqb c 0) ≡ (white && eqb (p + c) 0)
white_by false p c either = refl
white_by true p c (inl zero) =
    subst (λ (q : ℕ). (eqb q 0 && eqb c 0) ≡ eqb (q + c) 0) (sym zero)
    (ap (λ (n : ℕ). eqb n 0) (sym (zero-add c)))
white_by true p c (inr zero) =
    let own : p ≡ p + 0 = omega arith in
    subst (λ (d : ℕ). (eqb p 0 && eqb d 0) ≡ eqb (p + d) 0) (sym zero)
    (and_true (eqb p 0) ∙ ap (λ (n : ℕ). eqb n 0) own)

either_by : (one : Bool) (planes channels p c : ℕ) → eqb planes 1 ≡ one → p < planes
    → c < (if one then channels else 1) → (p ≡ 0) ⊎ (c ≡ 0)
either_by true planes channels p c is there some = inl (omega (arith, eqb-true planes 1 is))
either_by false planes channels p c is there some = inr (omega arith)

-- the plane's samples are those of its channels
pub plane_sample : (big : Bool) (bytes : List ℕ) (level : Level) (p x y c : ℕ)
    → p < level.shape.planes → c < samples_aside level.shape
    → sample_in big bytes (plane_level level p) x y c ≡ sample_in big bytes level x y (p + c)
unfolding sample_in
plane_sample big bytes level p x y c there some =
    let shape = level.shape in
    let stored : ℕ → ℕ = λ at. number_at big (sample_bytes shape.depth) bytes at in
    ap (λ (at : ℕ). unwhite ((shape.white && eqb p 0) && eqb c 0) shape.depth (stored at))
    (plane_place level p x y c there some)
    ∙ ap (λ (w : Bool). unwhite w shape.depth (stored (sample_place level x y (p + c))))
    (white_by shape.white p c
    (either_by (eqb shape.planes 1) shape.planes shape.channels p c refl there some))
