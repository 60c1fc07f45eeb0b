-- The image made of the levels of a file.
use Rattle.std.specs.Prelude.{◌==◌, ◌&&◌}
use Rattle.std.proofs.Common.{◌≡◌, ℕ, zero, suc, ◌+◌, ◌-◌, ◌*◌, ◌^◌, ◌<◌, ◌≤◌, Bool, true, false, List}
use Rattle.std.proofs.Common.{length, find, Option, Some, refl, sym, ap, ◌∙◌, subst, arith, inl, inr, add-one}
use Rattle.std.specs.List.{range_with_len}
use Rattle.std.specs.Option.{option_map_or}
use Rattle.std.proofs.lemmas.Bool.{cases_lt, ne_eqb, and_left, and_right}
use Rattle.std.proofs.Math.Nat.{one-le-pow, pow-suc, mul-le-mul}
use Rattle.tiff_format.specs.Facts.{IsChain}
use Rattle.tiff_format.specs.Level.{halved, max_levels}
use Rattle.tiff_format.specs.Texel.{greatest_sample}
use Rattle.tile_layout.specs.Kept.{Kept, kept_of, level_in}
use Rattle.tile_layout.specs.Level.{width_in, height_in, levels_down}
use Rattle.tex_make.specs.PlainLevel.{PlainLevel, AreLevels, level_at, picture_in, sample_in}
use Rattle.tex_make.specs.Picture.{IsPicture, AreAlike, picture_of}
use Rattle.tex_make.specs.Stored.{HasShape, AreLevelsOf, AreTexelsOf, EndsSingle}
use Rattle.tex_make.proofs.Chains.{half_width, half_height}
use Rattle.tex_make.proofs.HalfLevel.{sample_low}

-- ---- how many levels there are

-- the first number that passes a test
find_first : (p : ℕ → Bool) (a n k : ℕ) → k < n → ((j : ℕ) → j < k → p (a + j) ≡ false)
    → p (a + k) ≡ true → find p (range_with_len a n) ≡ Some (a + k)
find_first p a zero k below before at = absurd (omega (arith, below))
find_first p a (suc n) zero below before at =
    let same : a + 0 ≡ a = omega arith in
    let here : p a ≡ true = ap p (sym same) ∙ at in
    rw (here, same) refl
find_first p a (suc n) (suc k) below before at =
    let same : a + 0 ≡ a = omega arith in
    let here : p a ≡ false = ap p (sym same) ∙ before 0 (omega arith) in
    let more : a + 1 + k ≡ a + suc k = omega arith in
    let rest = find_first p (a + 1) n k (omega (arith, below))
    (λ j low. let next : a + 1 + j ≡ a + suc j = omega arith in
    ap p next ∙ before (suc j) (omega (arith, low))) (ap p more ∙ at) in
    rw (here, rest, more) refl

-- a side that halves is 1 at the latest after 17 halvings
side_falls : (f : ℕ → ℕ) → f 0 ≤ 2 ^ 17 → ((l : ℕ) → f (suc l) ≡ halved (f l))
    → (l : ℕ) → l ≤ 17 → f l ≤ 2 ^ (17 - l)
side_falls f first half zero low = first
side_falls f first half (suc l) low =
    let before = side_falls f first half l (omega arith) in
    let steps : 17 - l ≡ suc (17 - suc l) = omega arith in
    let twice : 2 ^ (17 - l) ≡ 2 ^ (17 - suc l) * 2 = ap (λ (k : ℕ). 2 ^ k) steps ∙ pow-suc 2 (17 - suc l) in
    let some : 1 ≤ 2 ^ (17 - suc l) = one-le-pow (17 - suc l) 2 (omega arith) in
    omega (arith, before, twice, some, half l)

module _ (file : Kept) (chain : IsChain file.levels) (levels : List PlainLevel)
    (are : AreLevelsOf file levels) (last : ℕ) (ends : EndsSingle levels last) (rgb : Bool) where
  abbrev shape : (l : ℕ) → l < length levels → HasShape file l (level_at levels l)
  shape l below = are.shapes l below

  low_first : 0 < length levels
  low_first = let some = are.some in omega arith

  width_first : width_in file 0 ≤ 2 ^ 17
  width_first = let s = shape 0 low_first in
      let high = s.known.wide.high in omega (arith, high, s.width)

  height_first : height_in file 0 ≤ 2 ^ 17
  height_first = let s = shape 0 low_first in
      let high = s.known.high.high in omega (arith, high, s.height)

  pub few_levels : length levels ≤ 18
  few_levels = elim (cases_lt 18 (length levels)) [
    | inr few ↦ few
    | inl many ↦
        let wide : width_in file 17 ≤ 1 =
        side_falls (width_in file) width_first (half_width file chain) 17 (omega arith) in
        let high : height_in file 17 ≤ 1 =
        side_falls (height_in file) height_first (half_height file chain) 17 (omega arith) in
        let one : width_in file 17 * height_in file 17 ≤ 1 * 1 = mul-le-mul wide high in
        let more = are.before 17 (omega (arith, many)) in
        absurd (omega (arith, one, more))
  ]

  below_last : last < length levels
  below_last = let all = ends.all in omega arith

  single : (width_in file last ≡ 1) × (height_in file last ≡ 1)
  single = (sym (shape last below_last).width ∙ ends.width, sym (shape last below_last).height ∙ ends.height)

  -- the levels are those down to one texel
  pub down_is : levels_down file ≡ length levels
  unfolding levels_down
  down_is =
      let test : ℕ → Bool = λ l. (width_in file l == 1) && (height_in file l == 1) in
      let all = ends.all in
      let few = few_levels in
      let found : find test (range_with_len 0 max_levels) ≡ Some (0 + last) =
      find_first test 0 max_levels last (omega (arith, few, all))
      (λ j low. other j (are.before j (omega (arith, low, all)))) (here last single.0 single.1) in
      let same : suc (0 + last) ≡ length levels = omega (arith, all) in
      ap (λ (o : Option ℕ). option_map_or suc o 0) found ∙ same
    where
      here : (l : ℕ) → width_in file l ≡ 1 → height_in file l ≡ 1
          → ((width_in file (0 + l) == 1) && (height_in file (0 + l) == 1)) ≡ true
      here l wide high =
          let same : 0 + l ≡ l = omega arith in
          rw (same, wide, high) refl

      other : (l : ℕ) → 2 ≤ width_in file l * height_in file l
          → ((width_in file (0 + l) == 1) && (height_in file (0 + l) == 1)) ≡ false
      other l more =
          let same : 0 + l ≡ l = omega arith in
          rw same (by_sides (width_in file l) (height_in file l) more)
        where
          by_sides : (w h : ℕ) → 2 ≤ w * h → ((w == 1) && (h == 1)) ≡ false
          by_sides zero h more = absurd (omega (arith, more))
          by_sides (suc zero) zero more = absurd (omega (arith, more))
          by_sides (suc zero) (suc zero) more = absurd (omega (arith, more))
          by_sides (suc zero) (suc (suc h)) more = and_right (suc zero == 1) (suc (suc h) == 1)
              (ne_eqb (suc (suc h)) 1 (λ e. omega (arith, e)))
          by_sides (suc (suc w)) h more = and_left (suc (suc w) == 1) (h == 1)
              (ne_eqb (suc (suc w)) 1 (λ e. omega (arith, e)))

  -- ---- the image

  pub are_levels : AreLevels levels
  are_levels = record {
    each = λ l below. (shape l below).known;
    channels = λ l below. (shape l below).channels ∙ sym (shape 0 low_first).channels;
    depth = λ l below. (shape l below).depth ∙ sym (shape 0 low_first).depth;
  }

  pub is_picture : IsPicture (picture_in levels rgb)
  is_picture = record {
    some = are.some;
    few = few_levels;
    width = λ l below. (shape l below).known.wide;
    height = λ l below. (shape l below).known.high;
    half_width = λ l below.
        (shape (l + 1) below).width ∙ ap (width_in file) (add-one l) ∙ half_width file chain l
        ∙ ap halved (sym (shape l (omega (arith, below))).width);
    half_height = λ l below.
        (shape (l + 1) below).height ∙ ap (height_in file) (add-one l) ∙ half_height file chain l
        ∙ ap halved (sym (shape l (omega (arith, below))).height);
    last_width = ap (λ (k : ℕ). (level_at levels k).width) last_is ∙ ends.width;
    last_height = ap (λ (k : ℕ). (level_at levels k).height) last_is ∙ ends.height;
    before = λ l below. subst (λ (k : ℕ). 2 ≤ k) (product l (omega (arith, below)))
        (are.before l below);
    channels = (shape 0 low_first).known.some;
    depth = (shape 0 low_first).known.bits;
    low = λ l x y c below across down channel.
        subst (λ (d : ℕ). sample_in (level_at levels l) x y c ≤ greatest_sample d)
        (are_levels.depth l below)
        (sample_low (level_at levels l) (shape l below).known x y c across down
        (omega (arith, channel, are_levels.channels l below)));
  }
    where
      last_is : length levels - 1 ≡ last
      last_is = let all = ends.all in omega arith

      product : (l : ℕ) → l < length levels → width_in file l * height_in file l
          ≡ (level_at levels l).width * (level_at levels l).height
      product l below =
          ap (λ (w : ℕ). w * height_in file l) (sym (shape l below).width)
          ∙ ap (λ (h : ℕ). (level_at levels l).width * h) (sym (shape l below).height)

-- ---- the image in a file's bytes

pub alike_bytes : (bytes : List ℕ) (levels : List PlainLevel) → IsChain (kept_of bytes).levels
    → AreLevelsOf (kept_of bytes) levels → (last : ℕ) → EndsSingle levels last
    → AreTexelsOf (kept_of bytes) bytes levels → (rgb : Bool)
    → rgb ≡ (level_in (kept_of bytes) 0).shape.rgb
    → AreAlike (picture_in levels rgb) (picture_of bytes)
alike_bytes bytes levels chain are last ends texels rgb same = record {
  levels = sym (down_is (kept_of bytes) chain levels are last ends rgb);
  width = λ l below. (are.shapes l below).width;
  height = λ l below. (are.shapes l below).height;
  channels = (are.shapes 0 (let some = are.some in omega arith)).channels;
  depth = (are.shapes 0 (let some = are.some in omega arith)).depth;
  rgb = same;
  samples = λ l x y c below across down channel.
      texels l below x y c across down
      (omega (
        arith,
        channel,
        (are.shapes l below).channels,
        (are.shapes 0 (let some = are.some in omega arith)).channels,
      ));
}
