-- Levels that halve.
use Rattle.std.proofs.Common.{◌≡◌, ℕ, suc, ◌+◌, ◌<◌, ◌≤◌, true, List, [], ◌∷◌, ◌++◌}
use Rattle.std.proofs.Common.{eqb, length, get_or, zero, refl, sym, ap, ◌∙◌, arith, inl, inr}
use Rattle.std.proofs.Common.{◌-◌, map, false}
use Rattle.std.proofs.Math.ListN.{get_or-append}
use Rattle.std.proofs.lemmas.Bool.{and_parts, eqb-true, cases_lt, eq-eqb}
use Rattle.std.proofs.lemmas.List.{get_or-append_right, length-append, get_or-map, length-map}
use Rattle.std.proofs.lemmas.List.{map-append}
use Rattle.tiff_format.specs.declared.dir.Dir.{Dir}
use Rattle.tiff_format.specs.Shown.{shown, shown_shape}
use Rattle.tiff_format.specs.Block.{LevelShape, Level}
use Rattle.tiff_format.specs.Limits.{max_side}
use Rattle.tiff_format.specs.Level.{halved, max_levels, is_single, has_half_size, has_samples_of}
use Rattle.tiff_format.specs.Facts.{IsChain}
use Rattle.tiff_dirs.specs.NextLevel.{is_half_of}

same_samples : (shape : LevelShape) → has_samples_of shape shape ≡ true
same_samples shape = rw (
  eq-eqb shape.channels shape.channels refl,
  eq-eqb shape.depth shape.depth refl,
) refl

pub chain_one : (levels : List Level) → length levels ≡ 1 → IsChain levels
chain_one levels one = record {
  some = omega arith;
  few = omega arith;
  half = λ k d lt. absurd (omega arith);
  samples = λ k d lt. let zero-is : k ≡ 0 = omega arith in
      rw zero-is (same_samples (get_or levels 0 d).shape);
  larger = λ k d lt. absurd (omega arith);
}

pub any_default : {A : Type 0} (xs : List A) (i : ℕ) (d e : A) → i < length xs
    → get_or xs i d ≡ get_or xs i e
any_default [] i d e lt = absurd (omega arith)
any_default (x ∷ xs) zero d e lt = refl
any_default (x ∷ xs) (suc i) d e lt = any_default xs i d e (omega arith)

-- a level more, half of the last one, which is more than a texel
module _ (levels : List Level) (next d0 : Level) (n : ℕ) (chain : IsChain levels)
    (long : length levels ≡ n + 1) (few : n + 1 < max_levels)
    (half : is_half_of (get_or levels 0 d0).shape (get_or levels n d0).shape next.shape ≡ true)
    (more : is_single (get_or levels n d0).shape ≡ false)
  where
    all-long : length (levels ++ next ∷ []) ≡ n + 2
    all-long = omega (arith, length-append {A = Level}, long)

    before : (k : ℕ) (d : Level) → k < n + 1 → get_or (levels ++ next ∷ []) k d ≡ get_or levels k d
    before k d lt = get_or-append levels (next ∷ []) d k (omega (arith, long))

    last : (d : Level) → get_or (levels ++ next ∷ []) (n + 1) d ≡ next
    last d = get_or-append_right levels (next ∷ []) (n + 1) (n + 1) d long (omega arith)
        ∙ (let e : n + 1 - (n + 1) ≡ 0 = omega arith in
        ap (λ (j : ℕ). get_or (next ∷ []) j d) e)

    -- the default does not matter inside
    inside : (k : ℕ) (d : Level) → k < n + 1 → get_or levels k d0 ≡ get_or levels k d
    inside k d lt = any_default levels k d0 d (omega (arith, long))

    parts : has_half_size (get_or levels n d0).shape next.shape ≡ true
        × has_samples_of (get_or levels 0 d0).shape next.shape ≡ true
    parts = and_parts (has_half_size (get_or levels n d0).shape next.shape)
        (has_samples_of (get_or levels 0 d0).shape next.shape) half

    halves : (k j : ℕ) (d : Level) → j ≡ suc k → j < n + 2
        → has_half_size (get_or (levels ++ next ∷ []) k d).shape
        (get_or (levels ++ next ∷ []) j d).shape ≡ true
    halves k j d is lt = elim (cases_lt j (n + 1)) [
      | inl below ↦
          ap (λ (l : Level). has_half_size l.shape (get_or (levels ++ next ∷ []) j d).shape)
          (before k d (omega arith))
          ∙ ap (λ (l : Level). has_half_size (get_or levels k d).shape l.shape) (before j d below)
          ∙ ap (λ (i : ℕ). has_half_size (get_or levels k d).shape (get_or levels i d).shape) is
          ∙ chain.half k d (omega (arith, long))
      | inr above ↦
          let k-is : k ≡ n = omega arith in
          let j-is : j ≡ n + 1 = omega arith in
          ap (λ (l : Level). has_half_size l.shape (get_or (levels ++ next ∷ []) j d).shape)
          (before k d (omega arith) ∙ ap (λ (i : ℕ). get_or levels i d) k-is
          ∙ sym (inside n d (omega arith)))
          ∙ ap (λ (l : Level). has_half_size (get_or levels n d0).shape l.shape)
          (ap (λ (i : ℕ). get_or (levels ++ next ∷ []) i d) j-is ∙ last d)
          ∙ parts.0
    ]

    first-is : (d : Level) → get_or (levels ++ next ∷ []) 0 d ≡ get_or levels 0 d0
    first-is d = before 0 d (omega arith) ∙ sym (inside 0 d (omega arith))

    all-samples : (k : ℕ) (d : Level) → k < n + 2
        → has_samples_of (get_or (levels ++ next ∷ []) 0 d).shape
        (get_or (levels ++ next ∷ []) k d).shape ≡ true
    all-samples k d lt = elim (cases_lt k (n + 1)) [
      | inl below ↦
          ap (λ (l : Level). has_samples_of l.shape (get_or (levels ++ next ∷ []) k d).shape)
          (before 0 d (omega arith))
          ∙ ap (λ (l : Level). has_samples_of (get_or levels 0 d).shape l.shape) (before k d below)
          ∙ chain.samples k d (omega (arith, long))
      | inr above ↦
          let k-is : k ≡ n + 1 = omega arith in
          ap (λ (l : Level). has_samples_of l.shape (get_or (levels ++ next ∷ []) k d).shape)
          (first-is d)
          ∙ ap (λ (l : Level). has_samples_of (get_or levels 0 d0).shape l.shape)
          (ap (λ (i : ℕ). get_or (levels ++ next ∷ []) i d) k-is ∙ last d)
          ∙ parts.1
    ]

    all-larger : (k : ℕ) (d : Level) → k < n + 1
        → is_single (get_or (levels ++ next ∷ []) k d).shape ≡ false
    all-larger k d lt = elim (cases_lt k n) [
      | inl below ↦
          ap (λ (l : Level). is_single l.shape) (before k d lt)
          ∙ chain.larger k d (omega (arith, long))
      | inr above ↦
          let k-is : k ≡ n = omega arith in
          ap (λ (l : Level). is_single l.shape)
          (before k d lt ∙ ap (λ (i : ℕ). get_or levels i d) k-is ∙ sym (inside n d (omega arith)))
          ∙ more
    ]

    pub chain_more : IsChain (levels ++ next ∷ [])
    chain_more = record {
      some = omega (arith, all-long);
      few = omega (arith, all-long);
      half = λ k d lt. halves k (suc k) d refl (omega (arith, all-long));
      samples = λ k d lt. all-samples k d (omega (arith, all-long));
      larger = λ k d lt. all-larger k d (omega (arith, all-long));
    }

-- one more level that was read continues the chain
pub chain_next : (dirs : List Dir) (n : ℕ) (first last next : Dir) → IsChain (map shown dirs)
    → length dirs ≡ n + 1 → n + 1 < max_levels
    → first ≡ get_or dirs 0 first → last ≡ get_or dirs n last
    → is_half_of (shown_shape first) (shown_shape last) (shown_shape next) ≡ true
    → is_single (shown_shape last) ≡ false → IsChain (map shown (dirs ++ next ∷ []))
chain_next dirs n first last next chain long few first-is last-is half more =
    let d0 = shown first in
    let all : length (map shown dirs) ≡ n + 1 = length-map dirs shown ∙ long in
    let first-there : get_or (map shown dirs) 0 d0 ≡ shown first =
    get_or-map shown dirs 0 first d0 (omega arith) ∙ ap shown (sym first-is) in
    let last-there : get_or (map shown dirs) n d0 ≡ shown last =
    get_or-map shown dirs n last d0 (omega arith) ∙ ap shown (sym last-is) in
    let there : is_half_of (get_or (map shown dirs) 0 d0).shape
    (get_or (map shown dirs) n d0).shape (shown next).shape
    ≡ true =
    ap (λ (l : Level). is_half_of l.shape (get_or (map shown dirs) n d0).shape (shown next).shape)
    first-there
    ∙ ap (λ (l : Level). is_half_of (shown_shape first) l.shape (shown next).shape) last-there
    ∙ half in
    rw (map-append shown dirs (next ∷ []))
    (chain_more (map shown dirs) (shown next) d0 n chain all few there
    (ap (λ (l : Level). is_single l.shape) last-there ∙ more))

-- ---- the last level that there can be is one texel

-- the number of the last level that there can be
abbrev pub last_number : ℕ
last_number = 17

-- the largest side of level k
side_at : ℕ → ℕ
side_at zero = max_side
side_at (suc k) = halved (side_at k)

halved-le : (a b : ℕ) → a ≤ b → halved a ≤ halved b
halved-le a b le = omega arith

record HasSides (k : ℕ) (shape : LevelShape) : Type 0 where
  pub low_width : 1 ≤ shape.width
  pub width : shape.width ≤ side_at k
  pub low_height : 1 ≤ shape.height
  pub height : shape.height ≤ side_at k

sides_step : (k : ℕ) (last next : LevelShape) → HasSides k last → has_half_size last next ≡ true
    → HasSides (suc k) next
unfolding side_at
sides_step k last next sides half =
    let p = and_parts (eqb next.width (halved last.width)) (eqb next.height (halved last.height))
    half in
    let width = eqb-true next.width (halved last.width) p.0 in
    let height = eqb-true next.height (halved last.height) p.1 in
    let wide = halved-le last.width (side_at k) sides.width in
    let high = halved-le last.height (side_at k) sides.height in
    record {
      low_width = omega arith;
      width = rw width wide;
      low_height = omega arith;
      height = rw height high;
    }

sides_all : (levels : List Level) (d : Level) → IsChain levels
    → HasSides 0 (get_or levels 0 d).shape → (k : ℕ) → k < length levels
    → HasSides k (get_or levels k d).shape
sides_all levels d chain first zero lt = first
sides_all levels d chain first (suc k) lt =
    sides_step k (get_or levels k d).shape (get_or levels (suc k) d).shape
    (sides_all levels d chain first k (omega arith)) (chain.half k d lt)

pub record IsSingle (dir : Dir) : Type 0 where
  pub width : dir.width ≡ 1
  pub height : dir.height ≡ 1

-- a chain of the greatest length ends with a single texel
pub single_last : (dirs : List Dir) (last : Dir) → IsChain (map shown dirs)
    → length dirs ≡ max_levels → last ≡ get_or dirs last_number last → IsSingle last
unfolding side_at
single_last dirs last chain long is =
    let d = shown last in
    let first = get_or dirs 0 last in
    let first-there : get_or (map shown dirs) 0 d ≡ shown first =
    get_or-map shown dirs 0 last d (omega arith) in
    let last-there : get_or (map shown dirs) last_number d ≡ shown last =
    get_or-map shown dirs last_number last d (omega arith) ∙ ap shown (sym is) in
    let first-sides : HasSides 0 (shown_shape first) = record {
      low_width = first.shape_in.width.low;
      width = first.shape_in.width.high;
      low_height = first.shape_in.height.low;
      height = first.shape_in.height.high;
    } in
    let all : length (map shown dirs) ≡ 18 = length-map dirs shown ∙ long in
    let sides = sides_all (map shown dirs) d chain (rw first-there first-sides) last_number
    (omega arith) in
    let there : HasSides last_number (shown_shape last) = rw last-there at sides in
    record { width = omega arith; height = omega arith }
