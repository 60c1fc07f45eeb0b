-- The weights of a line, as they are written from the middle out.
use Rattle.std.proofs.Common.{◌≡◌, ◌≢◌, ℕ, ◌+◌, ◌-◌, ◌*◌, ◌<◌, ◌≤◌, List, length, get_or, inl, inr, arith}
use Rattle.std.proofs.Common.{set, get_or-set_other, get_or-set_same, ◌∙◌, map, sym, refl, zero, suc}
use Rattle.std.proofs.Common.{Bool, true, false, [], ◌∷◌}
use Rattle.std.proofs.lemmas.List.{length-map}
use Rattle.std.proofs.lemmas.Bool.{le-leb, lt-leb, cases_lt}
use Rattle.std.proofs.lemmas.List.{ext_get_or, length-set}
use Rattle.std.proofs.lemmas.List.FromFn.{get_or-map-range_with_len, length-range_with_len}
use Rattle.std.specs.List.{range_with_len}
use Rattle.tex_aniso.specs.Bell.{bell_weight}
use Rattle.tex_aniso.specs.Ellipse.{apart_by, side_weight, weights_by, first_weight}

-- weight x at the two places that lie j from place n
pub placed_here : (ws : List ℕ) (n j x i : ℕ) → length ws ≡ 32 → n ≤ 15 → j ≤ n
    → apart_by i n ≡ j → get_or (set (set ws (n - j) x) (n + j) x) i 0 ≡ x
placed_here ws n j x i long few within is =
    elim (cases_lt i n) [
      | inl less ↦
          (let e : n - j ≡ i = omega arith in
          let other : i ≢ n + j = omega arith in
          let lt : i < length ws = omega arith in
          rw (get_or-set_other, e, get_or-set_same))
      | inr past ↦
          (let e : n + j ≡ i = omega arith in
          let lt : i < length (set ws (n - j) x) = omega (arith, length-set ws (n - j) x) in
          rw (e, get_or-set_same))
    ]

pub placed_else : (ws : List ℕ) (n j x i : ℕ) → j ≤ n → apart_by i n ≢ j
    → get_or (set (set ws (n - j) x) (n + j) x) i 0 ≡ get_or ws i 0
placed_else ws n j x i within not =
    let first : i ≢ n + j = omega arith in
    let second : i ≢ n - j = omega arith in
    rw (get_or-set_other, get_or-set_other)

-- numbers are a list of the values of a function
are_listed : (n : ℕ) (ws : List ℕ) (weight : ℕ → ℕ) → length ws ≡ n
    → ((i : ℕ) → i < n → get_or ws i 0 ≡ weight i) → ws ≡ map weight (range_with_len 0 n)
are_listed n ws weight long at =
    let as_long : length ws ≡ length (map weight (range_with_len 0 n)) =
    simp (length-map, length-range_with_len) long in
    ext_get_or 0 ws (map weight (range_with_len 0 n)) as_long
    (λ i below.
    let within : i < n = omega (arith, long, below) in
    at i within ∙ sym (get_or-map-range_with_len weight 0 n i i 0 within (omega arith)))

-- 32 numbers are such weights
pub are_weights : (ws : List ℕ) (weight : ℕ → ℕ) → length ws ≡ 32
    → ((i : ℕ) → i < 32 → get_or ws i 0 ≡ weight i) → ws ≡ weights_by weight
unfolding weights_by
are_weights ws weight long at = are_listed 32 ws weight long at

pub weights_at : (weight : ℕ → ℕ) (i : ℕ) → i < 32 → get_or (weights_by weight) i 0 ≡ weight i
unfolding weights_by
weights_at weight i below =
    get_or-map-range_with_len weight 0 32 i i 0 below (omega arith)

-- ---- no weight at first

abbrev is_zero : List ℕ → Bool
is_zero [] = true
is_zero (zero ∷ xs) = is_zero xs
is_zero (suc x ∷ xs) = false

zeros : (xs : List ℕ) → is_zero xs ≡ true → (i : ℕ) → get_or xs i 0 ≡ 0
zeros [] is i = refl
zeros (zero ∷ xs) is zero = refl
zeros (zero ∷ xs) is (suc i) = zeros xs is i
zeros (suc x ∷ xs) is i = absurd (cc)

abbrev none_of_32 : List ℕ
none_of_32 =
    0 ∷ 0 ∷ 0 ∷ 0 ∷ 0 ∷ 0 ∷ 0 ∷ 0 ∷ 0 ∷ 0 ∷ 0 ∷ 0 ∷ 0 ∷ 0 ∷ 0 ∷ 0 ∷
    0 ∷ 0 ∷ 0 ∷ 0 ∷ 0 ∷ 0 ∷ 0 ∷ 0 ∷ 0 ∷ 0 ∷ 0 ∷ 0 ∷ 0 ∷ 0 ∷ 0 ∷ 0 ∷ []

pub no_weights : (i : ℕ) → get_or none_of_32 i 0 ≡ 0
no_weights i = zeros none_of_32 refl i

-- the first alone has a weight
abbrev first_of_32 : List ℕ
first_of_32 =
    1 ∷ 0 ∷ 0 ∷ 0 ∷ 0 ∷ 0 ∷ 0 ∷ 0 ∷ 0 ∷ 0 ∷ 0 ∷ 0 ∷ 0 ∷ 0 ∷ 0 ∷ 0 ∷
    0 ∷ 0 ∷ 0 ∷ 0 ∷ 0 ∷ 0 ∷ 0 ∷ 0 ∷ 0 ∷ 0 ∷ 0 ∷ 0 ∷ 0 ∷ 0 ∷ 0 ∷ 0 ∷ []

first_at : (i : ℕ) → get_or first_of_32 i 0 ≡ first_weight i
first_at zero = refl
first_at (suc i) =
    zeros
    (0 ∷ 0 ∷ 0 ∷ 0 ∷ 0 ∷ 0 ∷ 0 ∷ 0 ∷ 0 ∷ 0 ∷ 0 ∷ 0 ∷ 0 ∷ 0 ∷ 0 ∷
    0 ∷ 0 ∷ 0 ∷ 0 ∷ 0 ∷ 0 ∷ 0 ∷ 0 ∷ 0 ∷ 0 ∷ 0 ∷ 0 ∷ 0 ∷ 0 ∷ 0 ∷ 0 ∷ [])
    refl i

pub first_listed : first_of_32 ≡ weights_by first_weight
first_listed = are_weights first_of_32 first_weight refl (λ i below. first_at i)

-- ---- within the line and behind it

-- a weight within the line, and behind it
pub weight_within : (reach n i : ℕ) → i ≤ 2 * n
    → bell_weight reach (apart_by i n) ≡ side_weight reach n i
weight_within reach n i within = rw (le-leb i (2 * n) within)

pub weight_behind : (reach n i : ℕ) → 2 * n < i → 0 ≡ side_weight reach n i
weight_behind reach n i behind = rw (lt-leb i (2 * n) behind)
