-- A number depends on its bytes alone.
use Rattle.std.proofs.Common.{◌≡◌, ℕ, zero, suc, ◌+◌, ◌<◌, ◌≤◌, Bool, true, false, List, length}
use Rattle.std.proofs.Common.{get_or, drop, refl, arith, add_assoc, zero-add, take, ◌-◌}
use Rattle.std.proofs.lemmas.List.{get_or-drop, get_or-take, length-take, length-drop}
use Rattle.std.proofs.lemmas.Slice.{between_to_end}
use native.Mathlib.Numerals.{unary_clauses}
use Rattle.byteorder.specs.Endian.{big_from, little_from}
use Rattle.tiff_format.specs.Bytes.{number_at, IsPartAt}

shifted : (i j k : ℕ) (xs ys : List ℕ) → get_or xs (i + suc k) 0 ≡ get_or ys (j + suc k) 0
    → get_or xs (suc i + k) 0 ≡ get_or ys (suc j + k) 0
shifted i j k xs ys h =
    let e : suc i + k ≡ i + suc k = omega arith in
    let f : suc j + k ≡ j + suc k = omega arith in
    rw (e, f) h

little_same : (n i j : ℕ) (xs ys : List ℕ)
    → ((k : ℕ) → k < n → get_or xs (i + k) 0 ≡ get_or ys (j + k) 0)
    → little_from i n xs ≡ little_from j n ys
little_same zero i j xs ys h = refl
little_same (suc n) i j xs ys h =
    let first : get_or xs i 0 ≡ get_or ys j 0 = simp unary_clauses at (h 0 (omega arith)) in
    let rest = little_same n (suc i) (suc j) xs ys
    (λ k lt. shifted i j k xs ys (h (suc k) (omega arith))) in
    rw (first, rest) refl

big_same : (n i j : ℕ) (xs ys : List ℕ)
    → ((k : ℕ) → k < n → get_or xs (i + k) 0 ≡ get_or ys (j + k) 0)
    → big_from i n xs ≡ big_from j n ys
big_same zero i j xs ys h = refl
big_same (suc n) i j xs ys h =
    let first : get_or xs i 0 ≡ get_or ys j 0 = simp unary_clauses at (h 0 (omega arith)) in
    let rest = big_same n (suc i) (suc j) xs ys
    (λ k lt. shifted i j k xs ys (h (suc k) (omega arith))) in
    rw (first, rest) refl

-- equal bytes at two places spell equal numbers
pub number_same : (big : Bool) (n i j : ℕ) (xs ys : List ℕ)
    → ((k : ℕ) → k < n → get_or xs (i + k) 0 ≡ get_or ys (j + k) 0)
    → number_at big n xs i ≡ number_at big n ys j
unfolding number_at
number_same true n i j xs ys h = big_same n i j xs ys h
number_same false n i j xs ys h = little_same n i j xs ys h

-- what is left from a place on begins with the number there
number_behind : (big : Bool) (n at : ℕ) (xs : List ℕ)
    → number_at big n (take (length xs - at) (drop at xs)) 0 ≡ number_at big n xs at
number_behind big n at xs =
    let rest : take (length xs - at) (drop at xs) ≡ drop at xs =
    between_to_end xs at (length xs) (omega arith) in
    rw rest (number_same big n 0 at (drop at xs) xs (λ k lt. rw zero-add (get_or-drop at xs k 0)))

pub little_behind : (n at : ℕ) (xs : List ℕ)
    → little_from 0 n (take (length xs - at) (drop at xs)) ≡ number_at false n xs at
unfolding number_at
little_behind n at xs = number_behind false n at xs

pub big_behind : (n at : ℕ) (xs : List ℕ)
    → big_from 0 n (take (length xs - at) (drop at xs)) ≡ number_at true n xs at
unfolding number_at
big_behind n at xs = number_behind true n at xs

-- a number in a part of a file is the number there in the file
pub number_of_part : (big : Bool) (n i at : ℕ) (bytes part : List ℕ) → IsPartAt bytes at part
    → i + n ≤ length part
    → number_at big n part i ≡ number_at big n bytes (at + i)
number_of_part big n i at bytes part h le =
    number_same big n i (at + i) part bytes
    (λ k lt. rw (add_assoc at i k) (h (i + k) (omega arith)))

-- a part of a part is a part
pub part_of_part : (bytes : List ℕ) (place : ℕ) (block : List ℕ) (at n : ℕ)
    → IsPartAt bytes place block
    → IsPartAt bytes (place + at) (take n (drop at block))
part_of_part bytes place block at n h k lt =
    let short : k < n = omega (arith, length-take {A = ℕ}) in
    let long : k < length (drop at block) = omega (arith, length-take {A = ℕ}) in
    let within : at + k < length block = omega (arith, length-drop {A = ℕ}) in
    let e : place + at + k ≡ place + (at + k) = omega arith in
    rw (get_or-take n (drop at block) k 0 short, get_or-drop at block k 0, e) (h (at + k) within)
