-- Numbers looked through one by one: the first that passes a test, and the first fault.
use Rattle.std.proofs.Common.{◌≡◌, ℕ, zero, suc, ◌+◌, ◌<◌, Bool, true, false, map, Option, None}
use Rattle.std.proofs.Common.{Some, refl, arith}
use Rattle.std.specs.List.{find, range_with_len}
use Rattle.std.specs.Option.{option_or}
use Rattle.tiff_format.specs.declared.fault.TiffFault.{TiffFault}
use Rattle.tiff_format.specs.DirectoryFault.{first_of}

-- the first number passes
pub find_here : (p : ℕ → Bool) (i n : ℕ) → 0 < n → p i ≡ true → find p (range_with_len i n) ≡ Some i
find_here p i zero l t = absurd (omega (arith, l))
find_here p i (suc n) l t = rw t refl

-- if the first number fails the test, the search goes on
pub find_on : (p : ℕ → Bool) (i n m : ℕ) → n ≡ m + 1 → p i ≡ false
    → find p (range_with_len i n) ≡ find p (range_with_len (i + 1) m)
find_on p i zero m e f = absurd (omega (arith, e))
find_on p i (suc n) m e f = let same : n ≡ m = omega (arith, e) in rw (f, same) refl

-- there are no more
pub find_end : (p : ℕ → Bool) (i n : ℕ) → n ≡ 0 → find p (range_with_len i n) ≡ None
find_end p i zero e = refl
find_end p i (suc n) e = absurd (omega (arith, e))

-- the first fault is that of the first number, or else of the others
pub first_of_more : (f : ℕ → Option TiffFault) (k n m : ℕ) → n ≡ m + 1
    → first_of (map f (range_with_len k n))
    ≡ option_or (f k) (first_of (map f (range_with_len (k + 1) m)))
first_of_more f k zero m e = absurd (omega (arith, e))
first_of_more f k (suc n) m e = let same : n ≡ m = omega (arith, e) in rw same refl
