-- How many binary digits has a number, and which is its greatest root?
use Rattle.std.specs.Prelude.{ℕ, zero, suc, ◌*◌, ◌^◌, nat_le, if◌then◌else◌, ℤ, pos, negsuc}

-- the number of binary digits of m, or k where it has more
unfoldable pub digits_upto : ℕ → ℕ → ℕ
digits_upto zero m = 0
digits_upto (suc k) m = if nat_le (2 ^ k) m then suc k else digits_upto k m

-- the number of binary digits of m, 0 of 0; m itself bounds the search, since m is below 2 ^ m
abbrev pub digits : ℕ → ℕ
digits m = digits_upto m m

-- how far z lies from 0, or from -1 where it is negative: z is -2 ^ k or more, and below 2 ^ k, if
-- and only if this is below 2 ^ k
abbrev pub magnitude : ℤ → ℕ
magnitude (pos a) = a
magnitude (negsuc a) = a

-- the greatest number up to k whose square is no greater than m
unfoldable pub root_upto : ℕ → ℕ → ℕ
root_upto zero m = 0
root_upto (suc k) m = if nat_le (suc k * suc k) m then suc k else root_upto k m

-- the square root, rounded down
abbrev pub root : ℕ → ℕ
root m = root_upto m m
