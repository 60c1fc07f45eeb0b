-- Which texel of a row or column does an index mean, also one beside it?
-- (docs/FILTERING.md, "Wraps")
use Rattle.std.specs.Prelude.{ℕ, ◌-◌, ◌/◌, ◌%◌, min, ◌==◌, nat_lt, if◌then◌else◌}
use Rattle.std.specs.Prelude.{ℤ, pos, negsuc, Option, Some, None}
use Rattle.texel_filter.specs.declared.mode.Wrap.{Wrap}
use Rattle.texel_filter.specs.declared.mode.Wrap.TheVariants.{Black, Clamp, Periodic, Mirror}

-- `negsuc a` is the number -(a + 1).

-- the index itself where it is one of the n texels, else none
abbrev pub index_inside : ℤ → ℕ → Option ℕ
index_inside (pos a) n = if nat_lt a n then Some a else None
index_inside (negsuc a) n = None

-- the index brought into 0 to n - 1
abbrev pub index_clamped : ℤ → ℕ → ℕ
index_clamped (pos a) n = min a (n - 1)
index_clamped (negsuc a) n = 0

-- the index modulo n, never negative
abbrev pub index_modulo : ℤ → ℕ → ℕ
index_modulo (pos a) n = a % n
index_modulo (negsuc a) n = n - 1 - a % n

-- how many texels the index lies from the edge of texel 0: i, or -i - 1 where i is negative
abbrev pub from_edge : ℤ → ℕ
from_edge (pos a) = a
from_edge (negsuc a) = a

-- The row is repeated, every second time from its end to its begin.
-- This is the texel at place m of it.
abbrev pub index_there_and_back : ℕ → ℕ → ℕ
index_there_and_back m n = if m / n % 2 == 0 then m % n else n - 1 - m % n

-- the texel that index i means in a row or column of n texels, or none
unfoldable pub wrapped_index : Wrap → ℤ → ℕ → Option ℕ
wrapped_index Black i n = index_inside i n
wrapped_index Clamp i n = Some (index_clamped i n)
wrapped_index Periodic i n = Some (index_modulo i n)
wrapped_index Mirror i n = Some (index_there_and_back (from_edge i) n)
