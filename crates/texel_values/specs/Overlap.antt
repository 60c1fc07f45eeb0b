-- How does a range of places overlap a side?
use Rattle.std.specs.Prelude.{◌≡◌, ℕ, ◌+◌, ◌<◌, ◌≤◌, nat_lt, ℤ, pos, negsuc, ◌+ℤ◌}
use Rattle.std.specs.Prelude.{Option, Some, None, if◌then◌else◌}
use Rattle.texel_values.specs.declared.overlap.Overlap.{Overlap}

-- the index as a natural number, if it is below n
abbrev pub index_in : ℤ → ℕ → Option ℕ
index_in (pos i) n = if nat_lt i n then Some i else None
index_in (negsuc i) n = None

-- `count` places from `start` on overlap a side of `size` places in this way. Those before and
-- after do not exist on the side; those inside are its places from `first` on.
pub record IsOverlap (start : ℤ) (count size : ℕ) (over : Overlap) : Type 0 where
  pub total : over.before + over.inside + over.after ≡ count
  pub within : over.first + over.inside ≤ size
  pub none_before : (i : ℕ) → i < over.before → index_in (start +ℤ pos i) size ≡ None
  pub each_inside : (i : ℕ) → i < over.inside
      → index_in (start +ℤ pos (over.before + i)) size ≡ Some (over.first + i)
  pub none_after : (i : ℕ) → i < over.after
      → index_in (start +ℤ pos (over.before + over.inside + i)) size ≡ None
