-- How does a count change? It never falls, and it stops at the greatest value of a u64.
use Rattle.std.specs.Prelude.{◌≡◌, ℕ, ◌+◌, ◌-◌, ◌^◌, ◌<◌, ◌≤◌}

-- the greatest value of a u64, at which a count stops
abbrev pub last_count : ℕ
last_count = 2 ^ 64 - 1

-- the count has risen, or it stays at its greatest value
pub record Rises (old new : ℕ) : Type 0 where
  pub later : old ≤ new
  pub rose : old < last_count → old < new

-- the count has risen by one, or it stays at its greatest value
pub record RisesByOne (old new : ℕ) : Type 0 where
  pub later : old ≤ new
  pub by_one : old < last_count → new ≡ old + 1

-- the count has risen by at least n, or it has reached its greatest value
pub record RisesByAtLeast (n old new : ℕ) : Type 0 where
  pub later : old ≤ new
  pub by_n : new < last_count → old + n ≤ new
