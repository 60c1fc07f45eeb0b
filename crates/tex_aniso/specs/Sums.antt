-- What do the steps of a lookup leave in its sums? No caller sees these.
use Rattle.std.specs.Prelude.{◌≡◌, ℕ, ◌+◌, ◌*◌, ◌^◌, ◌<◌, ◌≤◌, List, slice_index}
use Rattle.texel_filter.specs.Filter.{blended_sum}
use Rattle.texel_filter.specs.Weighted.{max_sum}
use Rattle.tex_aniso.specs.declared.line_mean.LevelTotals.{LevelTotals}

-- each of the first `channels` sums has grown by the number of its channel
abbrev pub HaveGrown : ℕ → (ℕ → ℕ) → List ℕ → List ℕ → Type 0
HaveGrown channels by old new =
    (c : ℕ) → c < channels → slice_index new c ≡ slice_index old c + by c

-- no sum is above this
abbrev pub AreUpTo : ℕ → List ℕ → Type 0
AreUpTo most sums = (c : ℕ) → slice_index sums c ≤ most

-- the most that 32 weights of 16 bits are together is below this
abbrev pub max_weight : ℕ
max_weight = 2 ^ 21

-- the most weights whose sums of a level fit 64 bits
abbrev pub max_narrow_weight : ℕ
max_narrow_weight = 65536

-- Each of the first `channels` sums of two levels, blended by fraction q of the second, has grown by
-- the number of its channel.
abbrev pub HaveBlended : ℕ → ℕ → (ℕ → ℕ) → LevelTotals → LevelTotals → Type 0
HaveBlended channels q by old new =
    (c : ℕ) → c < channels
    → blended_sum q (slice_index new.first c) (slice_index new.second c)
    ≡ blended_sum q (slice_index old.first c) (slice_index old.second c) + by c

-- no sum of either level is above the greatest that this weight allows
pub record AreTotals (weight : ℕ) (sums : LevelTotals) : Type 0 where
  pub first : AreUpTo (weight * max_sum) sums.first
  pub second : AreUpTo (weight * max_sum) sums.second
