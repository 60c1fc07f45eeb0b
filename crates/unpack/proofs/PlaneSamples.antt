-- Samples of a plane, written one after the other to every step-th place.
use Rattle.std.proofs.Common.{◌≡◌, ◌≢◌, ℕ, ◌+◌, ◌*◌, ◌/◌, ◌%◌, ◌<◌, ◌≤◌, List, length, get_or, set}
use Rattle.std.proofs.Common.{arith, ap, sym, ◌∙◌, inl, inr}
use Rattle.std.proofs.lemmas.Bool.{cases_order, cases_lt}
use Rattle.std.proofs.lemmas.List.{get_or-set_other, get_or-set_same}
use Rattle.std.proofs.lemmas.Nat.{div-mul-add, mod-mul-add, le-div}
use Rattle.std.proofs.Math.Nat.{mul-le-mul_right, mul-div-le}

-- the first n samples are at their places, none exceeds the greatest value, and all other places
-- are unchanged
pub record StandTo (value : ℕ → ℕ) (most first step n : ℕ) (old new : List ℕ) : Type 0 where
  pub samples : (k : ℕ) → k < n → get_or new (k * step + first) 0 ≡ value k
  pub range : (k : ℕ) → k < n → get_or new (k * step + first) 0 ≤ most
  pub others : (k : ℕ) → k % step ≢ first → get_or new k 0 ≡ get_or old k 0

-- two samples have two places
same_sample : (k n step first : ℕ) → first < step → k * step + first ≡ n * step + first → k ≡ n
same_sample k n step first low is =
    sym (div-mul-add k step first low) ∙ ap (λ p. p / step) is ∙ div-mul-add n step first low

module _ (value : ℕ → ℕ) (most first step n v : ℕ) (old new : List ℕ) (low : first < step)
    (inside : n * step + first < length new) (is : v ≡ value n) (fits : v ≤ most)
    (before : StandTo value most first step n old new) where
  abbrev at : ℕ
  at = n * step + first

  -- one sample more
  pub stand_more : StandTo value most first step (n + 1) old (set new at v)
  stand_more = record {
    samples = λ k lt. elim (cases_order k n) [
      | inl here ↦ rw here (get_or-set_same new at v 0 inside ∙ is)
      | inr (inl lower) ↦
          get_or-set_other new at (k * step + first) v 0
          (λ e. let same = same_sample k n step first low e in omega (arith, same, lower))
          ∙ before.samples k lower
      | inr (inr higher) ↦ absurd (omega arith)
    ];
    range = λ k lt. elim (cases_order k n) [
      | inl here ↦ rw (here, get_or-set_same new at v 0 inside) fits
      | inr (inl lower) ↦
          rw (get_or-set_other new at (k * step + first) v 0
          (λ e. let same = same_sample k n step first low e in omega (arith, same, lower)))
          (before.range k lower)
      | inr (inr higher) ↦ absurd (omega arith)
    ];
    others = λ k other.
        get_or-set_other new at k v 0
        (λ e. other (ap (λ p. p % step) e ∙ mod-mul-add n step first low))
        ∙ before.others k other;
  }

-- a place inside is that of a sample
pub sample_there : (k step first places samples : ℕ) → 0 < step → places ≡ step * samples
    → k * step + first < places → k < places / step
sample_there k step first places samples some room inside = elim (cases_lt k samples) [
  | inl lt ↦
      let all : (k + 1) * step ≤ samples * step = mul-le-mul_right step (omega arith) in
      omega (arith, le-div (k + 1) places step some (omega (arith, all, room)))
  | inr past ↦ absurd (omega (arith, mul-le-mul_right step past, room))
]

-- a sample's place and its bytes exist
pub place_there : (k step first places : ℕ) → first < step → k < places / step
    → k * step + first < places
place_there k step first places low below =
    let all : (k + 1) * step ≤ places / step * step = mul-le-mul_right step (omega arith) in
    omega (arith, all, mul-div-le places step)

pub bytes_there : (k step places size bytes : ℕ) → 0 < step → 0 < size
    → places ≡ step * (bytes / size) → k < places / step → size * k + size ≤ bytes
bytes_there k step places size bytes some size-some room below =
    elim (cases_lt k (bytes / size)) [
      | inl lt ↦
          let all : (k + 1) * size ≤ bytes / size * size = mul-le-mul_right size (omega arith) in
          omega (arith, all, mul-div-le bytes size)
      | inr past ↦
          let more : (bytes / size + 1) * step ≤ (k + 1) * step =
          mul-le-mul_right step (omega (arith, past)) in
          let all : (k + 1) * step ≤ places / step * step = mul-le-mul_right step (omega arith) in
          absurd (omega (arith, more, all, room, mul-div-le places step, some))
    ]
