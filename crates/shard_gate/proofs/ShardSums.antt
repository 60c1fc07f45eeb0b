-- What do the numbers of all shards together say of the keys of a seat? Each key is of one shard.
use Rattle.std.proofs.Common.{◌≡◌, ◌≢◌, ℕ, zero, suc, ◌+◌, ◌<◌, ◌≤◌, cond, List, [], ◌∷◌}
use Rattle.std.proofs.Common.{length, get_or, refl, ap, subst, ne_eqb, arith}
use Rattle.std.specs.List.{sum_by}
use Rattle.std.proofs.lemmas.Bool.{eq-eqb}
use Rattle.std.proofs.lemmas.List.Sums.{sum_by-cons}
use mathlib.Core.Logic.{dite}
use native.Mathlib.Decide.{ℕ_discrete}
use Rattle.shard_gate.specs.Gate.{shard_of, one_of_shard, own_pins}
use Rattle.shard_gate.proofs.SumLemmas.{sum_plus, sum_none}

module _ (shards : ℕ) where
  -- 1 for a key of one of these shards, otherwise 0
  abbrev one_from : ℕ → ℕ → ℕ → ℕ
  one_from shard zero key = 0
  one_from shard (suc more) key = one_of_shard shards shard key + one_from (suc shard) more key

  here : (shard key : ℕ) → shard_of shards key ≡ shard → one_of_shard shards shard key ≡ 1
  here shard key is = ap (λ b. cond {A = ℕ} b 1 0) (eq-eqb (shard_of shards key) shard is)

  elsewhere : (shard key : ℕ) → shard_of shards key ≢ shard → one_of_shard shards shard key ≡ 0
  elsewhere shard key apart = ap (λ b. cond {A = ℕ} b 1 0) (ne_eqb (shard_of shards key) shard apart)

  before : (shard more key : ℕ) → shard_of shards key < shard → one_from shard more key ≡ 0
  before shard zero key low = refl
  before shard (suc more) key low = omega (
    arith,
    elsewhere shard key (λ is. absurd (omega arith)),
    before (suc shard) more key (omega arith),
  )

  inside : (shard more key : ℕ) → shard ≤ shard_of shards key → shard_of shards key < shard + more
      → one_from shard more key ≡ 1
  inside shard zero key low high = absurd (omega arith)
  inside shard (suc more) key low high = dite (ℕ_discrete (shard_of shards key) shard)
      (λ (is : shard_of shards key ≡ shard). omega (
        arith,
        here shard key is,
        before (suc shard) more key (omega arith),
      ))
      (λ (apart : shard_of shards key ≢ shard). omega (
        arith,
        elsewhere shard key apart,
        inside (suc shard) more key (omega arith) (omega arith),
      ))

  once : 0 < shards → (key : ℕ) → one_from 0 shards key ≡ 1
  once some key = inside 0 shards key (omega arith) (omega arith)

  ones : 0 < shards → (keys : List ℕ) → sum_by (one_from 0 shards) keys ≡ length keys
  ones some [] = refl
  ones some (key ∷ keys) = omega (
    arith,
    sum_by-cons (one_from 0 shards) key keys,
    once some key,
    ones some keys,
  )

  module _ {X : Type 0} (f : X → ℕ) (keys : List ℕ) where
    more_of : (counts : List X) (shard : ℕ)
        → ((k at : ℕ) (d : X) → k < length counts → at ≡ shard + k
        → own_pins shards at keys ≤ f (get_or counts k d))
        → sum_by (one_from shard (length counts)) keys ≤ sum_by f counts
    more_of [] shard each = omega (arith, sum_none (one_from shard 0) keys (λ _. refl))
    more_of (c ∷ counts) shard each = omega (
      arith,
      sum_plus (one_from shard (suc (length counts))) (one_of_shard shards shard)
          (one_from (suc shard) (length counts)) keys (λ _. refl),
      sum_by-cons f c counts,
      each 0 shard c (omega arith) (omega arith),
      more_of counts (suc shard) (λ k at d low is. each (suc k) at d (omega arith) (omega arith)),
    )

    as_many : (counts : List X) (shard : ℕ)
        → ((k at : ℕ) (d : X) → k < length counts → at ≡ shard + k
        → f (get_or counts k d) ≡ own_pins shards at keys)
        → sum_by f counts ≡ sum_by (one_from shard (length counts)) keys
    as_many [] shard each = omega (arith, sum_none (one_from shard 0) keys (λ _. refl))
    as_many (c ∷ counts) shard each = omega (
      arith,
      sum_plus (one_from shard (suc (length counts))) (one_of_shard shards shard)
          (one_from (suc shard) (length counts)) keys (λ _. refl),
      sum_by-cons f c counts,
      each 0 shard c (omega arith) (omega arith),
      as_many counts (suc shard) (λ k at d low is. each (suc k) at d (omega arith) (omega arith)),
    )

    -- if the number of each shard is at least that of its keys, the sum is at least the number of
    -- keys
    pub at_least : (counts : List X) → length counts ≡ shards → 0 < shards
        → ((k : ℕ) (d : X) → k < shards → own_pins shards k keys ≤ f (get_or counts k d))
        → length keys ≤ sum_by f counts
    at_least counts long some each = omega (
      arith,
      ones some keys,
      ap (λ n. sum_by (one_from 0 n) keys) long,
      more_of counts 0 (λ k at d low is.
          let same : k ≡ at = omega (arith, is) in
          subst (λ n. own_pins shards n keys ≤ f (get_or counts k d)) same
          (each k d (omega (arith, low, long)))),
    )

    -- if the number of each shard equals that of its keys, the sum is the number of keys
    pub exactly : (counts : List X) → length counts ≡ shards → 0 < shards
        → ((k : ℕ) (d : X) → k < shards → f (get_or counts k d) ≡ own_pins shards k keys)
        → sum_by f counts ≡ length keys
    exactly counts long some each = omega (
      arith,
      ones some keys,
      ap (λ n. sum_by (one_from 0 n) keys) long,
      as_many counts 0 (λ k at d low is.
          let same : k ≡ at = omega (arith, is) in
          subst (λ n. f (get_or counts k d) ≡ own_pins shards n keys) same
          (each k d (omega (arith, low, long)))),
    )
