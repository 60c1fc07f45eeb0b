-- Sides that are halved, and the side of a level by the last stored one.
use Rattle.std.proofs.Common.{◌≡◌, ℕ, zero, suc, ◌+◌, ◌-◌, ◌/◌, ◌^◌, ◌≤◌, max, min, refl, sym, ap}
use Rattle.std.proofs.Common.{◌∙◌, arith, inl, inr, add-zero, add-suc}
use Rattle.std.proofs.lemmas.Nat.{shr-shr}
use Rattle.std.proofs.lemmas.Bool.{cases_lt}
use Rattle.tiff_format.specs.Block.{LevelShape}
use Rattle.tiff_format.specs.Level.{halved}
use Rattle.tile_layout.specs.Kept.{Kept, stored_count, level_in}
use Rattle.tile_layout.specs.Level.{side_in}
use Rattle.tile_layout.proofs.LevelLemmas.{side_stored, side_halved}

-- ---- a side

half_of_max : (q : ℕ) → max 1 (max 1 q / 2) ≡ max 1 (q / 2)
half_of_max zero = refl
half_of_max (suc q) = let e : max 1 (suc q) ≡ suc q = omega arith in rw e refl

-- one halving more
half_more : (side k : ℕ) → halved (max 1 (side / 2 ^ k)) ≡ max 1 (side / 2 ^ suc k)
half_more side k =
    let more : k + 1 ≡ suc k = omega arith in
    let e : side / 2 ^ k / 2 ≡ side / 2 ^ suc k =
    shr-shr side k 1 ∙ ap (λ j. side / 2 ^ j) more in
    half_of_max (side / 2 ^ k) ∙ ap (λ q. max 1 q) e

-- sides that are halved from `last` on
pub halved_after : (side : ℕ → ℕ) (last : ℕ) → 1 ≤ side last
    → ((l : ℕ) → last ≤ l → side (suc l) ≡ halved (side l))
    → (k : ℕ) → side (last + k) ≡ max 1 (side last / 2 ^ k)
halved_after side last some step zero =
    let e : side last ≡ max 1 (side last / 1) = omega arith in rw add-zero e
halved_after side last some step (suc k) =
    rw add-suc (step (last + k) (omega arith) ∙ ap halved (halved_after side last some step k)
    ∙ half_more (side last) k)

-- ---- the side of a level, by the last stored one that is not below it

module _ (side : LevelShape → ℕ) (file : Kept) (level last : ℕ)
    (is : last ≡ min level (stored_count file - 1)) (stored : 1 ≤ stored_count file) where
  by_last : 1 ≤ side_in side file last
      → side_in side file level ≡ max 1 (side_in side file last / 2 ^ (level - last))
  by_last some = elim (cases_lt level (stored_count file)) [
    | inl lt ↦
        let here : last ≡ level = omega arith in
        let none : level - last ≡ 0 = omega arith in
        let whole : side_in side file level ≡ max 1 (side_in side file level / 1) =
        omega (arith, ap (side_in side file) here) in
        rw (none, here) whole
    | inr le ↦
        let there : last + (level - last) ≡ level = omega arith in
        ap (side_in side file) (sym there)
        ∙ halved_after (side_in side file) last some
        (λ l from. side_halved side file l (omega arith)) (level - last)
  ]

  pub side_by : 1 ≤ side (level_in file last).shape
      → side_in side file level ≡ max 1 (side (level_in file last).shape / 2 ^ (level - last))
  side_by some =
      let own : side_in side file last ≡ side (level_in file last).shape =
      side_stored side file last (omega arith) in
      by_last (rw own some) ∙ ap (λ n. max 1 (n / 2 ^ (level - last))) own
