-- No level is larger than level 0.
use Rattle.std.proofs.Common.{◌≡◌, ℕ, zero, suc, ◌<◌, ◌≤◌, max, sym, ◌∙◌, ap, arith, inl, inr}
use Rattle.std.proofs.lemmas.Bool.{cases_lt, eqb-true, and_parts}
use Rattle.tiff_format.specs.Block.{LevelShape}
use Rattle.tiff_format.specs.Facts.{IsChain}
use Rattle.tiff_format.specs.Level.{halved}
use Rattle.tile_layout.specs.Kept.{Kept, stored_count, no_level, level_in}
use Rattle.tile_layout.specs.Level.{side_in, width_in, height_in}
use Rattle.tile_layout.proofs.LevelLemmas.{side_stored, side_halved}

module _ (side : LevelShape → ℕ) (file : Kept)
    (half : (k : ℕ) → suc k < stored_count file
    → side (level_in file (suc k)).shape ≡ halved (side (level_in file k).shape)) where
  -- stored or generated, a level is half of the one before
  halves : (l : ℕ) → side_in side file (suc l) ≡ halved (side_in side file l)
  halves l = elim (cases_lt (suc l) (stored_count file)) [
    | inl lt ↦ side_stored side file (suc l) lt ∙ half l lt
        ∙ ap halved (sym (side_stored side file l (omega arith)))
    | inr ge ↦ side_halved side file l ge
  ]

  pub no_longer : (l : ℕ) → side_in side file l ≤ max 1 (side_in side file 0)
  no_longer zero = omega arith
  no_longer (suc l) = omega (arith, halves l, no_longer l)

module _ (file : Kept) (chain : IsChain file.levels) where
  pub no_wider : (l : ℕ) → width_in file l ≤ max 1 (width_in file 0)
  no_wider = no_longer (λ shape. shape.width) file
      (λ k lt. eqb-true _ _ (and_parts _ _ (chain.half k no_level lt)).0)

  pub no_higher : (l : ℕ) → height_in file l ≤ max 1 (height_in file 0)
  no_higher = no_longer (λ shape. shape.height) file
      (λ k lt. eqb-true _ _ (and_parts _ _ (chain.half k no_level lt)).1)
