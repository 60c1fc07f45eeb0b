-- One more level is known.
use Rattle.std.proofs.Common.{◌≡◌, ℕ, ◌+◌, ◌<◌, List, [], ◌∷◌, ◌++◌, length, subst, sym}
use Rattle.std.specs.Prelude.{slice_index_or}
use Rattle.std.proofs.Common.{arith}
use Rattle.std.proofs.lemmas.List.{get_or_push}
use Rattle.std.proofs.Math.ListN.{get_or-append}
use borrow.Author.Count.{below_more}
use Rattle.tiff_format.specs.declared.cut.Cut.{Cut}
use Rattle.tile_layout.specs.Kept.{Kept}
use Rattle.file_table.specs.declared.known_level.KnownLevel.{KnownLevel}
use Rattle.file_table.specs.Record.{IsLevelOf}

module _ (file generation : ℕ) (cut : Cut) (kept : Kept) where
  abbrev IsKnown : ℕ → KnownLevel → Type 0
  IsKnown l level = IsLevelOf file generation cut kept l level

  one_more : (levels : List KnownLevel) (level : KnownLevel) (n : ℕ) → length levels ≡ n
      → ((k : ℕ) (d : KnownLevel) → k < n → IsKnown k (slice_index_or levels k d))
      → IsKnown n level
      → (k : ℕ) → k < n + 1 → (d : KnownLevel)
      → IsKnown k (slice_index_or (levels ++ level ∷ []) k d)
  one_more levels level n count each is =
      below_more
      (λ k. (d : KnownLevel) → IsKnown k (slice_index_or (levels ++ level ∷ []) k d)) n
      (λ k low d. subst (IsKnown k)
      (sym (get_or-append levels (level ∷ []) d k (omega (arith, low, count)))) (each k d low))
      (λ d. subst (IsKnown n) (sym (get_or_push levels level d n count)) is)

  pub one_more_level : (old new : List KnownLevel) (level : KnownLevel) (n : ℕ)
      → new ≡ old ++ level ∷ [] → length old ≡ n
      → ((k : ℕ) (d : KnownLevel) → k < n → IsKnown k (slice_index_or old k d))
      → IsKnown n level
      → (k : ℕ) (d : KnownLevel) → k < n + 1 → IsKnown k (slice_index_or new k d)
  one_more_level old new level n pushed count each is k d low =
      subst (λ (levels : List KnownLevel). IsKnown k (slice_index_or levels k d))
      (sym pushed) (one_more old level n count each is k low d)
