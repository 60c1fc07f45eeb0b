-- The sample files have their first generation alone.
use Rattle.std.proofs.Common.{◌≡◌, ℕ, ◌≤◌, List, refl, arith, inl, inr}
use Rattle.std.proofs.lemmas.Bool.Decides.{nat_tests}
use Rattle.sample_folder.specs.Sample.{sample_len_of}
use Rattle.tex_world.specs.Table.{table_files}
use Rattle.tex_world.specs.Tap.{IsLeast}
use Rattle.tex_world.specs.World.{IsReal}

module _ (count : ℕ) (name : ℕ → List ℕ) (byte : ℕ → ℕ → ℕ → ℕ) (n g : ℕ) where
  first_alone : IsReal (table_files count name sample_len_of byte) n g → g ≡ 1
  first_alone real = let held = real.held refl in grind (arith, nat_tests)

  -- no generation above 1 is asked for
  pub least_low : IsLeast (table_files count name sample_len_of byte) n g → g ≤ 1
  least_low least = elim least [
    | inl none ↦ omega arith
    | inr real ↦ omega (arith, first_alone real)
  ]
