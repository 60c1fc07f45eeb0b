-- How do the contracts model the files of the caller?
use Rattle.std.specs.Prelude.{◌≡◌, refl, ℕ, ◌≤◌, true, Some, List, [], ◌∷◌, length, slice_index}
use Rattle.std.proofs.Common.{◌∙◌, ap, arith}
use Rattle.std.proofs.lemmas.Option.{same_Some}
use Rattle.tex_world.specs.World.{Files, IsWorld, IsReal, last_generation, max_files}
use Rattle.tex_world.specs.Tap.{Named, IsHandle}

-- The bytes of a generation of a caller's file. The real bytes are what the caller has. This
-- definition is a placeholder that is never unfolded, in this file or elsewhere, so everything
-- proved of these bytes holds of any bytes.
pub held_by_caller : ℕ → ℕ → List ℕ
held_by_caller file generation = []

-- The caller's files. The world is modelled; file names are the caller's own matter.
abbrev pub supplied_files : Files
supplied_files = record {
  tells = true;
  count = max_files;
  name = λ n. n ∷ [];
  held = λ file generation. Some (held_by_caller file generation);
}

-- The caller's files are a world.
pub supplied_is_world : IsWorld supplied_files
supplied_is_world = record {
  few = omega arith;
  distinct = λ _ m n _ _ same. ap (λ name. slice_index name 0) same;
  untold = λ silent. absurd (cc silent);
}

-- Every generation in range exists.
pub real_in_range : (file generation : ℕ) → 1 ≤ generation → generation ≤ last_generation
    → IsReal supplied_files file generation
real_in_range file generation low high = record { low = low; high = high; held = λ told. refl }

-- A handle is honest if its generation is in range and its length is that of the generation's
-- bytes.
pub handle_in_range : (handle : Named) → 1 ≤ handle.generation → handle.generation ≤ last_generation
    → handle.len ≡ length (held_by_caller handle.file handle.generation)
    → IsHandle supplied_files handle
handle_in_range handle low high len = record {
  real = real_in_range handle.file handle.generation low high;
  len = λ bytes held. len ∙ ap length (same_Some _ _ held);
}
