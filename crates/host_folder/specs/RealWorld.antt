-- What do contracts know of a real folder's files? Nothing: the world is not modelled.
use Rattle.std.specs.Prelude.{ℕ, ◌≤◌, false, refl, [], None}
use Rattle.std.proofs.Common.{arith}
use Rattle.tex_world.specs.World.{Files, IsWorld, IsReal, last_generation}
use Rattle.tex_world.specs.Tap.{Named, IsHandle}

-- files that are not modelled
abbrev pub untold_files : Files
untold_files = record { tells = false; count = 0; name = λ _. []; held = λ _ _. None }

-- They are a world.
pub untold_is_world : IsWorld untold_files
untold_is_world = record { few = omega arith; distinct = λ told. cc; untold = λ _ n g. refl }

-- Every generation in range exists.
pub real_in_range : (file generation : ℕ) → 1 ≤ generation → generation ≤ last_generation
    → IsReal untold_files file generation
real_in_range file generation low high = record { low = low; high = high; held = λ told. cc }

-- A handle is honest if its generation is in range, whatever its length.
pub handle_in_range : (handle : Named) → 1 ≤ handle.generation → handle.generation ≤ last_generation
    → IsHandle untold_files handle
handle_in_range handle low high = record {
  real = real_in_range handle.file handle.generation low high;
  len = λ bytes held. cc;
}
