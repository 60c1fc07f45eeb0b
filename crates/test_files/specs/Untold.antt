-- How do contracts see files that are not modelled?
use Rattle.std.specs.Prelude.{false, refl, [], None}
use Rattle.std.proofs.Common.{arith}
use Rattle.tex_world.specs.World.{Files, IsWorld}

-- files of which nothing is known
abbrev pub untold : Files
untold = record { tells = false; count = 0; name = λ _. []; held = λ _ _. None }

-- They are a world.
pub untold_is_world : IsWorld untold
untold_is_world = record { few = omega arith; distinct = λ told. cc; untold = λ _ n g. refl }
