use Rattle.std.proofs.Common.{◌≡◌, ℕ, ◌<◌, true}
use Rattle.tiff_format.specs.Block.{level_with}
use Rattle.tiff_dirs.specs.Shape.{seen_shape}
use Rattle.tiff_dirs.specs.ReadLevel.{lies_within}
use Rattle.tiff_dirs.proofs.shape.ReadShape.first_outside.Given as goal

abbrev pub invariant-loop-i : goal.invariant-loop-i
invariant-loop-i l =
    (k : ℕ) → k < l.i
    → lies_within l.form l.file (level_with (seen_shape l.self) l.offsets) k ≡ true
