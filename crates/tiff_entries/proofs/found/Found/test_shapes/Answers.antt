use Rattle.std.proofs.Common.{refl}
use Rattle.tiff_format.specs.DirectoryFault.{shape_fault}
use Rattle.tiff_entries.proofs.found.Found.test_shapes.Goals as goal
use Rattle.tiff_entries.proofs.found.Found.test_shapes.Goals.{then-is_tiled, else-is_tiled}

pub returns-in-None : goal.returns-in-None
unfolding shape_fault
returns-in-None c = λ bytes form at has long.
    elim c.if-is_tiled.branch [
      | then-is_tiled w ↦ (
        rw (
          ← c.is_tiled.ensures bytes form at has,
          w.if-is_tiled.true,
          ← w.first_misshapen-misshapen.ensures bytes form at has long,
          ← w.misshapen-is,
          c.in-None.is,
        ) refl,
        tt,
      )
      | else-is_tiled w ↦ (
        rw (
          ← c.is_tiled.ensures bytes form at has,
          w.if-is_tiled.false,
          ← w.first_misshapen-misshapen-else-is_tiled.ensures bytes form at has long,
          ← w.misshapen-is,
          c.in-None.is,
        ) refl,
        tt,
      )
    ]

pub returns-in-Some : goal.returns-in-Some
unfolding shape_fault
returns-in-Some c = λ bytes form at has long.
    elim c.if-is_tiled.branch [
      | then-is_tiled w ↦
          rw (
            ← c.is_tiled.ensures bytes form at has,
            w.if-is_tiled.true,
            ← w.first_misshapen-misshapen.ensures bytes form at has long,
            ← w.misshapen-is,
            c.in-Some.is,
            c.from.ensures,
          ) refl
      | else-is_tiled w ↦
          rw (
            ← c.is_tiled.ensures bytes form at has,
            w.if-is_tiled.false,
            ← w.first_misshapen-misshapen-else-is_tiled.ensures bytes form at has long,
            ← w.misshapen-is,
            c.in-Some.is,
            c.from.ensures,
          ) refl
    ]
