use Rattle.std.proofs.Common.{refl}
use Rattle.tiff_format.specs.DirectoryFault.{missing_fault}
use Rattle.tiff_entries.proofs.found.Found.test_required.Goals as goal
use Rattle.tiff_entries.proofs.found.Found.test_required.Goals.{then-is_tiled, else-is_tiled}

pub returns-in-None : goal.returns-in-None
unfolding missing_fault
returns-in-None c = λ bytes form at has.
    elim c.if-is_tiled.branch [
      | then-is_tiled w ↦ (
        rw (
          ← c.is_tiled.ensures bytes form at has,
          w.if-is_tiled.true,
          ← w.first_absent-absent.ensures bytes form at has,
          ← w.absent-is,
          c.in-None.is,
        ) refl,
        tt,
      )
      | else-is_tiled w ↦ (
        rw (
          ← c.is_tiled.ensures bytes form at has,
          w.if-is_tiled.false,
          ← w.first_absent-absent-else-is_tiled.ensures bytes form at has,
          ← w.absent-is,
          c.in-None.is,
        ) refl,
        tt,
      )
    ]

pub returns-in-Some : goal.returns-in-Some
unfolding missing_fault
returns-in-Some c = λ bytes form at has.
    elim c.if-is_tiled.branch [
      | then-is_tiled w ↦
          rw (
            ← c.is_tiled.ensures bytes form at has,
            w.if-is_tiled.true,
            ← w.first_absent-absent.ensures bytes form at has,
            ← w.absent-is,
            c.in-Some.is,
            c.from.ensures,
          ) refl
      | else-is_tiled w ↦
          rw (
            ← c.is_tiled.ensures bytes form at has,
            w.if-is_tiled.false,
            ← w.first_absent-absent-else-is_tiled.ensures bytes form at has,
            ← w.absent-is,
            c.in-Some.is,
            c.from.ensures,
          ) refl
    ]
