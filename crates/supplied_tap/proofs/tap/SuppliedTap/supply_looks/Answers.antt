-- The first look is kept by `supply_look`, and the others behind it.
use Rattle.std.proofs.Common.{Option, List, ◌∙◌, ◌++◌, ap, subst}
use Rattle.std.specs.Prelude.{IsSomeAnd}
use Rattle.supplied_tap.specs.declared.supply.FileVersion.{FileVersion}
use Rattle.supplied_tap.specs.declared.supply.Seen.{Seen}
use Rattle.supplied_tap.specs.SuppliedTap.{IsLookOf}
use Rattle.supplied_tap.proofs.tap.SuppliedTap.supply_looks.Goals as goal

pub returns-clause-ok : goal.returns-clause-ok
returns-clause-ok c =
    let taken = c.in_ok-supply_look.ensures.ok in
    record {
      look = taken.look;
      more = c.keep_looks.ensures.more;
      added = c.keep_looks.ensures.added
          ∙ ap (λ (l : List FileVersion). l ++ c.keep_looks.ensures.more) taken.added;
      first = subst (λ (o : Option Seen). IsSomeAnd o (IsLookOf taken.look)) c.in-Some.ensures.value
          (taken.of_file, taken.of_generation, taken.long);
      need = taken.need;
      state = taken.state;
      bytes = record {
        parts = taken.bytes.parts;
        rows = taken.bytes.rows;
        failed = taken.bytes.failed;
      };
    }
