use Rattle.std.proofs.Common.{arith}
use Rattle.std.proofs.lemmas.Bool.Decides.{nat_tests}
use Rattle.tiff_plain.proofs.FieldLemmas.{first_entry_found, first_entry_more, first_entry_none}
use Rattle.tiff_plain.proofs.fields.first_entry.Goals as goal

pub returns-then-number_at-from-clause-value : goal.returns-then-number_at-from-clause-value
returns-then-number_at-from-clause-value c = grind (arith, first_entry_found, c.loop-i.invariant)

pub loop-i-preserved : goal.loop-i-preserved
loop-i-preserved c = grind (arith, nat_tests, first_entry_more, c.loop-i.invariant)

pub returns-clause-value : goal.returns-clause-value
returns-clause-value c = grind (arith, first_entry_none, c.loop-i.invariant)
