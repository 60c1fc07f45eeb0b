use Rattle.tiff_entries.proofs.Covering.{IsNoted}
use Rattle.tiff_entries.proofs.found.Found.note.Given as goal

abbrev pub invariant-loop-t : goal.invariant-loop-t
invariant-loop-t l = IsNoted l.tag l.entry l.t l.fn.self.entries l.self.entries
