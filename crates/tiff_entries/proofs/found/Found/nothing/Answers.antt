use Rattle.std.proofs.Common.{rules}
use Rattle.tiff_format.specs.Field.{first_entry}
use Rattle.tiff_entries.proofs.found.Found.nothing.Goals as goal

pub returns : goal.returns
unfolding first_entry
returns c = λ form bytes first t lt. search rules
