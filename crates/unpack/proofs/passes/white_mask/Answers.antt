use Rattle.std.proofs.lemmas.List.{get_or-replicate}
use Rattle.unpack.proofs.passes.white_mask.Goals as goal

pub mark_white-requires-clause-blank : goal.mark_white-requires-clause-blank
mark_white-requires-clause-blank c = λ k lt. get_or-replicate 128 k 0 0 lt
