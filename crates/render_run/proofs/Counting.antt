-- The counts of I/O errors and moves, compared with the lines that report them.
use Rattle.std.proofs.Common.{ℕ, ◌+◌, ◌<◌, ◌≤◌, arith}
use Rattle.tex_world.specs.Counts.{Rises, RisesByAtLeast, last_count}
use Rattle.render_run.specs.Around.{SourceState}
use Rattle.request_lang.specs.Basis.{Basis, OnFault, OnNewer, is_fault, is_move}
use Rattle.render_run.specs.Held.{one_if}
use Rattle.render_run.specs.Answering.{GoesOn, HasCause}

-- one more, if the count rose
rises_more : (n a b c : ℕ) → RisesByAtLeast n a b → Rises b c → RisesByAtLeast (n + 1) a c
rises_more n a b c so_far more = record {
  later = omega (arith, so_far.later, more.later);
  by_n = λ below.
      let here : b < last_count = omega (arith, more.later, below) in
      omega (arith, so_far.by_n here, more.rose here);
}

-- no more, if the count has not fallen
rises_same : (n a b c : ℕ) → RisesByAtLeast n a b → b ≤ c → RisesByAtLeast (n + 0) a c
rises_same n a b c so_far later = record {
  later = omega (arith, so_far.later);
  by_n = λ below. let here : b < last_count = omega arith in omega (arith, so_far.by_n here);
}

module _ (n : ℕ) (old mid new : SourceState) (on : GoesOn mid new) where
  -- one more line, and the I/O errors that it reports
  pub faults_more : (b : Basis) → HasCause mid new b → RisesByAtLeast n old.faults mid.faults
      → RisesByAtLeast (n + one_if (is_fault b)) old.faults new.faults
  faults_more OnFault cause so_far =
      rises_more n old.faults mid.faults new.faults so_far cause
  faults_more _ cause so_far =
      rises_same n old.faults mid.faults new.faults so_far on.faults

  -- one more line, and the moves that it reports
  pub moves_more : (b : Basis) → HasCause mid new b → RisesByAtLeast n old.moves mid.moves
      → RisesByAtLeast (n + one_if (is_move b)) old.moves new.moves
  moves_more (OnNewer from to) cause so_far =
      rises_more n old.moves mid.moves new.moves so_far cause
  moves_more _ cause so_far = rises_same n old.moves mid.moves new.moves so_far on.moves
