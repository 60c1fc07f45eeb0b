-- What becomes of all workers together when one of them answers.
use Rattle.std.proofs.Common.{◌≡◌, ◌≢◌, ℕ, ◌+◌, ◌<◌, ◌≤◌, List, length, set, refl, arith}
use Rattle.std.specs.List.{sum_by}
use Rattle.std.proofs.lemmas.List.{get_or-set_same, get_or-set_other}
use Rattle.std.proofs.lemmas.List.Sums.{sum_by-set}
use Rattle.tex_world.specs.Counts.{Rises, last_count}
use Rattle.request_lang.specs.Basis.{Basis, OnFault, OnNewer}
use Rattle.render_run.specs.Around.{Sight, sight_at, no_sight, source_of_crew}
use Rattle.render_run.specs.Answering.{GoesOn, HasCause}

-- what one worker sees then
pub at_same : (crew : List Sight) (w : ℕ) (s : Sight) → w < length crew
    → sight_at (set crew w s) w ≡ s
at_same crew w s low = get_or-set_same crew w s no_sight low

-- another worker's state is unchanged
pub at_other : (crew : List Sight) (w v : ℕ) (s : Sight) → v ≢ w
    → sight_at (set crew w s) v ≡ sight_at crew v
at_other crew w v s ne = get_or-set_other crew w v s no_sight ne

-- ---- the counts of all

module _ (f : Sight → ℕ) (none : f no_sight ≡ 0) (crew : List Sight) (w : ℕ) (s : Sight)
    (low : w < length crew) where
  -- the sum and one of its parts
  swapped : sum_by f (set crew w s) + f (sight_at crew w) ≡ sum_by f crew + f s
  swapped = sum_by-set f crew w s no_sight low

  -- one of the parts is at most the sum
  part_low : f (sight_at crew w) ≤ sum_by f crew
  part_low = omega (arith, sum_by-set f crew w no_sight no_sight low, none)

  sum_on : f (sight_at crew w) ≤ f s → sum_by f crew ≤ sum_by f (set crew w s)
  sum_on on = omega (arith, swapped)

  sum_rises : Rises (f (sight_at crew w)) (f s) → Rises (sum_by f crew) (sum_by f (set crew w s))
  sum_rises rises = record {
    later = sum_on rises.later;
    rose = λ below.
        let here : f (sight_at crew w) < last_count = omega (arith, part_low) in
        omega (arith, swapped, rises.rose here);
  }

module _ (crew : List Sight) (w : ℕ) (s : Sight) (low : w < length crew) where
  -- no count of all has fallen
  pub crew_on : GoesOn (sight_at crew w).source s.source
      → GoesOn (source_of_crew crew) (source_of_crew (set crew w s))
  crew_on on = record {
    faults = sum_on (λ (t : Sight). t.source.faults) refl crew w s low on.faults;
    moves = sum_on (λ (t : Sight). t.source.moves) refl crew w s low on.moves;
  }

  -- the cause of one worker's answer is a cause for all together
  pub crew_cause : (b : Basis) → HasCause (sight_at crew w).source s.source b
      → HasCause (source_of_crew crew) (source_of_crew (set crew w s)) b
  crew_cause OnFault cause = sum_rises (λ (t : Sight). t.source.faults) refl crew w s low cause
  crew_cause (OnNewer from to) cause =
      sum_rises (λ (t : Sight). t.source.moves) refl crew w s low cause
  crew_cause _ cause = tt
