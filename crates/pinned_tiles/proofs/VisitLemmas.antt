-- Which visits do two steps make, one after the other?
use Rattle.std.proofs.Common.{◌≡◌, ℕ, Bool, subst, Result, Ok, Err}
use Rattle.std.specs.Prelude.{IfOk, IsFalse}
use Rattle.shard_gate.specs.Gate.{GateState, PinSeatState}
use Rattle.shard_gate.specs.Since.{PurgesNone, Misses}
use Rattle.shard_gate.proofs.SinceLemmas.{purges_none_chain, misses_after}

-- two steps with a step between them that makes no visit
pub visits_round : (gate : GateState) (a b c d : PinSeatState) → PurgesNone gate a b → c ≡ b
    → PurgesNone gate c d → PurgesNone gate a d
visits_round gate a b c d first same later = purges_none_chain gate a b d first
    (subst (λ (s : PinSeatState). PurgesNone gate s d) same later)

-- a pin that finds none has missed the key, whatever was visited before
pub if_missed : {E : Type 0} (gate : GateState) (key : ℕ) (a b c : PinSeatState)
    (r : Result Bool E) → PurgesNone gate a b
    → IfOk r (λ found. IsFalse found → Misses gate key b c)
    → IfOk r (λ found. IsFalse found → Misses gate key a c)
if_missed gate key a b c (Ok found) first missed =
    λ none. misses_after gate key a b c first (missed none)
if_missed gate key a b c (Err e) first missed = tt
