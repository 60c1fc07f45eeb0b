-- Which visits does a step make that follows or precedes one without visits?
use Rattle.std.proofs.Common.{◌≡◌, ap, subst, sym}
use Rattle.shard_gate.specs.Gate.{GateState, PinSeatState}
use Rattle.shard_gate.specs.Since.{PurgesNone}
use Rattle.shard_gate.proofs.SinceLemmas.{purges_none}

pub visits_none : (gate : GateState) (a b : PinSeatState) → b ≡ a → PurgesNone gate a b
visits_none gate a b same = purges_none gate a b (ap (λ (s : PinSeatState). s.visits) same)

pub visits_after : (gate : GateState) (a b c : PinSeatState) → b ≡ a → PurgesNone gate b c
    → PurgesNone gate a c
visits_after gate a b c same later =
    subst (λ (s : PinSeatState). PurgesNone gate s c) same later

pub visits_before : (gate : GateState) (a b c : PinSeatState) → PurgesNone gate a b → c ≡ b
    → PurgesNone gate a c
visits_before gate a b c first same =
    subst (λ (s : PinSeatState). PurgesNone gate a s) (sym same) first
