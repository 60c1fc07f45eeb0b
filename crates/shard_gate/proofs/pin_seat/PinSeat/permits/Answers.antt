-- A seat has no more permits than all seats together.
use Rattle.shard_gate.proofs.SeatLemmas.{few_permits}
use Rattle.shard_gate.proofs.pin_seat.PinSeat.permits.Goals as goal

pub returns-clause-few : goal.returns-clause-few
returns-clause-few g c = few_permits _ _ c.self.invariant
