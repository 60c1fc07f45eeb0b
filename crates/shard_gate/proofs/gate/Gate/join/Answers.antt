-- The seat with the permits of both is one of the gate.
use Rattle.std.proofs.Common.{◌≡◌, ◌+◌, ◌≤◌, List, map, drop, length, subst, ap, sym, ◌∙◌, arith}
use Rattle.std.specs.List.{All}
use Rattle.std.proofs.lemmas.List.{take_at}
use Rattle.shard_gate.specs.Seated.{SeatAt, shard_of_seat, joined_seats}
use Rattle.shard_gate.specs.Gate.{GateState, PinSeatState, AfterJoin}
use Rattle.shard_gate.specs.Kept.{IsPinSeat, seat_state}
use Rattle.shard_gate.proofs.SeatLemmas.{few_permits}
use Rattle.shard_gate.proofs.PermitLemmas.{joined_kept, joined_few, after_join, joined_length, none_held}
use Rattle.shard_gate.proofs.gate.Gate.join.Goals as goal

pub join_seats-requires-clause-pins : goal.join_seats-requires-clause-pins
join_seats-requires-clause-pins g c = none_held c.other.inside.seats.items
    (ap (λ (q : PinSeatState). q.pins) c.other.view_is ∙ c.requires.pins)

pub overflow_add-p : goal.overflow_add-p
overflow_add-p g c =
    let a = c.p.inside.seats.items in
    let b = c.other.inside.seats.items in
    let same : map shard_of_seat a ≡ map shard_of_seat b =
    ap (λ (q : PinSeatState). q.gate) c.p.view_is ∙ (c.requires.gate ∙ sym (c.requires.other)
    ∙ sym (ap (λ (q : PinSeatState). q.gate) c.other.view_is)) in
    let joined : c.join_seats.new.seats ≡ joined_seats a b =
    c.join_seats.ensures.joined ∙ ap (λ (l : List SeatAt). joined_seats l b)
    c.as_mut_slice.ensures.value in
    let few = subst (λ (l : List SeatAt). All (λ (s : SeatAt). s.permits ≤ s.shard.passes) l) joined
    c.join_seats.ensures.few in
    let most = few_permits (joined_seats a b) (c.p.inside.permits + c.other.inside.permits)
    (joined_kept a b c.p.inside.permits c.other.inside.permits
    c.p.invariant c.other.invariant same few) in
    omega (arith, most)

pub invariant_of-p : goal.invariant_of-p
invariant_of-p g c =
    let a = c.p.inside.seats.items in
    let b = c.other.inside.seats.items in
    let same : map shard_of_seat a ≡ map shard_of_seat b =
    ap (λ (q : PinSeatState). q.gate) c.p.view_is ∙ (c.requires.gate ∙ sym (c.requires.other)
    ∙ sym (ap (λ (q : PinSeatState). q.gate) c.other.view_is)) in
    let joined : c.join_seats.new.seats ≡ joined_seats a b =
    c.join_seats.ensures.joined ∙ ap (λ (l : List SeatAt). joined_seats l b)
    c.as_mut_slice.ensures.value in
    let few = subst (λ (l : List SeatAt). All (λ (s : SeatAt). s.permits ≤ s.shard.passes) l) joined
    c.join_seats.ensures.few in
    let long : length c.join_seats.new.seats ≡ c.p.inside.seats.len =
    omega (arith, ap length joined, joined_length a b) in
    subst (λ (l : List SeatAt). IsPinSeat l (c.p.inside.permits + c.other.inside.permits))
    (sym (take_at c.join_seats.new.seats (drop (length c.join_seats.new.seats) a)
    c.p.inside.seats.len long ∙ joined))
    (joined_kept a b c.p.inside.permits c.other.inside.permits
    c.p.invariant c.other.invariant same few)

pub returns-clause-joined : goal.returns-clause-joined
returns-clause-joined g c =
    let a = c.p.inside.seats.items in
    let b = c.other.inside.seats.items in
    let same : map shard_of_seat a ≡ map shard_of_seat b =
    ap (λ (q : PinSeatState). q.gate) c.p.view_is ∙ (c.requires.gate ∙ sym (c.requires.other)
    ∙ sym (ap (λ (q : PinSeatState). q.gate) c.other.view_is)) in
    let joined : c.join_seats.new.seats ≡ joined_seats a b =
    c.join_seats.ensures.joined ∙ ap (λ (l : List SeatAt). joined_seats l b)
    c.as_mut_slice.ensures.value in
    let few = subst (λ (l : List SeatAt). All (λ (s : SeatAt). s.permits ≤ s.shard.passes) l) joined
    c.join_seats.ensures.few in
    let long : length c.join_seats.new.seats ≡ c.p.inside.seats.len =
    omega (arith, ap length joined, joined_length a b) in
    subst (λ (l : List SeatAt). AfterJoin c.args.other c.args.p.now
    (seat_state l (c.p.inside.permits + c.other.inside.permits)))
    (sym (take_at c.join_seats.new.seats (drop (length c.join_seats.new.seats) a)
    c.p.inside.seats.len long ∙ joined))
    (after_join a b c.p.inside.permits c.other.inside.permits
    c.p.invariant c.other.invariant same few c.args.p.now c.args.other
    c.p.view_is c.other.view_is)

pub returns-clause-few : goal.returns-clause-few
returns-clause-few g c =
    let a = c.p.inside.seats.items in
    let b = c.other.inside.seats.items in
    let own : map shard_of_seat a ≡ c.args.self.now.id =
    ap (λ (q : PinSeatState). q.gate) c.p.view_is ∙ c.requires.gate in
    let theirs = ap (λ (q : PinSeatState). q.gate) c.other.view_is ∙ c.requires.other in
    let joined : c.join_seats.new.seats ≡ joined_seats a b =
    c.join_seats.ensures.joined ∙ ap (λ (l : List SeatAt). joined_seats l b)
    c.as_mut_slice.ensures.value in
    let few = subst (λ (l : List SeatAt). All (λ (s : SeatAt). s.permits ≤ s.shard.passes) l) joined
    c.join_seats.ensures.few in
    let most = joined_few a b c.p.inside.permits c.other.inside.permits
    c.p.invariant c.other.invariant (own ∙ sym theirs) few c.self.inside.tables.items
    c.self.inside.share c.self.inside.cut c.self.inside.passes c.self.invariant
    (own ∙ sym (ap (λ (a : GateState). a.id) c.self.view_is)) in
    omega (arith, most, ap (λ (a : GateState). a.passes) c.self.view_is)
