-- The old and the new seat both belong to the gate.
use Rattle.std.proofs.Common.{◌≡◌, ◌-◌, ◌*◌, ◌≤◌, List, map, drop, length, subst, ap, sym, ◌∙◌, arith}
use Rattle.std.specs.List.{All}
use Rattle.std.proofs.lemmas.List.{take_at, length-map}
use Rattle.shard_gate.specs.Words.{max_pins}
use Rattle.shard_gate.specs.Seated.{SeatAt, kept_seat, new_seat}
use Rattle.shard_gate.specs.Gate.{IsSecondSeat, AfterSplit}
use Rattle.shard_gate.specs.Kept.{IsPinSeat, seat_state}
use Rattle.shard_gate.proofs.PermitLemmas.{split_kept, after_split, second_seat, second_kept, split_fits}
use Rattle.shard_gate.proofs.gate.Gate.split.Goals as goal

pub split_seats-requires-clause-pins : goal.split_seats-requires-clause-pins
split_seats-requires-clause-pins g c =
    subst (λ (l : List SeatAt). All (λ (s : SeatAt). length s.pins ≤ max_pins * (s.permits - 1)) l)
    (sym c.as_mut_slice.ensures.value)
    (split_fits c.p.inside.seats.items c.p.inside.permits c.p.invariant c.args.p.now c.p.view_is
    c.requires.pins)

pub invariant_of-result : goal.invariant_of-result
invariant_of-result g c =
    let seats = c.p.inside.seats.items in
    let others : c.split_seats.new.others.items ≡ map new_seat seats =
    c.split_seats.ensures.others ∙ ap (map new_seat) c.as_mut_slice.ensures.value in
    subst (λ (l : List SeatAt). IsPinSeat l 1) (sym others)
    (second_kept seats c.p.inside.permits c.p.invariant c.args.p.now c.p.view_is)

pub invariant_of-p : goal.invariant_of-p
invariant_of-p g c =
    let seats = c.p.inside.seats.items in
    let kept : c.split_seats.new.seats ≡ map kept_seat seats =
    c.split_seats.ensures.kept ∙ ap (map kept_seat) c.as_mut_slice.ensures.value in
    let long : length c.split_seats.new.seats ≡ c.p.inside.seats.len =
    omega (arith, ap length kept, length-map {A = SeatAt} {B = SeatAt}) in
    subst (λ (l : List SeatAt). IsPinSeat l (c.p.inside.permits - 1))
    (sym (take_at c.split_seats.new.seats (drop (length c.split_seats.new.seats) seats)
    c.p.inside.seats.len long ∙ kept))
    (split_kept seats c.p.inside.permits c.p.invariant c.args.p.now c.p.view_is c.requires.permits
    c.requires.pins)

pub returns-clause-ok : goal.returns-clause-ok
returns-clause-ok g c =
    let seats = c.p.inside.seats.items in
    let others : c.split_seats.new.others.items ≡ map new_seat seats =
    c.split_seats.ensures.others ∙ ap (map new_seat) c.as_mut_slice.ensures.value in
    subst (λ (l : List SeatAt). IsSecondSeat c.args.p.now (seat_state l 1)) (sym others)
    (second_seat seats c.p.inside.permits c.p.invariant c.args.p.now c.p.view_is)

pub returns-clause-kept : goal.returns-clause-kept
returns-clause-kept g c =
    let seats = c.p.inside.seats.items in
    let kept : c.split_seats.new.seats ≡ map kept_seat seats =
    c.split_seats.ensures.kept ∙ ap (map kept_seat) c.as_mut_slice.ensures.value in
    let long : length c.split_seats.new.seats ≡ c.p.inside.seats.len =
    omega (arith, ap length kept, length-map {A = SeatAt} {B = SeatAt}) in
    subst (λ (l : List SeatAt). AfterSplit c.args.p.now (seat_state l (c.p.inside.permits - 1)))
    (sym (take_at c.split_seats.new.seats (drop (length c.split_seats.new.seats) seats)
    c.p.inside.seats.len long ∙ kept))
    (after_split seats c.p.inside.permits c.p.invariant c.args.p.now c.p.view_is)
