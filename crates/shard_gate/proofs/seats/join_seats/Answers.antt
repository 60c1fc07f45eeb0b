-- One more seat is joined.
use Rattle.std.proofs.Common.{◌≡◌, ◌<◌, ◌≤◌, suc, length, set, ap, sym, ◌∙◌, length-append, arith}
use Rattle.std.proofs.lemmas.List.{length-map, length-take}
use Rattle.shard_gate.specs.Seated.{SeatAt, ShardId}
use Rattle.shard_gate.proofs.ListLemmas.{joined_step, prefix_step, few_step}
use Rattle.shard_gate.proofs.seats.join_seats.Goals as goal

pub left-preserved : goal.left-preserved
left-preserved g c =
    let k = c.len-k.result in
    let rest = c.pop.new.self.items in
    let at : k ≡ length rest = omega arith in
    let items = c.left.others.items in
    let len : length items ≡ suc (length rest) =
    omega (arith, ap length c.in-Some.ensures.items, length-append {A = SeatAt}) in
    let low : k < length c.left.seats =
    omega (
      arith,
      at,
      len,
      ap length c.left.invariant.others,
      length-take {A = SeatAt},
      c.left.auto.seats,
      ap length (c.requires.tables ∙ sym c.requires.others),
      length-map {A = SeatAt} {B = ShardId},
    ) in
    record {
      others = prefix_step c.args.others.items items rest c.in-Some.other
          c.in-Some.ensures.items c.left.invariant.others;
      seats = ap (λ s. set c.left.seats k s) c.join.ensures.both
          ∙ joined_step c.args.seats.now c.args.others.items c.left.seats items rest k
          c.index-seats-k.result c.in-Some.other c.in-Some.ensures.items c.left.invariant.others
          c.left.invariant.seats at (c.requires.tables ∙ sym c.requires.others);
      few = λ j d from to. few_step (λ s. s.permits ≤ s.shard.passes) c.left.seats k
          c.join.new.seat c.join.ensures.few low
          (λ i e above below. c.left.invariant.few i e (omega (arith, above, len, at)) below) j d
          (omega (arith, from, at)) to;
    }
