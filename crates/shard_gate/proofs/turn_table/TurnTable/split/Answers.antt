-- A split keeps the rule.
use Rattle.std.proofs.Common.{length, ap, sym, ◌∙◌, arith}
use Rattle.shard_gate.proofs.PinLemmas.{length_keys}
use Rattle.shard_gate.specs.Seated.{ShardId, SeatAt}
use Rattle.shard_gate.proofs.SeatRule.{split_allowed}
use Rattle.shard_gate.proofs.turn_table.TurnTable.split.Goals as goal

pub split_seat-new-requires : goal.split_seat-new-requires
split_seat-new-requires g c =
    let same = ap (λ (v : SeatAt). v.shard) c.seat.view_is ∙ (c.requires.shard ∙ sym c.self.view_is) in
    let key = c.self.inside.table.shared.key in (
      ap (λ (z : ShardId). z.table) same,
      omega (arith, c.self.invariant.words),
      split_allowed g.L.BodyRule.lawful g.L.BodyRule.shown g.L.BodyRule.words key _ _ c.seat.invariant.idle.live c.seat.invariant.idle.turn
          (omega (arith, ap (λ (v : SeatAt). v.permits) c.seat.view_is, c.requires.permits))
          (omega (
            arith,
            ap (λ (v : SeatAt). v.permits) c.seat.view_is,
            ap (λ (v : SeatAt). length v.pins) c.seat.view_is,
            c.requires.pins,
            length_keys c.seat.inside.seat.me.0.pins,
          )),
    )
