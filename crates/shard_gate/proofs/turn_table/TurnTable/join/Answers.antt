-- A join keeps the rule.
use Rattle.std.proofs.Common.{ap, sym, ◌∙◌, arith}
use Rattle.atomic_table.specs.Table.{Me}
use Rattle.shard_gate.specs.declared.standing.Standing.{Standing}
use Rattle.shard_gate.specs.Seated.{ShardId, SeatAt}
use Rattle.shard_gate.proofs.PinLemmas.{no_pins}
use Rattle.shard_gate.proofs.SeatRule.{join_allowed}
use Rattle.shard_gate.proofs.TurnRule.{count_allowed}
use Rattle.shard_gate.proofs.turn_table.TurnTable.join.Goals as goal

pub join_seat-requires : goal.join_seat-requires
join_seat-requires g c =
    let own = ap (λ (v : SeatAt). v.shard) c.seat.view_is ∙ (c.requires.shard ∙ sym c.self.view_is) in
    let theirs = ap (λ (v : SeatAt). v.shard) c.other.view_is ∙ (c.requires.other ∙ sym c.self.view_is) in
    let key = c.self.inside.table.shared.key in (
      ap (λ (z : ShardId). z.table) own,
      ap (λ (z : ShardId). z.table) theirs,
      c.other.invariant.idle.slots,
      omega (arith, c.self.invariant.words),
      join_allowed g.L.BodyRule.lawful g.L.BodyRule.shown g.L.BodyRule.words key _ _ _ _ c.seat.invariant.idle.live c.other.invariant.idle.turn
          (no_pins c.other.inside.seat.me.0.pins
          (ap (λ (v : SeatAt). v.pins) c.other.view_is ∙ c.requires.pins)),
    )

pub load-requires : goal.load-requires
load-requires g c =
    let own = ap (λ (v : SeatAt). v.shard) c.seat.view_is ∙ (c.requires.shard ∙ sym c.self.view_is) in
    let joined = c.join_seat.ensures in (
      joined.0 ∙ ap (λ (z : ShardId). z.table) own,
      omega (arith, c.self.invariant.words),
      count_allowed g.L.BodyRule.lawful g.L.BodyRule.shown g.L.BodyRule.words c.self.inside.table.shared.key _ _ _
          (ap (λ (m : Me g.row.S.Denot Standing). m.0.live) joined.2 ∙ c.seat.invariant.idle.live),
    )
