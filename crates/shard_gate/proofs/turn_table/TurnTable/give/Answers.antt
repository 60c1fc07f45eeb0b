-- A give keeps the rule.
use Rattle.std.proofs.Common.{ap, sym, ◌∙◌, arith}
use Rattle.shard_gate.specs.Seated.{ShardId}
use Rattle.shard_gate.proofs.TurnRule.{give_allowed}
use Rattle.shard_gate.proofs.turn_table.TurnTable.give.Goals as goal

pub store-requires : goal.store-requires
store-requires g c =
    let same = c.requires.table ∙ sym c.self.view_is in
    let key = c.self.inside.table.shared.key in
    let body = c.requires.lawful in (
      ap (λ (z : ShardId). z.table) same,
      omega (arith, c.self.invariant.words),
      give_allowed g.L.BodyRule.lawful g.L.BodyRule.shown g.L.BodyRule.words key _ _ _ body.0
          c.requires.turn.0 c.requires.turn.1 body.1 body.2 body.3 c.self.invariant.slots,
    )
