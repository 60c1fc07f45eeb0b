-- A take keeps the rule.
use Rattle.std.proofs.Common.{ap, sym, ◌∙◌, arith}
use Rattle.shard_gate.specs.Seated.{ShardId}
use Rattle.shard_gate.proofs.TurnRule.{take_allowed}
use Rattle.shard_gate.proofs.turn_table.TurnTable.try_take.Goals as goal

pub compare_exchange-requires : goal.compare_exchange-requires
compare_exchange-requires g c =
    let same = c.requires.table ∙ sym c.self.view_is in
    let key = c.self.inside.table.shared.key in (
      ap (λ (z : ShardId). z.table) same,
      omega (arith, c.self.invariant.words),
      take_allowed g.L.BodyRule.lawful g.L.BodyRule.shown g.L.BodyRule.words key _ _ _ c.requires.idle,
    )
