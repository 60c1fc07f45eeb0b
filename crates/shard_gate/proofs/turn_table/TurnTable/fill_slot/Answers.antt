-- A fill keeps the rule.
use Rattle.std.proofs.Common.{ap, subst, sym, ◌∙◌, ◌<◌, arith}
use Rattle.shard_gate.specs.Seated.{ShardId}
use Rattle.shard_gate.specs.Words.{slots_of}
use Rattle.shard_gate.proofs.SlotRule.{fill_allowed}
use Rattle.shard_gate.proofs.turn_table.TurnTable.fill_slot.Goals as goal

pub store-requires : goal.store-requires
store-requires g c =
    let same = c.requires.table ∙ sym c.self.view_is in
    let key = c.self.inside.table.shared.key in
    let inside : c.args.slot < slots_of key.passes =
    subst (λ n. c.args.slot < slots_of n) (ap (λ (z : ShardId). z.passes) same) c.requires.may.inside in (
      ap (λ (z : ShardId). z.table) same,
      omega (arith, c.self.invariant.words),
      fill_allowed g.L.BodyRule.lawful g.L.BodyRule.shown g.L.BodyRule.words key _ _ c.args.slot c.args.key _
          c.requires.may,
    )
