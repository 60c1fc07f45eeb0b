use Rattle.std.proofs.Common.{◌≡◌, ◌∙◌, refl, ap, sym, subst}
use Rattle.tile_store.specs.Changes.{without_stale}
use Rattle.tile_store.proofs.LeftLemmas.{same_empties}
use Rattle.tile_store.proofs.MarkLemmas.{without_none}
use Rattle.tile_store.proofs.shard.Shard.purge.Goals as goal

pub returns-else-has-clause-entries : goal.returns-else-has-clause-entries
returns-else-has-clause-entries g c =
    let same = ap (λ o. o.entries) c.self.view_is in
    let none = sym c.has.ensures ∙ c.if-has.false in
    sym (subst (λ es. without_stale c.args.file c.args.below es ≡ es) same
    (without_none c.args.file c.args.below c.self.inside.marks c.self.inside.order.entries c.self.invariant.noted none))

pub returns-else-has-clause-slots : goal.returns-else-has-clause-slots
returns-else-has-clause-slots g c =
    same_empties c.args.self.now c.args.self.now (record { slots = refl; left = refl })
