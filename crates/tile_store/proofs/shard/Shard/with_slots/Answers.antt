use Rattle.std.proofs.Common.{ap, sym, subst}
use Rattle.tile_store.specs.Lawful.{Lawful}
use Rattle.tile_store.proofs.LawfulLemmas.{lawful_empty}
use Rattle.tile_store.proofs.shard.Shard.with_slots.Goals as goal

pub returns-clause-lawful : goal.returns-clause-lawful
returns-clause-lawful g c = λ tag.
    subst (Lawful g.W.World.files tag) (sym (ap (λ o. o.entries) c.in_ok-with_slots.ensures)) (lawful_empty g.W.World.files tag)
