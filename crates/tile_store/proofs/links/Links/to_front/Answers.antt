use Rattle.std.proofs.Common.{◌<◌, ap, sym, subst, ◌∙◌}
use Rattle.tile_store.specs.Links.{is_in}
use Rattle.tile_store.proofs.PlaceLemmas.{gone}
use Rattle.tile_store.proofs.links.Links.to_front.Goals as goal

pub push_front-requires-clause-free : goal.push_front-requires-clause-free
push_front-requires-clause-free c =
    ap (λ l. is_in c.args.place l.order) c.remove.ensures
    ∙ gone c.args.place c.args.self.now.order c.len.ensures.distinct

pub push_front-requires-clause-place : goal.push_front-requires-clause-place
push_front-requires-clause-place c =
    subst (λ l. c.args.place < l.places) (sym c.remove.ensures)
    (c.len.ensures.below c.args.place c.requires)
