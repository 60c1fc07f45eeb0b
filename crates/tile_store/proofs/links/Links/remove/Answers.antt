use Rattle.std.proofs.Common.{◌≡◌, true, ap, sym, subst, ◌∙◌}
use Rattle.tile_store.specs.Links.{linked, is_in, without}
use Rattle.tile_store.proofs.LinkLemmas.{removed}
use Rattle.tile_store.proofs.links.Links.remove.Goals as goal

pub invariant_of-self : goal.invariant_of-self
invariant_of-self c =
    let s = c.self.inside in
    let has = subst (λ l. is_in c.args.place l.order ≡ true) (sym c.self.view_is) c.requires in
    let done = removed s.next.items s.prev.items s.root s.len c.args.place c.index-before.result.now
    c.index-after.result.now c.self.invariant c.index-before.ensures c.index-after.ensures has in
    done.links

pub returns : goal.returns
returns c =
    let s = c.self.inside in
    let has = subst (λ l. is_in c.args.place l.order ≡ true) (sym c.self.view_is) c.requires in
    let done = removed s.next.items s.prev.items s.root s.len c.args.place c.index-before.result.now
    c.index-after.result.now c.self.invariant c.index-before.ensures c.index-after.ensures has in
    ap (λ o. linked o s.root) done.order_is
    ∙ ap (λ l. linked (without c.args.place l.order) l.places) c.self.view_is
