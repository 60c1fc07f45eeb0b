use Rattle.std.proofs.Common.{◌≡◌, ◌<◌, ◌∷◌, false, ap, sym, subst, ◌∙◌, arith}
use Rattle.tile_store.specs.Links.{linked, is_in}
use Rattle.tile_store.proofs.LinkLemmas.{pushed, fewer_in}
use Rattle.tile_store.proofs.links.Links.push_front.Goals as goal

pub overflow_add-self : goal.overflow_add-self
overflow_add-self c =
    let s = c.self.inside in
    let few = c.self.invariant.few in
    let out = subst (λ l. is_in c.args.place l.order ≡ false) (sym c.self.view_is) c.requires.free in
    let low = subst (λ l. c.args.place < l.places) (sym c.self.view_is) c.requires.place in
    let most = fewer_in s.next.items s.prev.items s.root s.len c.args.place c.self.invariant low out in
    omega arith

pub invariant_of-self : goal.invariant_of-self
invariant_of-self c =
    let s = c.self.inside in
    let out = subst (λ l. is_in c.args.place l.order ≡ false) (sym c.self.view_is) c.requires.free in
    let low = subst (λ l. c.args.place < l.places) (sym c.self.view_is) c.requires.place in
    let done = pushed s.next.items s.prev.items s.root s.len c.args.place c.index-after.result.now
    c.self.invariant c.index-after.ensures low out in
    done.links

pub returns : goal.returns
returns c =
    let s = c.self.inside in
    let out = subst (λ l. is_in c.args.place l.order ≡ false) (sym c.self.view_is) c.requires.free in
    let low = subst (λ l. c.args.place < l.places) (sym c.self.view_is) c.requires.place in
    let done = pushed s.next.items s.prev.items s.root s.len c.args.place c.index-after.result.now
    c.self.invariant c.index-after.ensures low out in
    ap (λ o. linked o s.root) done.order_is
    ∙ ap (λ l. linked (c.args.place ∷ l.order) l.places) c.self.view_is
