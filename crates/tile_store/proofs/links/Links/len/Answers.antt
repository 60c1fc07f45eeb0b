use Rattle.std.proofs.Common.{◌≤◌, length, ap, sym, subst, ◌∙◌, arith}
use Rattle.tile_store.specs.Links.{walk}
use Rattle.tile_store.proofs.RingLemmas.{length-walk}
use Rattle.tile_store.proofs.LinkLemmas.{few_in}
use Rattle.tile_store.proofs.links.Links.len.Goals as goal

pub returns-clause-len : goal.returns-clause-len
returns-clause-len c =
    let s = c.self.inside in
    sym (length-walk s.next.items s.len s.root) ∙ ap (λ l. length l.order) c.self.view_is

pub returns-clause-most : goal.returns-clause-most
returns-clause-most c =
    let s = c.self.inside in
    let few = few_in s.next.items s.prev.items s.root s.len c.self.invariant in
    let size = length-walk s.next.items s.len s.root in
    let most : length (walk s.next.items s.len s.root) ≤ s.root = omega arith in
    subst (λ l. length l.order ≤ l.places) c.self.view_is most
