use Rattle.std.proofs.Common.{[], ap, sym, ◌∙◌, arith}
use Rattle.std.proofs.lemmas.List.{get_or_default}
use Rattle.tile_store.specs.Links.{walk, last_of}
use Rattle.tile_store.proofs.LinkLemmas.{before_is_end, no_last, some_last}
use Rattle.tile_store.proofs.links.Links.last.Goals as goal

pub returns-then-place-self : goal.returns-then-place-self
returns-then-place-self c =
    let s = c.self.inside in
    let o = walk s.next.items s.len s.root in
    let size = c.self.invariant.prev_length in
    let end = before_is_end s.next.items s.prev.items s.root s.root o [] c.self.invariant.ring in
    let got = c.index-place.ensures ∙ get_or_default s.prev.items s.root _ 0 (omega arith) in
    no_last s.root o c.self.invariant.below (sym end ∙ sym got ∙ c.if-place-self.true)
    ∙ ap (λ l. last_of l.order) c.self.view_is

pub returns-else-place-self : goal.returns-else-place-self
returns-else-place-self c =
    let s = c.self.inside in
    let o = walk s.next.items s.len s.root in
    let size = c.self.invariant.prev_length in
    let end = before_is_end s.next.items s.prev.items s.root s.root o [] c.self.invariant.ring in
    let got = c.index-place.ensures ∙ get_or_default s.prev.items s.root _ 0 (omega arith) in
    some_last s.root c.index-place.result.now o (sym end ∙ sym got) c.if-place-self.false
    ∙ ap (λ l. last_of l.order) c.self.view_is
