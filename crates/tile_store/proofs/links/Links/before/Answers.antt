use Rattle.std.proofs.Common.{◌≡◌, ◌++◌, ◌∷◌, [], true, ap, sym, subst, ◌∙◌, append_assoc, arith}
use Rattle.std.proofs.lemmas.List.{get_or_default}
use Rattle.tile_store.specs.Links.{is_in, walk, Path}
use Rattle.tile_store.proofs.LinkLemmas.{before_is_end, no_last, some_last, below_front}
use Rattle.tile_store.proofs.links.Links.before.Goals as goal

pub returns-then-before-self : goal.returns-then-before-self
returns-then-before-self c front back parts =
    let s = c.self.inside in
    let o = walk s.next.items s.len s.root in
    let cut = ap (λ l. l.order) c.self.view_is ∙ parts in
    let has = subst (λ l. is_in c.args.place l.order ≡ true) (sym c.self.view_is) c.requires in
    let low = c.self.invariant.below c.args.place has in
    let size = c.self.invariant.prev_length in
    let ring = subst (Path s.next.items s.prev.items s.root)
    (ap (λ l. l ++ s.root ∷ []) cut ∙ append_assoc front (c.args.place ∷ back) (s.root ∷ []))
    c.self.invariant.ring in
    let end = before_is_end s.next.items s.prev.items s.root c.args.place front (back ++ s.root ∷ []) ring in
    let got = c.index-before.ensures ∙ get_or_default s.prev.items c.args.place _ 0 (omega arith) in
    no_last s.root front (below_front s.root o front (c.args.place ∷ back) cut c.self.invariant.below)
    (sym end ∙ sym got ∙ c.if-before-self.true)

pub returns-else-before-self : goal.returns-else-before-self
returns-else-before-self c front back parts =
    let s = c.self.inside in
    let o = walk s.next.items s.len s.root in
    let cut = ap (λ l. l.order) c.self.view_is ∙ parts in
    let has = subst (λ l. is_in c.args.place l.order ≡ true) (sym c.self.view_is) c.requires in
    let low = c.self.invariant.below c.args.place has in
    let size = c.self.invariant.prev_length in
    let ring = subst (Path s.next.items s.prev.items s.root)
    (ap (λ l. l ++ s.root ∷ []) cut ∙ append_assoc front (c.args.place ∷ back) (s.root ∷ []))
    c.self.invariant.ring in
    let end = before_is_end s.next.items s.prev.items s.root c.args.place front (back ++ s.root ∷ []) ring in
    let got = c.index-before.ensures ∙ get_or_default s.prev.items c.args.place _ 0 (omega arith) in
    some_last s.root c.index-before.result.now front (sym end ∙ sym got) c.if-before-self.false
