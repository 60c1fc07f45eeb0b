use Rattle.std.proofs.Common.{◌≡◌, List, Some, None, rules, of_calls, subst, sym}
use Rattle.std.proofs.lemmas.Fn.{always_returns_same}
use Rattle.tex_world.specs.Number.{number_in}
use Rattle.host_folder.specs.declared.listed.Listed.{Listed}
use Rattle.host_folder.specs.Listing.{listed_names, AreInOrder}
use Rattle.host_folder.proofs.SearchLemmas.{compared, number_found, no_number_around}
use Rattle.host_folder.proofs.listing.Listing.find.Goals as goal

pub returns-in-Ok : goal.returns-in-Ok
returns-in-Ok c =
    let name = c.args.name.now in
    let same = c.as_slice.ensures.value in
    let at_n = c.in-Ok.ensures.position (compared name)
    (always_returns_same _ _ _ (λ a r f k. search (rules, of_calls))) in
    let ordered = subst AreInOrder (sym same) c.args.self.now.in_order in
    sym (subst (λ (files : List Listed). number_in (listed_names files) name ≡ Some c.in-Ok.n) same
    (number_found c.as_slice.result.now name c.in-Ok.n c.in-Ok.ensures.bound at_n ordered))

pub returns-in-Err : goal.returns-in-Err
returns-in-Err c =
    let name = c.args.name.now in
    let same = c.as_slice.ensures.value in
    let gap = c.in-Err.ensures.position (compared name)
    (always_returns_same _ _ _ (λ a r f k. search (rules, of_calls))) in
    let ordered = subst AreInOrder (sym same) c.args.self.now.in_order in
    sym (subst (λ (files : List Listed). number_in (listed_names files) name ≡ None) same
    (no_number_around c.as_slice.result.now name c.in-Err.field-0 ordered gap))
