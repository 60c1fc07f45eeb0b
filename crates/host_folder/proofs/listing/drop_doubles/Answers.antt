use Rattle.std.proofs.Common.{rules, subst, sym}
use Rattle.std.proofs.lemmas.Fn.{dedup_same}
use Rattle.host_folder.specs.Listing.{AreInOrder, KeepsNames}
use Rattle.host_folder.proofs.SearchLemmas.{have_same_name, distinct_in_order, distinct_keeps_names}
use Rattle.host_folder.proofs.listing.drop_doubles.Goals as goal

pub returns-clause-in_order : goal.returns-clause-in_order
returns-clause-in_order c =
    let left = dedup_same _ have_same_name _ (λ x y b f' x' y' k. search rules) _ _
    c.dedup_by.ensures.filtered in
    subst AreInOrder (sym left) (distinct_in_order c.args.files.now.items c.requires)

pub returns-clause-names : goal.returns-clause-names
returns-clause-names c =
    let left = dedup_same _ have_same_name _ (λ x y b f' x' y' k. search rules) _ _
    c.dedup_by.ensures.filtered in
    subst (KeepsNames c.args.files.now.items) (sym left)
    (distinct_keeps_names c.args.files.now.items)
