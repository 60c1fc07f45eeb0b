use Rattle.std.proofs.Common.{rules, of_calls}
use Rattle.std.specs.Ordering.{nat_cmp, is_lt}
use Rattle.std.specs.Cmp.Lexicographic.{slice_cmp}
use Rattle.std.proofs.lemmas.Cmp.{nat_list_cmp_total}
use Rattle.std.proofs.lemmas.List.Sorted.{ranks_by, answers_always}
use Rattle.host_folder.specs.Listing.{listed_name}
use Rattle.host_folder.proofs.listing.sorted.Goals as goal

pub returns-in-Ok-clause-sorted : goal.returns-in-Ok-clause-sorted
returns-in-Ok-clause-sorted c =
    c.in-Ok.ensures.sorted
    (λ a b. is_lt (slice_cmp nat_cmp (listed_name a) (listed_name b)))
    (ranks_by nat_list_cmp_total listed_name)
    (answers_always _ _ _ (λ f a r f' k. search (rules, of_calls)))
