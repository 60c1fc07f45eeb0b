-- What does a binary search find among files in the order of their names?
use Rattle.std.proofs.Common.{◌≡◌, ◌≢◌, inl, inr, ℕ, ◌+◌, ◌<◌, zero, suc, Bool, true, false}
use Rattle.std.proofs.Common.{List, [], ◌∷◌, length, get_or, All, Some, None, Err}
use Rattle.std.proofs.Common.{Ordering, Equal, Less, Greater, refl, sym, ◌∙◌, ap, subst, arith}
use Rattle.std.specs.Cmp.{IsTotalOrder, IsEquivalence}
use Rattle.std.specs.List.{HoldsAt, AllByRecursion, dedup}
use Rattle.std.specs.List.Sorted.{IsBinarySearchResult, IsStrictlySortedBy}
use Rattle.std.specs.Ordering.{nat_cmp, is_lt, ordering_reverse}
use Rattle.std.specs.Str.{bytes_eq}
use Rattle.std.specs.Cmp.Lexicographic.{slice_cmp, bytes_decides}
use Rattle.std.proofs.lemmas.Bool.{cases_lt}
use Rattle.std.proofs.lemmas.Cmp.{nat_list_cmp_total, tied_itself, eq_by_cmp_equiv}
use Rattle.std.proofs.lemmas.List.{length-map, get_or-map, get_or_default}
use Rattle.std.proofs.lemmas.List.Kept.{AllPairs-cons, Any-dedup, IsStrictlySortedBy-dedup}
use Rattle.std.proofs.lemmas.List.Sorted.{searchable_from_sorted}
use Rattle.std.proofs.lemmas.Map.Keys.{sorted_head, sorted_tail}
use Rattle.std.proofs.lemmas.Map.Lookups.{exact_bytes}
use Rattle.std.proofs.lemmas.Map.Text.{is_eq-slice_cmp}
use Rattle.tex_world.specs.Number.{number_in}
use Rattle.tex_world.specs.NumberLaws.{number_where, no_number_where}
use Rattle.host_folder.specs.declared.listed.Listed.{Listed}
use Rattle.host_folder.specs.Listing.{listed_name, listed_names, by_name, AreSorted, AreInOrder}
use Rattle.host_folder.specs.Listing.{KeepsNames}

-- ---- the order of names

-- how a file's name compares with another name
abbrev pub compared : List ℕ → Listed → Ordering
compared name file = slice_cmp nat_cmp (listed_name file) name

-- two files have the same name
abbrev pub have_same_name : Listed → Listed → Bool
have_same_name a b = bytes_eq (listed_name a) (listed_name b)

-- Names are in a total order.
pub by_name_total : IsTotalOrder by_name
by_name_total = record {
  antisymm = λ a b. nat_list_cmp_total.antisymm (listed_name a) (listed_name b);
  trans = λ a b c. nat_list_cmp_total.trans (listed_name a) (listed_name b) (listed_name c);
  congr = λ a b c. nat_list_cmp_total.congr (listed_name a) (listed_name b) (listed_name c);
}

-- what is less is not greater
not_greater : (o : Ordering) → is_lt o ≡ true → is_lt (ordering_reverse o) ≡ false
not_greater Less less = refl
not_greater Equal less = refl
not_greater Greater less = absurd (cc less)

-- In a list in strict order no name is less than the one before it.
pub sorted_in_order : (files : List Listed) → AreInOrder files → AreSorted files
sorted_in_order files ordered k d low within =
    let less = ordered k (k + 1) d (omega arith) within in
    let turned = by_name_total.antisymm (get_or files (k + 1) d) (get_or files k d) in
    ap is_lt turned ∙ not_greater _ less

-- a fact of each place of a list is a fact of the whole list
all_at : (P : Listed → Type 0) (files : List Listed) → AllByRecursion P files → All P files
all_at P [] each k d low = absurd (omega (arith, low))
all_at P (file ∷ files) each zero d low = each.0
all_at P (file ∷ files) each (suc k) d low = all_at P files each.1 k d (omega (arith, low))

-- Each is less than all after it in a list that std calls strictly sorted.
pub in_order : (files : List Listed) → IsStrictlySortedBy by_name files → AreInOrder files
in_order [] sorted = λ i j d before low. absurd (omega (arith, low))
in_order (file ∷ files) sorted =
    AllPairs-cons (λ a b. is_lt (by_name a b) ≡ true) file files
    (λ k d low. ap is_lt (all_at (λ y. by_name file y ≡ Less) files
    (sorted_head by_name file files sorted) k d low))
    (in_order files (sorted_tail by_name file files sorted))

-- What is left of a sorted list without its doubles is in strict order.
pub distinct_in_order : (files : List Listed) → AreSorted files
    → AreInOrder (dedup have_same_name files)
distinct_in_order files sorted =
    in_order (dedup have_same_name files)
    (IsStrictlySortedBy-dedup by_name_total
    (λ a b. sym (is_eq-slice_cmp (listed_name a) (listed_name b))) files sorted)

-- To have the same name is an equivalence.
same_name_equiv : IsEquivalence have_same_name
same_name_equiv =
    let equiv = eq_by_cmp_equiv by_name_total in
    let is = λ (a b : Listed). is_eq-slice_cmp (listed_name a) (listed_name b) in
    record {
      refl = λ a. sym (is a a) ∙ equiv.refl a;
      symm = λ a b. sym (is a b) ∙ equiv.symm a b ∙ is b a;
      congr = λ a b c same. sym (is a c) ∙ equiv.congr a b c (is a b ∙ same) ∙ is b c;
    }

-- Each name of a list is one of those that are left without its doubles.
pub distinct_keeps_names : (files : List Listed) → KeepsNames files (dedup have_same_name files)
distinct_keeps_names files k d low =
    let file = get_or files k d in
    let kept = Any-dedup same_name_equiv files file (k, low, get_or_default files k file d low) in
    let same = (bytes_decides (listed_name file) (listed_name kept.1)).0 kept.4 in
    (kept.0, kept.1, kept.2, kept.3, sym same)

-- ---- the search

-- an element of a list that has one
some_of : {X : Type 0} (xs : List X) (n : ℕ) → n < length xs → X
some_of [] n low = absurd (omega (arith, low))
some_of (x ∷ xs) n low = x

module _ (files : List Listed) (name : List ℕ) where
  -- a name that is less or greater is another
  less_is_other : (file : Listed) → compared name file ≡ Less → listed_name file ≢ name
  less_is_other file less same =
      let itself = tied_itself nat_list_cmp_total name in
      let here : slice_cmp nat_cmp name name ≡ Less =
      subst (λ x. slice_cmp nat_cmp x name ≡ Less) same less in
      cc

  greater_is_other : (file : Listed) → compared name file ≡ Greater → listed_name file ≢ name
  greater_is_other file greater same =
      let itself = tied_itself nat_list_cmp_total name in
      let here : slice_cmp nat_cmp name name ≡ Greater =
      subst (λ x. slice_cmp nat_cmp x name ≡ Greater) same greater in
      cc

  -- a file before another has a name that is less
  other_before : AreInOrder files → (k n : ℕ) (d : Listed) → k < n → n < length files
      → listed_name (get_or files n d) ≡ name → listed_name (get_or files k d) ≢ name
  other_before ordered k n d before low same other =
      let less = ordered k n d before low in
      let itself = tied_itself nat_list_cmp_total name in
      let first = subst (λ x. is_lt (slice_cmp nat_cmp x (listed_name (get_or files n d))) ≡ true)
      other less in
      let here = subst (λ x. is_lt (slice_cmp nat_cmp name x) ≡ true) same first in
      let wrong : false ≡ true = sym (ap is_lt itself) ∙ here in
      absurd (cc wrong)

  -- The file that is found has the name's number.
  pub number_found : (n : ℕ) → n < length files
      → HoldsAt (λ file. compared name file ≡ Equal) files n → AreInOrder files
      → number_in (listed_names files) name ≡ Some n
  number_found n low equal ordered =
      let d = some_of files n low in
      let long = length-map files listed_name in
      let same = exact_bytes (listed_name (get_or files n d)) name (equal d) in
      number_where (listed_names files) name n (omega (arith, low, long))
      (get_or-map listed_name files n d [] low ∙ same)
      (λ k before other. let within : k < length files = omega (arith, before, low) in
      other_before ordered k n d before low same
      (sym (get_or-map listed_name files k d [] within) ∙ other))

  -- If a gap is found, the name has no number.
  pub no_number_around : (n : ℕ) → AreInOrder files
      → IsBinarySearchResult (compared name) files (Err n)
      → number_in (listed_names files) name ≡ None
  no_number_around n ordered parted =
      let sides = parted (searchable_from_sorted nat_list_cmp_total listed_name files name
      (sorted_in_order files ordered)) in
      no_number_where (listed_names files) name
      (λ k low other.
      let within : k < length files = omega (arith, low, length-map files listed_name) in
      let d = some_of files k within in
      let here = sym (get_or-map listed_name files k d [] within) ∙ other in
      elim (cases_lt k n) as (λ _. ⊥) [
        | inl before ↦ less_is_other (get_or files k d) (sides.0 k d (omega arith) before) here
        | inr after ↦ greater_is_other (get_or files k d) (sides.1 k d after within) here
      ])
