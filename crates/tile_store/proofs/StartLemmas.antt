-- Slots without an entry.
use Rattle.std.proofs.Common.{◌≡◌, ℕ, zero, suc, ◌<◌, true, false, nat_eq}
use Rattle.std.proofs.Common.{List, [], ◌∷◌, length, length-append, replicate, drop, Option, Some, None}
use Rattle.std.proofs.Common.{refl, sym, ap, ◌∙◌, subst, ⊎_elim, arith}
use Rattle.std.specs.List.{IsDistinct}
use Rattle.std.proofs.lemmas.Bool.{false≢true}
use Rattle.std.proofs.lemmas.List.{get_or-replicate, length-replicate, drop_all}
use Rattle.tile_store.specs.CachedTile.{EntryState}
use Rattle.tile_store.specs.Links.{Linked, linked, is_in}
use Rattle.tile_store.specs.Keys.{slot_of, AreApart}
use Rattle.tile_store.specs.Order.{below, IsOrder, IsOrdered}
use Rattle.tile_store.proofs.KeyLemmas.{no_slot}
use Rattle.tile_store.proofs.RelinkLemmas.{none_key}
use Rattle.tile_store.proofs.EndLemmas.{distinct_end, in_end}

-- ---- at first

pub record Filling {X : Type 0} (made items : List X) (len cap count at : ℕ) : Type 0 where
  pub items_are : made ≡ items
  pub len_is : len ≡ at
  pub cap_is : cap ≡ count

pub below_low : (n p : ℕ) → is_in p (below n) ≡ true → p < n
below_low zero p h = absurd (false≢true h)
below_low (suc n) p h = ⊎_elim (λ more. let low = below_low n p more in omega arith) (λ e. omega arith) (in_end p n (below n) h)

pub out_below : (n : ℕ) → is_in n (below n) ≡ false
out_below n =
    (elim (is_in n (below n)) as (λ b. is_in n (below n) ≡ b → b ≡ false) [
      | true ↦ λ h. let low = below_low n n h in absurd (omega arith)
      | false ↦ λ _. refl
    ]) refl

pub below_apart : (n : ℕ) → IsDistinct nat_eq (below n)
unfolding IsDistinct
below_apart zero = tt
below_apart (suc n) = distinct_end n (below n) (below_apart n) (out_below n)

pub length-below : (n : ℕ) → length (below n) ≡ n
length-below zero = refl
length-below (suc n) = omega (arith, length-append (below n) (n ∷ []), length-below n)

no_slot_yet : (count key : ℕ) → slot_of key (replicate count None) ≡ None
no_slot_yet count key = no_slot key (replicate count None) (λ q h.
    let both : None ≡ Some key = sym (none_key count q) ∙ h in
    cc)

pub none_yet : (slots : List (Option EntryState)) (free : List ℕ) (room told count : ℕ) (index : List (Option ℕ)) (links : Linked)
    → slots ≡ replicate count None → free ≡ below count → room ≡ count → told ≡ count
    → index ≡ replicate count None → links ≡ linked [] count → IsOrdered slots free room told index links
none_yet slots free room told count index links slots_are free_are room_is told_is index_is links_are =
    let start : IsOrder (replicate count None) (below count) count (replicate count None) (linked [] count) = record {
      places = length-replicate count None;
      shared = omega (arith, length-below count);
      noted = omega arith;
      low = λ p h. below_low count p h;
      empty = λ p h. get_or-replicate count p None None (below_low count p h);
      apart = below_apart count;
      indexed = λ key p h. let both : None ≡ Some p = sym (no_slot_yet count key) ∙ h in absurd cc;
      keyed = λ key p h. let both : None ≡ Some p = sym (no_slot_yet count key) ∙ h in absurd cc;
      held = λ p h. absurd (false≢true h);
    } in
    let apart : AreApart (replicate count None) = λ p q key h _.
    let both : None ≡ Some key = sym (none_key count p) ∙ h in
    absurd cc in
    record {
      order = subst (λ l. IsOrder slots free room index l) (sym links_are)
          (subst (λ i. IsOrder slots free room i (linked [] count)) (sym index_is)
          (subst (λ r. IsOrder slots free r (replicate count None) (linked [] count)) (sym room_is)
          (subst (λ f. IsOrder slots f count (replicate count None) (linked [] count)) (sym free_are)
          (subst (λ l. IsOrder l (below count) count (replicate count None) (linked [] count)) (sym slots_are) start))));
      count = ap length index_is ∙ length-replicate {A = Option ℕ} count None ∙ sym (ap (λ l. l.places) links_are);
      apart = subst (λ l. AreApart l) (sym index_is) apart;
      told_low = omega (arith, length-below count, ap length free_are);
    }

-- all free slots were reported
pub told_all : (count : ℕ) → drop count (below count) ≡ []
told_all count = drop_all count (below count) (omega (arith, length-below count))
