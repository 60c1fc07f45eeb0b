-- How entries that leave, and one that comes, change the slots and those still to be reported.
use Rattle.std.proofs.Common.{◌≡◌, ℕ, ◌<◌, ◌≤◌, true, false, nat_eq, List, [], ◌∷◌, ◌++◌, length, length-append}
use Rattle.std.proofs.Common.{Option, Some, None, IfSome, IsSome, set, drop, append_assoc}
use Rattle.std.proofs.Common.{refl, sym, ap, ◌∙◌, subst, ⊎_elim, arith}
use Rattle.std.specs.List.{IsDistinct}
use Rattle.std.specs.Option.{option_map_or}
use Rattle.std.proofs.Common.{append-nil, set-set, Result, Ok, Err, OnOk}
use Rattle.std.proofs.lemmas.Bool.{eq-eqb, or_left, or_parts, or_from, cases_lt, false≢true}
use Rattle.std.proofs.lemmas.Grind.{get_or-set_at}
use Rattle.std.proofs.lemmas.List.{length-set, get_or-set_other, drop_all, drop-append-le}
use Rattle.tile_store.specs.CachedTile.{EntryState, entry_at}
use Rattle.tile_store.specs.Links.{Linked, is_in, last_of}
use Rattle.tile_store.specs.Keys.{key_in, slot_of, keyed_at, without_key}
use Rattle.tile_store.specs.Slots.{ShardState, AreInSlots, SameSlots, LosesKey, EmptiesSlots, FillsSlot}
use Rattle.tile_store.specs.Slots.{SlotsAfterInsert}
use Rattle.tile_store.specs.Order.{entries_of, IsOrdered, Evicts, MakesRoom}
use Rattle.tile_store.specs.Order.MakesRoom.{stays, evicts}
use Rattle.tile_store.proofs.OrderLemmas.{there, entry_by_some, entry_by_none, head_in, tail_in}
use Rattle.tile_store.proofs.PlaceLemmas.{apart_as, apart_from}
use Rattle.tile_store.proofs.EndLemmas.{cases_in}
use Rattle.tile_store.proofs.KeyLemmas.{slot_has, low_key}
use Rattle.tile_store.proofs.ChainLemmas.{out_fore, out_back, in_parts}
use Rattle.tile_store.proofs.WalkLemmas.{last_of_end}

-- the entries lie in their slots
pub in_slots : (slots : List (Option EntryState)) (free : List ℕ) (room told : ℕ) (index : List (Option ℕ)) (links : Linked)
    → IsOrdered slots free room told index links
    → AreInSlots (record { entries = entries_of slots links.order; slots = index; left = drop told free })
in_slots slots free room told index links is = record {
  apart = is.apart;
  some = λ key p found.
      let at = there _ (λ e. e.tile.key ≡ key) (is.order.keyed key p found) in
      subst (λ o. IsSome o) (sym (entry_by_some slots free room index links is.order key p found ∙ at.is)) refl;
  none = λ key missing. entry_by_none slots free room index links is.order key missing;
}

-- ---- slots that entries leave

-- no slot is there twice
once_none : IsDistinct nat_eq []
unfolding IsDistinct
once_none = tt

once_one : (p : ℕ) → IsDistinct nat_eq (p ∷ [])
unfolding IsDistinct
once_one p = (tt, tt)

-- a place that is in neither list is not in both together
out_parts : (p : ℕ) (xs ys : List ℕ) → is_in p xs ≡ false → is_in p ys ≡ false
    → is_in p (xs ++ ys) ≡ false
out_parts p [] ys out_xs out_ys = out_ys
out_parts p (x ∷ xs) ys out_xs out_ys =
    let parts = or_parts (nat_eq p x) (is_in p xs) out_xs in
    or_from (nat_eq p x) (is_in p (xs ++ ys)) parts.0 (out_parts p xs ys parts.1 out_ys)

-- what is not in a list, since that is absurd
not_in : (p : ℕ) (xs : List ℕ) → (is_in p xs ≡ true → ⊥) → is_in p xs ≡ false
not_in p xs never =
    (elim (is_in p xs) as (λ b. is_in p xs ≡ b → b ≡ false) [
      | true ↦ λ has. absurd (never has)
      | false ↦ λ _. refl
    ]) refl

-- two lists without a place in common have no place twice
once_both : (xs ys : List ℕ) → IsDistinct nat_eq xs → IsDistinct nat_eq ys
    → ((q : ℕ) → is_in q xs ≡ true → is_in q ys ≡ true → ⊥) → IsDistinct nat_eq (xs ++ ys)
unfolding IsDistinct
once_both [] ys apart_xs apart_ys never = apart_ys
once_both (x ∷ xs) ys apart_xs apart_ys never = (
  apart_as x (xs ++ ys) (out_parts x xs ys (apart_from x xs apart_xs.0)
      (not_in x ys (λ has. never x (head_in x xs) has))),
  once_both xs ys apart_xs.1 apart_ys (λ q was now. never q (tail_in q x xs was) now),
)

-- a slot without a key is not emptied again
emptied_twice : (a b c : ShardState) (x : EmptiesSlots a b) (y : EmptiesSlots b c) (q : ℕ)
    → is_in q x.emptied ≡ true → is_in q y.emptied ≡ true → ⊥
emptied_twice a b c x y q was now =
    let none = x.none q was in
    let some = y.had q now in
    false≢true (subst (λ o. IsSome o) none some)

pub same_empties : (old new : ShardState) → SameSlots old new → EmptiesSlots old new
same_empties old new same = record {
  emptied = [];
  left = same.left ∙ sym (append-nil old.left);
  once = once_none;
  had = λ p h. absurd (false≢true h);
  none = λ p h. absurd (false≢true h);
  kept = λ p _. ap (λ l. key_in l p) same.slots;
  count = ap length same.slots;
}

pub lost_empties : (key : ℕ) (old new : ShardState) → LosesKey key old new → EmptiesSlots old new
lost_empties key old new lost =
    (elim (slot_of key old.slots) as (λ o. slot_of key old.slots ≡ o → EmptiesSlots old new) [
      | None ↦ λ is. same_empties old new (record {
        slots = lost.slots ∙ ap (λ o. option_map_or (λ p. set old.slots p None) o old.slots) is;
        left = lost.left ∙ ap (λ o. old.left ++ option_map_or (λ p. p ∷ []) o []) is ∙ append-nil old.left;
      })
      | Some p ↦ λ is.
          let now : new.slots ≡ set old.slots p None =
          lost.slots ∙ ap (λ o. option_map_or (λ q. set old.slots q None) o old.slots) is in
          let low = low_key old.slots p key (slot_has key old.slots p is) in
          record {
            emptied = p ∷ [];
            left = lost.left ∙ ap (λ o. old.left ++ option_map_or (λ q. q ∷ []) o []) is;
            once = once_one p;
            had = λ q h. ⊎_elim
                (λ (e : q ≡ p). subst (λ o. IsSome o)
                (sym (ap (key_in old.slots) e ∙ slot_has key old.slots p is)) refl)
                (λ no_more. absurd (false≢true no_more)) (cases_in q p [] h);
            none = λ q h. ⊎_elim
                (λ (e : q ≡ p). ap (λ l. key_in l q) now ∙ get_or-set_at old.slots p q None None e low)
                (λ no_more. absurd (false≢true no_more)) (cases_in q p [] h);
            kept = λ q h. ap (λ l. key_in l q) now
                ∙ get_or-set_other old.slots p q None None (λ (e : q ≡ p).
                false≢true (sym h ∙ or_left (nat_eq q p) false (eq-eqb q p e)));
            count = ap length now ∙ length-set old.slots p None;
          }
    ]) refl

pub evicted_empties : (old new : ShardState) → Evicts old new → EmptiesSlots old new
evicted_empties old new e = lost_empties e.key old new e.lost

pub empties_more : (a b c : ShardState) → EmptiesSlots a b → EmptiesSlots b c → EmptiesSlots a c
empties_more a b c x y = record {
  emptied = x.emptied ++ y.emptied;
  left = y.left ∙ ap (λ l. l ++ y.emptied) x.left ∙ append_assoc a.left x.emptied y.emptied;
  once = once_both x.emptied y.emptied x.once y.once (λ q was now. emptied_twice a b c x y q was now);
  had = λ q h.
      (elim (is_in q x.emptied) as (λ i. is_in q x.emptied ≡ i → IsSome (key_in a.slots q)) [
        | true ↦ λ was. x.had q was
        | false ↦ λ not. subst (λ o. IsSome o) (x.kept q not) (y.had q (⊎_elim
            (λ was. absurd (false≢true (sym not ∙ was))) (λ now. now)
            (in_parts q x.emptied y.emptied h)))
      ]) refl;
  none = λ q h.
      (elim (is_in q y.emptied) as (λ i. is_in q y.emptied ≡ i → key_in c.slots q ≡ None) [
        | true ↦ λ now. y.none q now
        | false ↦ λ not. y.kept q not ∙ ⊎_elim (λ was. x.none q was)
            (λ now. absurd (false≢true (sym not ∙ now))) (in_parts q x.emptied y.emptied h)
      ]) refl;
  kept = λ q h. y.kept q (out_back q x.emptied y.emptied h) ∙ x.kept q (out_fore q x.emptied y.emptied h);
  count = y.count ∙ x.count;
}

pub length-without_key : (key : ℕ) (keys : List (Option ℕ)) → length (without_key key keys) ≡ length keys
length-without_key key keys =
    elim (slot_of key keys) as (λ o. length (option_map_or (λ p. set keys p None) o keys) ≡ length keys) [
      | None ↦ refl
      | Some p ↦ length-set keys p None
    ]

-- ---- a slot that an entry gets
pub fills : (key slot : ℕ) (old mid new : ShardState) → MakesRoom old mid → old.left ≡ []
    → new.slots ≡ keyed_at slot key mid.slots → IfSome (last_of mid.left) (λ p. slot ≡ p)
    → new.left ≡ [] → FillsSlot key old new
fills key slot old mid new (stays same) none now last left = record {
  slot = slot;
  slots = now ∙ ap (keyed_at slot key) same.slots;
  left = left;
}
fills key slot old mid new (evicts e) none now last left =
    (elim (slot_of e.key old.slots) as (λ o. slot_of e.key old.slots ≡ o → FillsSlot key old new) [
      | None ↦ λ is. record {
        slot = slot;
        slots = now ∙ ap (keyed_at slot key)
            (e.lost.slots ∙ ap (λ o. option_map_or (λ p. set old.slots p None) o old.slots) is);
        left = left;
      }
      | Some p ↦ λ is.
          let was : mid.slots ≡ set old.slots p None =
          e.lost.slots ∙ ap (λ o. option_map_or (λ q. set old.slots q None) o old.slots) is in
          let told : mid.left ≡ p ∷ [] =
          e.lost.left ∙ ap (λ o. old.left ++ option_map_or (λ q. q ∷ []) o []) is ∙ ap (λ l. l ++ p ∷ []) none in
          let here : slot ≡ p = subst (λ l. IfSome (last_of l) (λ q. slot ≡ q)) told last in
          record {
            slot = slot;
            slots = now ∙ ap (keyed_at slot key) (was ∙ ap (λ q. set old.slots q None) (sym here))
                ∙ set-set old.slots slot None (Some key);
            left = left;
          }
    ]) refl

pub refilled : (key : ℕ) (a b c : ShardState) → SameSlots a b → FillsSlot key b c → FillsSlot key a c
refilled key a b c same f = record {
  slot = f.slot;
  slots = f.slots ∙ ap (keyed_at f.slot key) same.slots;
  left = f.left;
}

pub after_insert : {A E : Type 0} (r : Result A E) (key : ℕ) (a b c : ShardState) → SameSlots a b
    → entry_at key a.entries ≡ None → OnOk r (FillsSlot key b c) → OnOk r (SlotsAfterInsert key a c)
after_insert (Err e) key a b c same none fills_b = tt
after_insert (Ok x) key a b c same none fills_b = record {
  kept = λ some. absurd (false≢true (subst (λ o. IsSome o) none some));
  filled = λ _. refilled key a b c same fills_b;
}

pub after_pin : (key : ℕ) (a b : ShardState) → SameSlots a b → (entry_at key a.entries ≡ None → ⊥)
    → SlotsAfterInsert key a b
after_pin key a b same some = record { kept = λ _. same; filled = λ none. absurd (some none) }

-- ---- the free slots that were reported

pub told_end : (told p : ℕ) (free : List ℕ) → told ≤ length free → drop told (free ++ p ∷ []) ≡ drop told free ++ p ∷ []
told_end told p free low = drop-append-le told free (p ∷ []) low

pub last_told : (told p : ℕ) (rest free : List ℕ) → free ≡ rest ++ p ∷ [] → told ≤ length free
    → IfSome (last_of (drop told free)) (λ q. p ≡ q)
last_told told p rest free parts low =
    let size = ap length parts ∙ length-append rest (p ∷ []) in
    ⊎_elim
    (λ (past : length rest < told).
    let none : drop told free ≡ [] = drop_all told free (omega arith) in
    subst (λ l. IfSome (last_of l) (λ q. p ≡ q)) (sym none) tt)
    (λ (within : told ≤ length rest).
    let same : drop told free ≡ drop told rest ++ p ∷ [] = ap (drop told) parts ∙ told_end told p rest within in
    subst (λ o. IfSome o (λ q. p ≡ q)) (sym (ap last_of same ∙ last_of_end (drop told rest) p)) refl)
    (cases_lt (length rest) told)
