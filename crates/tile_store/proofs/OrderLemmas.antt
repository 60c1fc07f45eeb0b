-- Changes of slots and their order, in terms of the list of entries.
use Rattle.std.proofs.Common.{◌≡◌, ℕ, suc, ◌<◌, ◌||◌, Bool, true, false, cond, nat_eq}
use Rattle.std.proofs.Common.{List, [], ◌∷◌, ◌++◌, length, set, Option, Some, None, IsSomeAnd}
use Rattle.std.proofs.Common.{refl, sym, ap, ◌∙◌, subst, ⊎_elim}
use Rattle.std.specs.List.{IsDistinct, AllByRecursion}
use Rattle.std.specs.Map.{keys_of, remove_entry, set_value}
use Rattle.std.proofs.lemmas.Bool.{eq-eqb, eqb-true, eqb-false, ne_eqb, or_parts, or_right, or_left}
use Rattle.std.proofs.lemmas.Bool.{cases_eq, false≢true}
use Rattle.std.proofs.lemmas.Grind.{get_or-set_at}
use Rattle.std.proofs.lemmas.List.{get_or-set_other}
use Rattle.tile_store.specs.CachedTile.{EntryState, Entries, entry_at}
use Rattle.tile_store.specs.Links.{Linked, is_in, without}
use Rattle.tile_store.specs.Order.{entry_in, in_front, entries_of, IsOrder}
use Rattle.tile_store.specs.Keys.{slot_of}
use Rattle.tile_store.proofs.PlaceLemmas.{apart_from}

-- what is there
pub record There (o : Option EntryState) (P : EntryState → Type 0) : Type 0 where
  pub entry : EntryState
  pub is : o ≡ Some entry
  pub so : P entry

pub there : (o : Option EntryState) (P : EntryState → Type 0) → IsSomeAnd o P → There o P
there None P h = absurd h
there (Some e) P h = record { entry = e; is = refl; so = h }

pub is_there : (o : Option EntryState) (P : EntryState → Type 0) (e : EntryState) → o ≡ Some e → P e
    → IsSomeAnd o P
is_there o P e is so = subst (λ x. IsSomeAnd x P) (sym is) so

-- ---- the entries of slots in an order; a test of their keys is a test of the slots

abbrev pub Tested : ℕ → (ℕ → Bool) → List (Option EntryState) → List ℕ → Type 0
Tested key test slots order =
    (q : ℕ) → is_in q order ≡ true → IsSomeAnd (entry_in slots q) (λ e. nat_eq key e.tile.key ≡ test q)

pub head_in : (p : ℕ) (ps : List ℕ) → is_in p (p ∷ ps) ≡ true
head_in p ps = or_left (nat_eq p p) (is_in p ps) (eq-eqb p p refl)

pub tail_in : (q p : ℕ) (ps : List ℕ) → is_in q ps ≡ true → is_in q (p ∷ ps) ≡ true
tail_in q p ps h = or_right (nat_eq q p) (is_in q ps) h

module _ (key p : ℕ) (slots : List (Option EntryState)) where
  -- the entry of the slot leaves
  pub remove_in : (order : List ℕ) → Tested key (nat_eq p) slots order
      → remove_entry (nat_eq key) (entries_of slots order) ≡ entries_of slots (without p order)
  remove_in [] tested = refl
  remove_in (q ∷ qs) tested =
      let at = there (entry_in slots q) (λ e. nat_eq key e.tile.key ≡ nat_eq p q) (tested q (head_in q qs)) in
      let rest = remove_in qs (λ r h. tested r (tail_in r q qs h)) in
      let back : Entries = entries_of slots qs in
      let step : cond (nat_eq p q) back ((at.entry.tile.key, at.entry) ∷ remove_entry (nat_eq key) back)
      ≡ entries_of slots (cond (nat_eq p q) qs (q ∷ without p qs)) =
      elim (nat_eq p q) as (λ b. cond b back ((at.entry.tile.key, at.entry) ∷ remove_entry (nat_eq key) back)
      ≡ entries_of slots (cond b qs (q ∷ without p qs))) [
        | true ↦ refl
        | false ↦ ap (λ l. (at.entry.tile.key, at.entry) ∷ l) rest
            ∙ ap (λ o. in_front o (entries_of slots (without p qs))) (sym at.is)
      ] in
      ap (λ o. remove_entry (nat_eq key) (in_front o back)) at.is
      ∙ ap (λ b. cond b back ((at.entry.tile.key, at.entry) ∷ remove_entry (nat_eq key) back)) at.so
      ∙ step

  -- the entry of the slot is found
  pub found_in : (order : List ℕ) → Tested key (nat_eq p) slots order → is_in p order ≡ true
      → entry_at key (entries_of slots order) ≡ entry_in slots p
  found_in [] tested has = absurd (false≢true has)
  found_in (q ∷ qs) tested has =
      let at = there (entry_in slots q) (λ e. nat_eq key e.tile.key ≡ nat_eq p q) (tested q (head_in q qs)) in
      let back : Entries = entries_of slots qs in
      let step : cond (nat_eq p q) (Some at.entry) (entry_at key back) ≡ entry_in slots p =
      (elim (nat_eq p q) as (λ b. nat_eq p q ≡ b → (b || is_in p qs) ≡ true
      → cond b (Some at.entry) (entry_at key back) ≡ entry_in slots p) [
        | true ↦ λ same _. sym at.is ∙ ap (entry_in slots) (sym (eqb-true p q same))
        | false ↦ λ _ more. found_in qs (λ r h. tested r (tail_in r q qs h)) more
      ]) refl has in
      ap (λ o. entry_at key (in_front o back)) at.is
      ∙ ap (λ b. cond b (Some at.entry) (entry_at key back)) at.so ∙ step

  pub set_out : (e : Option EntryState) (order : List ℕ) → is_in p order ≡ false
      → entries_of (set slots p e) order ≡ entries_of slots order
  set_out e [] out = refl
  set_out e (q ∷ qs) out =
      let parts = or_parts (nat_eq p q) (is_in p qs) out in
      let same : entry_in (set slots p e) q ≡ entry_in slots q =
      get_or-set_other slots p q e None (λ h. eqb-false p q parts.0 (sym h)) in
      ap (λ o. in_front o (entries_of (set slots p e) qs)) same
      ∙ ap (in_front (entry_in slots q)) (set_out e qs parts.1)

  -- the entry of the slot is written, under the same key
  pub set_in : (w : EntryState) (order : List ℕ) → Tested key (nat_eq p) slots order
      → IsDistinct nat_eq order → is_in p order ≡ true → w.tile.key ≡ key → p < length slots
      → set_value (nat_eq key) (entries_of slots order) w ≡ entries_of (set slots p (Some w)) order
  unfolding IsDistinct
  set_in w [] tested distinct has keyed low = absurd (false≢true has)
  set_in w (q ∷ qs) tested distinct has keyed low =
      let at = there (entry_in slots q) (λ e. nat_eq key e.tile.key ≡ nat_eq p q) (tested q (head_in q qs)) in
      let back : Entries = entries_of slots qs in
      let back_new : Entries = entries_of (set slots p (Some w)) qs in
      let step : cond (nat_eq p q) ((at.entry.tile.key, w) ∷ back)
      ((at.entry.tile.key, at.entry) ∷ set_value (nat_eq key) back w)
      ≡ in_front (entry_in (set slots p (Some w)) q) back_new =
      (elim (nat_eq p q) as (λ b. nat_eq p q ≡ b → (b || is_in p qs) ≡ true
      → cond b ((at.entry.tile.key, w) ∷ back)
      ((at.entry.tile.key, at.entry) ∷ set_value (nat_eq key) back w)
      ≡ in_front (entry_in (set slots p (Some w)) q) back_new) [
        | true ↦ λ same _.
            let is : p ≡ q = eqb-true p q same in
            let out : is_in p qs ≡ false =
            subst (λ r. is_in r qs ≡ false) (sym is) (apart_from q qs distinct.0) in
            let here : entry_in (set slots p (Some w)) q ≡ Some w =
            get_or-set_at slots p q (Some w) None (sym is) low in
            let keys : at.entry.tile.key ≡ w.tile.key =
            sym (eqb-true key at.entry.tile.key (at.so ∙ same)) ∙ sym keyed in
            ap (λ k. (k, w) ∷ back) keys
            ∙ ap (λ l. (w.tile.key, w) ∷ l) (sym (set_out (Some w) qs out))
            ∙ ap (λ o. in_front o back_new) (sym here)
        | false ↦ λ other more.
            let same : entry_in (set slots p (Some w)) q ≡ entry_in slots q =
            get_or-set_other slots p q (Some w) None (λ h. eqb-false p q other (sym h)) in
            ap (λ l. (at.entry.tile.key, at.entry) ∷ l)
            (set_in w qs (λ r h. tested r (tail_in r q qs h)) distinct.1 more keyed low)
            ∙ ap (λ o. in_front o back_new) (sym (same ∙ at.is))
      ]) refl has in
      ap (λ o. set_value (nat_eq key) (in_front o back) w) at.is
      ∙ ap (λ b. cond b ((at.entry.tile.key, w) ∷ back)
      ((at.entry.tile.key, at.entry) ∷ set_value (nat_eq key) back w)) at.so
      ∙ step

-- if no slot passes a test, no entry does
pub none_in : (key : ℕ) (slots : List (Option EntryState)) (order : List ℕ)
    → Tested key (λ _. false) slots order → entry_at key (entries_of slots order) ≡ None
none_in key slots [] tested = refl
none_in key slots (q ∷ qs) tested =
    let at = there (entry_in slots q) (λ e. nat_eq key e.tile.key ≡ false) (tested q (head_in q qs)) in
    let back : Entries = entries_of slots qs in
    ap (λ o. entry_at key (in_front o back)) at.is
    ∙ ap (λ b. cond b (Some at.entry) (entry_at key back)) at.so
    ∙ none_in key slots qs (λ r h. tested r (tail_in r q qs h))

pub entries_of-append : (slots : List (Option EntryState)) (xs ys : List ℕ)
    → entries_of slots (xs ++ ys) ≡ entries_of slots xs ++ entries_of slots ys
entries_of-append slots [] ys = refl
entries_of-append slots (x ∷ xs) ys =
    elim (entry_in slots x) as (λ o. in_front o (entries_of slots (xs ++ ys))
    ≡ in_front o (entries_of slots xs) ++ entries_of slots ys) [
      | None ↦ entries_of-append slots xs ys
      | Some e ↦ ap (λ l. (e.tile.key, e) ∷ l) (entries_of-append slots xs ys)
    ]

-- ---- what the index finds

module _ (slots : List (Option EntryState)) (free : List ℕ) (room : ℕ) (index : List (Option ℕ)) (links : Linked) (is : IsOrder slots free room index links) where
  abbrev order : List ℕ
  order = links.order

  -- the key of one slot is that of no other
  pub tested_some : (key p : ℕ) → slot_of key index ≡ Some p → Tested key (nat_eq p) slots order
  tested_some key p found q has =
      let at = there (entry_in slots q) (λ e. slot_of e.tile.key index ≡ Some q) (is.held q has) in
      let here = there (entry_in slots p) (λ e. e.tile.key ≡ key) (is.keyed key p found) in
      let same : nat_eq key at.entry.tile.key ≡ nat_eq p q =
      ⊎_elim
      (λ (e : p ≡ q).
      let both : Some here.entry ≡ Some at.entry = sym here.is ∙ ap (entry_in slots) e ∙ at.is in
      let one : here.entry ≡ at.entry = cc in
      eq-eqb key at.entry.tile.key (sym here.so ∙ ap (λ x. x.tile.key) one)
      ∙ sym (eq-eqb p q e))
      (λ (apart : p ≡ q → ⊥).
      ne_eqb key at.entry.tile.key (λ (e : key ≡ at.entry.tile.key).
      let both : Some p ≡ Some q = sym found ∙ ap (λ k. slot_of k index) e ∙ at.so in
      apart cc)
      ∙ sym (ne_eqb p q apart))
      (cases_eq p q) in
      is_there (entry_in slots q) (λ e. nat_eq key e.tile.key ≡ nat_eq p q) at.entry at.is same

  pub tested_none : (key : ℕ) → slot_of key index ≡ None → Tested key (λ _. false) slots order
  tested_none key missing q has =
      let at = there (entry_in slots q) (λ e. slot_of e.tile.key index ≡ Some q) (is.held q has) in
      let same : nat_eq key at.entry.tile.key ≡ false =
      ne_eqb key at.entry.tile.key (λ (e : key ≡ at.entry.tile.key).
      let both : None ≡ Some q = sym missing ∙ ap (λ k. slot_of k index) e ∙ at.so in
      absurd cc) in
      is_there (entry_in slots q) (λ e. nat_eq key e.tile.key ≡ false) at.entry at.is same

  pub entry_by_some : (key p : ℕ) → slot_of key index ≡ Some p
      → entry_at key (entries_of slots order) ≡ entry_in slots p
  entry_by_some key p found = found_in key p slots order (tested_some key p found) (is.indexed key p found)

  pub entry_by_none : (key : ℕ) → slot_of key index ≡ None → entry_at key (entries_of slots order) ≡ None
  entry_by_none key missing = none_in key slots order (tested_none key missing)

  -- ---- the count, and the keys
  length_of : (ps : List ℕ) → ((p : ℕ) → is_in p ps ≡ true → is_in p order ≡ true)
      → length (entries_of slots ps) ≡ length ps
  length_of [] within = refl
  length_of (p ∷ ps) within =
      let at = there (entry_in slots p) (λ e. slot_of e.tile.key index ≡ Some p)
      (is.held p (within p (head_in p ps))) in
      ap (λ o. length (in_front o (entries_of slots ps))) at.is
      ∙ ap suc (length_of ps (λ q h. within q (tail_in q p ps h)))

  pub length-entries : length (entries_of slots order) ≡ length order
  length-entries = length_of order (λ p h. h)

  apart_keys : (key p : ℕ) (ps : List ℕ) → slot_of key index ≡ Some p → is_in p ps ≡ false
      → ((q : ℕ) → is_in q ps ≡ true → is_in q order ≡ true)
      → AllByRecursion (λ k. nat_eq key k ≡ false) (keys_of (entries_of slots ps))
  apart_keys key p [] found out within = tt
  apart_keys key p (q ∷ qs) found out within =
      let parts = or_parts (nat_eq p q) (is_in p qs) out in
      let at = there (entry_in slots q) (λ e. nat_eq key e.tile.key ≡ nat_eq p q)
      (tested_some key p found q (within q (head_in q qs))) in
      subst (λ o. AllByRecursion (λ k. nat_eq key k ≡ false) (keys_of (in_front o (entries_of slots qs))))
      (sym at.is)
      (at.so ∙ parts.0, apart_keys key p qs found parts.1 (λ r h. within r (tail_in r q qs h)))

  distinct_of : (ps : List ℕ) → IsDistinct nat_eq ps
      → ((p : ℕ) → is_in p ps ≡ true → is_in p order ≡ true)
      → IsDistinct nat_eq (keys_of (entries_of slots ps))
  unfolding IsDistinct
  distinct_of [] distinct within = tt
  distinct_of (p ∷ ps) distinct within =
      let at = there (entry_in slots p) (λ e. slot_of e.tile.key index ≡ Some p)
      (is.held p (within p (head_in p ps))) in
      let inner = λ (q : ℕ) (h : is_in q ps ≡ true). within q (tail_in q p ps h) in
      subst (λ o. IsDistinct nat_eq (keys_of (in_front o (entries_of slots ps)))) (sym at.is) (
        apart_keys at.entry.tile.key p ps at.so (apart_from p ps distinct.0) inner,
        distinct_of ps distinct.1 inner,
      )

  pub distinct-entries : IsDistinct nat_eq order → IsDistinct nat_eq (keys_of (entries_of slots order))
  distinct-entries distinct = distinct_of order distinct (λ p h. h)
