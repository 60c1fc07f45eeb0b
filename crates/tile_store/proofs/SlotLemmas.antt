-- What each change of a slot leaves of the slots, the index and the order.
use Rattle.std.proofs.Common.{◌≡◌, ◌≢◌, ℕ, ◌+◌, ◌<◌, ◌≤◌, true, false, cond, nat_eq}
use Rattle.std.proofs.Common.{List, [], ◌∷◌, ◌++◌, length, length-append, get_or, set, Option, Some, None, IsSomeAnd}
use Rattle.std.proofs.Common.{refl, sym, ap, ◌∙◌, subst, ⊎_elim, arith}
use Rattle.std.specs.List.{IsDistinct}
use Rattle.std.specs.Map.{remove_entry, set_value}
use Rattle.std.proofs.lemmas.Bool.{eqb-true, eqb-false, ne_eqb}
use Rattle.std.proofs.lemmas.Bool.{cases_eq, cases_lt, false≢true}
use Rattle.std.proofs.lemmas.Grind.{get_or-set_at}
use Rattle.std.proofs.lemmas.List.{length-set, get_or-set_other, get_or_default, get_or_past}
use Rattle.tile_store.specs.CachedTile.{EntryState, Entries, entry_at}
use Rattle.tile_store.specs.Links.{Linked, linked, is_in, without}
use Rattle.tile_store.specs.Order.{entry_in, in_front, entries_of, IsOrder}
use Rattle.tile_store.specs.Keys.{slot_of, key_in, AreApart}
use Rattle.tile_store.proofs.KeyLemmas.{slot_by}
use Rattle.tile_store.specs.Leaving.{promoted}
use Rattle.std.specs.Option.{option_map_or}
use Rattle.tile_store.proofs.MapLemmas.{found as lookup_found}
use Rattle.tile_store.proofs.OrderLemmas.{there, is_there, remove_in, set_out, set_in}
use Rattle.tile_store.proofs.OrderLemmas.{tested_some, entry_by_some}
use Rattle.tile_store.proofs.PlaceLemmas.{gone, in-without, length-without}
use Rattle.tile_store.proofs.EndLemmas.{distinct_end, in_end, in_moved, moved_in, stays_in}

-- ---- a slot with an entry is one of the slots

pub low_by : (slots : List (Option EntryState)) (p : ℕ) (P : EntryState → Type 0)
    → IsSomeAnd (entry_in slots p) P → p < length slots
low_by slots p P h =
    ⊎_elim (λ low. low) (λ (past : length slots ≤ p).
    let at = there (entry_in slots p) P h in
    let none : None ≡ Some at.entry = sym (get_or_past slots p None past) ∙ at.is in
    absurd cc)
    (cases_lt p (length slots))

pub none_of : (o : Option ℕ) → ((p : ℕ) → o ≡ Some p → ⊥) → o ≡ None
none_of None h = refl
none_of (Some p) h = absurd (h p refl)

-- a slot has the entry that is found by a key
pub record At (key : ℕ) (es : Entries) (got : Option EntryState) : Type 0 where
  pub found_is : entry_at key es ≡ got
  pub some : got ≡ None → ⊥
  pub key_is : (e : EntryState) → got ≡ Some e → e.tile.key ≡ key

module _ (slots : List (Option EntryState)) (free : List ℕ) (room : ℕ) (index : List (Option ℕ)) (links : Linked) (is : IsOrder slots free room index links) where
  abbrev pub order : List ℕ
  order = links.order

  pub found_low : (key p : ℕ) → slot_of key index ≡ Some p → p < length slots
  found_low key p found = low_by slots p (λ e. e.tile.key ≡ key) (is.keyed key p found)

  pub held_low : (p : ℕ) → is_in p order ≡ true → p < length slots
  held_low p has = low_by slots p (λ e. slot_of e.tile.key index ≡ Some p) (is.held p has)

  -- what the slot has that the index finds
  pub at_found : (key p : ℕ) → slot_of key index ≡ Some p → (es : Entries) → entries_of slots order ≡ es
      → (got : Option EntryState) → got ≡ get_or slots p got → At key es got
  at_found key p found es same got is_got =
      let here = there (entry_in slots p) (λ e. e.tile.key ≡ key) (is.keyed key p found) in
      let slot_is : got ≡ entry_in slots p =
      is_got ∙ get_or_default slots p got None (found_low key p found) in
      record {
        found_is = ap (entry_at key) (sym same) ∙ entry_by_some slots free room index links is key p found ∙ sym slot_is;
        some = λ none. let both : None ≡ Some here.entry = sym none ∙ slot_is ∙ here.is in absurd cc;
        key_is = λ e some.
            let both : Some e ≡ Some here.entry = sym some ∙ slot_is ∙ here.is in
            let one : e ≡ here.entry = cc in
            ap (λ x. x.tile.key) one ∙ here.so;
      }

  -- if no entry has a key, the index finds none
  pub missing_by : (key : ℕ) → entry_at key (entries_of slots order) ≡ None → slot_of key index ≡ None
  missing_by key none = none_of (slot_of key index) (λ p found.
      let here = there (entry_in slots p) (λ e. e.tile.key ≡ key) (is.keyed key p found) in
      let both : None ≡ Some here.entry = sym none ∙ entry_by_some slots free room index links is key p found ∙ here.is in
      cc)

  -- a free slot has no key
  pub free_key : AreApart index → (p : ℕ) → entry_in slots p ≡ None → key_in index p ≡ None
  free_key apart p none =
      (elim (key_in index p) as (λ o. key_in index p ≡ o → o ≡ None) [
        | None ↦ λ _. refl
        | Some key ↦ λ has.
            let at = there (entry_in slots p) (λ e. e.tile.key ≡ key) (is.keyed key p (slot_by index apart key p has)) in
            let both : None ≡ Some at.entry = sym none ∙ at.is in
            absurd cc
      ]) refl

  -- a free slot is not in the order
  pub free_out : (p : ℕ) → entry_in slots p ≡ None → is_in p order ≡ false
  free_out p none =
      (elim (is_in p order) as (λ b. is_in p order ≡ b → b ≡ false) [
        | true ↦ λ has.
            let at = there (entry_in slots p) (λ e. slot_of e.tile.key index ≡ Some p) (is.held p has) in
            let both : None ≡ Some at.entry = sym none ∙ at.is in
            absurd cc
        | false ↦ λ _. refl
      ]) refl

  -- ---- the same slots in another order
  pub moved : (ps : List ℕ) → length ps ≡ length order → ((q : ℕ) → is_in q ps ≡ true → is_in q order ≡ true)
      → ((q : ℕ) → is_in q order ≡ true → is_in q ps ≡ true) → IsOrder slots free room index (linked ps links.places)
  moved ps size within all = record {
    places = is.places;
    shared = ap (λ n. length free + n) size ∙ is.shared;
    noted = is.noted;
    low = is.low;
    empty = is.empty;
    apart = is.apart;
    indexed = λ key p found. all p (is.indexed key p found);
    keyed = is.keyed;
    held = λ p has. is.held p (within p has);
  }

  pub to_front : (p : ℕ) → is_in p order ≡ true → IsOrder slots free room index (linked (p ∷ without p order) links.places)
  to_front p has = moved (p ∷ without p order) (omega (arith, length-without p order has))
      (λ q h. in_moved q p order has h) (λ q h. moved_in q p order h)

  -- moving a slot to the front, in terms of the entries
  pub first_promoted : (key p : ℕ) → slot_of key index ≡ Some p
      → entries_of slots (p ∷ without p order) ≡ promoted key (entries_of slots order)
  first_promoted key p found =
      let es : Entries = entries_of slots order in
      let here = there (entry_in slots p) (λ e. e.tile.key ≡ key) (is.keyed key p found) in
      let by : entry_at key es ≡ Some here.entry = entry_by_some slots free room index links is key p found ∙ here.is in
      let on = lookup_found (nat_eq key) (λ _. Unit) es here.entry by (λ k d h. tt) in
      let keys : key ≡ on.key = eqb-true key on.key on.passes in
      let whole : promoted key es ≡ (key, here.entry) ∷ remove_entry (nat_eq key) es =
      ap (λ o. option_map_or (λ e. e ∷ remove_entry (nat_eq key) es) o es) on.entry
      ∙ ap (λ k. (k, here.entry) ∷ remove_entry (nat_eq key) es) (sym keys) in
      ap (λ o. in_front o (entries_of slots (without p order))) here.is
      ∙ ap (λ k. (k, here.entry) ∷ entries_of slots (without p order)) here.so
      ∙ ap (λ l. (key, here.entry) ∷ l) (sym (remove_in key p slots order (tested_some slots free room index links is key p found)))
      ∙ sym whole

  -- ---- an entry is written under its key
  module _ (key p : ℕ) (found : slot_of key index ≡ Some p) (w : EntryState) (same_key : w.tile.key ≡ key) where
    pub new_at : (q : ℕ) → q ≡ p → entry_in (set slots p (Some w)) q ≡ Some w
    new_at q e = get_or-set_at slots p q (Some w) None e (found_low key p found)

    pub old_at : (q : ℕ) → q ≢ p → entry_in (set slots p (Some w)) q ≡ entry_in slots q
    old_at q other = get_or-set_other slots p q (Some w) None other

    pub written : IsOrder (set slots p (Some w)) free room index links
    written = record {
      places = length-set slots p (Some w) ∙ is.places;
      shared = is.shared;
      noted = is.noted;
      low = is.low;
      empty = λ q h. ⊎_elim
          (λ (e : q ≡ p).
          let at = there (entry_in slots p) (λ e. e.tile.key ≡ key) (is.keyed key p found) in
          let both : None ≡ Some at.entry = sym (is.empty q h) ∙ ap (entry_in slots) e ∙ at.is in
          absurd cc)
          (λ other. old_at q other ∙ is.empty q h) (cases_eq q p);
      apart = is.apart;
      indexed = is.indexed;
      keyed = λ k q h. ⊎_elim
          (λ (e : q ≡ p).
          let at = there (entry_in slots q) (λ e. e.tile.key ≡ k) (is.keyed k q h) in
          let here = there (entry_in slots p) (λ e. e.tile.key ≡ key) (is.keyed key p found) in
          let both : Some at.entry ≡ Some here.entry = sym at.is ∙ ap (entry_in slots) e ∙ here.is in
          let one : at.entry ≡ here.entry = cc in
          is_there (entry_in (set slots p (Some w)) q) (λ e. e.tile.key ≡ k) w (new_at q e)
          (same_key ∙ sym here.so ∙ ap (λ x. x.tile.key) (sym one) ∙ at.so))
          (λ other. subst (λ o. IsSomeAnd o (λ e. e.tile.key ≡ k)) (sym (old_at q other)) (is.keyed k q h))
          (cases_eq q p);
      held = λ q h. ⊎_elim
          (λ (e : q ≡ p).
          is_there (entry_in (set slots p (Some w)) q) (λ e. slot_of e.tile.key index ≡ Some q) w (new_at q e)
          (ap (λ k. slot_of k index) same_key ∙ found ∙ ap Some (sym e)))
          (λ other. subst (λ o. IsSomeAnd o (λ e. slot_of e.tile.key index ≡ Some q))
          (sym (old_at q other)) (is.held q h))
          (cases_eq q p);
    }

    -- an entry that is written goes to the front
    pub written_first : IsDistinct nat_eq order
        → entries_of (set slots p (Some w)) (p ∷ without p order)
        ≡ (key, w) ∷ remove_entry (nat_eq key) (entries_of slots order)
    written_first distinct =
        let back : Entries = entries_of (set slots p (Some w)) (without p order) in
        ap (λ o. in_front o back) (new_at p refl)
        ∙ ap (λ k. (k, w) ∷ back) same_key
        ∙ ap (λ l. (key, w) ∷ l) (set_out key p slots (Some w) (without p order) (gone p order distinct)
        ∙ sym (remove_in key p slots order (tested_some slots free room index links is key p found)))

    -- an entry that is written keeps its place
    pub written_there : IsDistinct nat_eq order
        → entries_of (set slots p (Some w)) order ≡ set_value (nat_eq key) (entries_of slots order) w
    written_there distinct =
        sym (set_in key p slots w order (tested_some slots free room index links is key p found) distinct
        (is.indexed key p found) same_key (found_low key p found))

  -- ---- an entry leaves
  module _ (key p : ℕ) (found : slot_of key index ≡ Some p) (new_index : List (Option ℕ)) (updates : (k : ℕ) → slot_of k new_index ≡ cond (nat_eq key k) None (slot_of k index)) where
    -- what the index still finds is under another key
    pub left_by : (k q : ℕ) → slot_of k new_index ≡ Some q → (nat_eq key k ≡ false) × (slot_of k index ≡ Some q)
    left_by k q h =
        (elim (nat_eq key k) as (λ b. nat_eq key k ≡ b → cond b None (slot_of k index) ≡ Some q
        → (nat_eq key k ≡ false) × (slot_of k index ≡ Some q)) [
          | true ↦ λ _ none. absurd cc
          | false ↦ λ other some. (other, some)
        ]) refl (sym (updates k) ∙ h)

    -- a slot with another key is another slot
    pub other_slot : (k q : ℕ) → nat_eq key k ≡ false → slot_of k index ≡ Some q → q ≢ p
    other_slot k q differ h = λ (e : q ≡ p).
        let at = there (entry_in slots q) (λ e. e.tile.key ≡ k) (is.keyed k q h) in
        let here = there (entry_in slots p) (λ e. e.tile.key ≡ key) (is.keyed key p found) in
        let both : Some at.entry ≡ Some here.entry = sym at.is ∙ ap (entry_in slots) e ∙ here.is in
        let one : at.entry ≡ here.entry = cc in
        eqb-false key k differ (sym here.so ∙ ap (λ x. x.tile.key) (sym one) ∙ at.so)

    pub removed : IsDistinct nat_eq order → IsOrder (set slots p None) (free ++ p ∷ []) room new_index (linked (without p order) links.places)
    removed distinct =
        let has = is.indexed key p found in
        let low = found_low key p found in
        let here = there (entry_in slots p) (λ e. e.tile.key ≡ key) (is.keyed key p found) in
        let out : is_in p free ≡ false =
        (elim (is_in p free) as (λ b. is_in p free ≡ b → b ≡ false) [
          | true ↦ λ h.
              let both : None ≡ Some here.entry = sym (is.empty p h) ∙ here.is in
              absurd cc
          | false ↦ λ _. refl
        ]) refl in
        let at_p : (q : ℕ) → q ≡ p → entry_in (set slots p None) q ≡ None = λ q e. get_or-set_at slots p q None None e low in
        let at_other : (q : ℕ) → q ≢ p → entry_in (set slots p None) q ≡ entry_in slots q =
        λ q other. get_or-set_other slots p q None None other in
        let shared = is.shared in
        let count = length-without p order has in
        record {
          places = length-set slots p None ∙ is.places;
          shared = omega (arith, length-append free (p ∷ []));
          noted = is.noted;
          low = λ q h. ⊎_elim (is.low q) (λ (e : q ≡ p). subst (λ n. q < n) is.places (subst (λ r. r < length slots) (sym e) low)) (in_end q p free h);
          empty = λ q h. ⊎_elim (λ e. at_p q e) (λ other.
              at_other q other ∙ ⊎_elim (is.empty q) (λ e. absurd (other e)) (in_end q p free h)) (cases_eq q p);
          apart = distinct_end p free is.apart out;
          indexed = λ k q h.
              let k_is = left_by k q h in
              stays_in q p order (other_slot k q k_is.0 k_is.1) (is.indexed k q k_is.1);
          keyed = λ k q h.
              let k_is = left_by k q h in
              subst (λ o. IsSomeAnd o (λ e. e.tile.key ≡ k)) (sym (at_other q (other_slot k q k_is.0 k_is.1))) (is.keyed k q k_is.1);
          held = λ q h.
              let was = in-without q p order h in
              let other : q ≢ p = λ e. false≢true (sym (gone p order distinct) ∙ subst (λ r. is_in r (without p order) ≡ true) e h) in
              let at = there (entry_in slots q) (λ e. slot_of e.tile.key index ≡ Some q) (is.held q was) in
              let differs : nat_eq key at.entry.tile.key ≡ false =
              ne_eqb key at.entry.tile.key (λ (e : key ≡ at.entry.tile.key).
              let both : Some q ≡ Some p = sym at.so ∙ ap (λ k. slot_of k index) (sym e) ∙ found in
              other cc) in
              is_there (entry_in (set slots p None) q) (λ e. slot_of e.tile.key new_index ≡ Some q) at.entry
              (at_other q other ∙ at.is)
              (updates at.entry.tile.key ∙ ap (λ b. cond b None (slot_of at.entry.tile.key index)) differs ∙ at.so);
        }

    pub removed_entries : IsDistinct nat_eq order
        → entries_of (set slots p None) (without p order) ≡ remove_entry (nat_eq key) (entries_of slots order)
    removed_entries distinct =
        set_out key p slots None (without p order) (gone p order distinct)
        ∙ sym (remove_in key p slots order (tested_some slots free room index links is key p found))
