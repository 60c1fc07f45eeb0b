-- What a new entry makes of the slots, the index and the order.
use Rattle.std.proofs.Common.{◌≡◌, ◌≢◌, ℕ, ◌<◌, ◌⊎◌, true, false, cond, nat_eq}
use Rattle.std.proofs.Common.{List, [], ◌∷◌, ◌++◌, length, length-append, set, Option, Some, None, IsSomeAnd}
use Rattle.std.proofs.Common.{refl, sym, ap, ◌∙◌, subst, inl, inr, ⊎_elim, arith}
use Rattle.std.specs.List.{IsDistinct}
use Rattle.std.proofs.lemmas.Bool.{eq-eqb, eqb-true, ne_eqb}
use Rattle.std.proofs.lemmas.Bool.{false≢true}
use Rattle.std.proofs.lemmas.Grind.{get_or-set_at}
use Rattle.std.proofs.lemmas.List.{length-set, get_or-set_other}
use Rattle.tile_store.specs.CachedTile.{EntryState}
use Rattle.tile_store.specs.Links.{Linked, linked, is_in}
use Rattle.tile_store.specs.Order.{entry_in, in_front, entries_of, IsOrder}
use Rattle.tile_store.specs.Keys.{slot_of}
use Rattle.tile_store.proofs.OrderLemmas.{there, is_there, head_in, tail_in, set_out}
use Rattle.tile_store.proofs.EndLemmas.{cases_in, ended, in_first, in_last}
use Rattle.tile_store.proofs.SlotLemmas.{free_out}

module _ (slots : List (Option EntryState)) (free : List ℕ) (room : ℕ) (index : List (Option ℕ)) (links : Linked) (is : IsOrder slots free room index links) where
  abbrev order : List ℕ
  order = links.order

  -- ---- a new entry
  module _ (key p : ℕ) (rest : List ℕ) (free_is : free ≡ rest ++ p ∷ []) (missing : slot_of key index ≡ None) (e : EntryState) (keyed : e.tile.key ≡ key) (new_index : List (Option ℕ)) (updates : (k : ℕ) → slot_of k new_index ≡ cond (nat_eq key k) (Some p) (slot_of k index)) where
    pub in_free : is_in p free ≡ true
    in_free = subst (λ l. is_in p l ≡ true) (sym free_is) (in_last p rest)

    pub free_low : p < length slots
    free_low = subst (λ n. p < n) (sym is.places) (is.low p in_free)

    pub not_in : is_in p order ≡ false
    not_in = free_out slots free room index links is p (is.empty p in_free)

    pub filled_at : (q : ℕ) → q ≡ p → entry_in (set slots p (Some e)) q ≡ Some e
    filled_at q same = get_or-set_at slots p q (Some e) None same free_low

    pub kept_at : (q : ℕ) → q ≢ p → entry_in (set slots p (Some e)) q ≡ entry_in slots q
    kept_at q other = get_or-set_other slots p q (Some e) None other

    pub held_apart : (q : ℕ) → is_in q order ≡ true → q ≢ p
    held_apart q has = λ same. false≢true (sym not_in ∙ subst (λ r. is_in r order ≡ true) same has)

    -- the index finds the new entry, or what it found before
    pub found_by : (k q : ℕ) → slot_of k new_index ≡ Some q → ((key ≡ k) × (q ≡ p)) ⊎ (slot_of k index ≡ Some q)
    found_by k q h =
        (elim (nat_eq key k) as (λ b. nat_eq key k ≡ b → cond b (Some p) (slot_of k index) ≡ Some q
        → ((key ≡ k) × (q ≡ p)) ⊎ (slot_of k index ≡ Some q)) [
          | true ↦ λ same some. let one : q ≡ p = cc in inl (eqb-true key k same, one)
          | false ↦ λ _ some. inr some
        ]) refl (sym (updates k) ∙ h)

    pub filled : IsOrder (set slots p (Some e)) rest room new_index (linked (p ∷ order) links.places)
    filled =
        let shared = is.shared in
        let size = ap length free_is ∙ length-append rest (p ∷ []) in
        let end = ended p rest (subst (λ l. IsDistinct nat_eq l) free_is is.apart) in
        let was_free : (q : ℕ) → is_in q rest ≡ true → is_in q free ≡ true =
        λ q h. subst (λ l. is_in q l ≡ true) (sym free_is) (in_first q p rest h) in
        record {
          places = length-set slots p (Some e) ∙ is.places;
          shared = omega arith;
          noted = is.noted;
          low = λ q h. is.low q (was_free q h);
          empty = λ q h.
              kept_at q (λ same. false≢true (sym end.out ∙ subst (λ r. is_in r rest ≡ true) same h))
              ∙ is.empty q (was_free q h);
          apart = end.rest;
          indexed = λ k q h. ⊎_elim
              (λ now. subst (λ r. is_in r (p ∷ order) ≡ true) (sym now.1) (head_in p order))
              (λ was. tail_in q p order (is.indexed k q was)) (found_by k q h);
          keyed = λ k q h. ⊎_elim
              (λ now. is_there (entry_in (set slots p (Some e)) q) (λ x. x.tile.key ≡ k) e (filled_at q now.1)
              (keyed ∙ now.0))
              (λ was. subst (λ o. IsSomeAnd o (λ x. x.tile.key ≡ k))
              (sym (kept_at q (held_apart q (is.indexed k q was)))) (is.keyed k q was))
              (found_by k q h);
          held = λ q h. ⊎_elim
              (λ (same : q ≡ p). is_there (entry_in (set slots p (Some e)) q) (λ x. slot_of x.tile.key new_index ≡ Some q)
              e (filled_at q same)
              (updates e.tile.key
              ∙ ap (λ b. cond b (Some p) (slot_of e.tile.key index)) (eq-eqb key e.tile.key (sym keyed))
              ∙ ap Some (sym same)))
              (λ (has : is_in q order ≡ true).
              let at = there (entry_in slots q) (λ x. slot_of x.tile.key index ≡ Some q) (is.held q has) in
              let differs : nat_eq key at.entry.tile.key ≡ false =
              ne_eqb key at.entry.tile.key (λ (same : key ≡ at.entry.tile.key).
              let both : None ≡ Some q = sym missing ∙ ap (λ k. slot_of k index) same ∙ at.so in
              absurd cc) in
              is_there (entry_in (set slots p (Some e)) q) (λ x. slot_of x.tile.key new_index ≡ Some q) at.entry
              (kept_at q (held_apart q has) ∙ at.is)
              (updates at.entry.tile.key
              ∙ ap (λ b. cond b (Some p) (slot_of at.entry.tile.key index)) differs ∙ at.so))
              (cases_in q p order h);
        }

    pub filled_entries : entries_of (set slots p (Some e)) (p ∷ order) ≡ (e.tile.key, e) ∷ entries_of slots order
    filled_entries =
        ap (λ o. in_front o (entries_of (set slots p (Some e)) order)) (filled_at p refl)
        ∙ ap (λ l. (e.tile.key, e) ∷ l) (set_out key p slots (Some e) order not_in)
