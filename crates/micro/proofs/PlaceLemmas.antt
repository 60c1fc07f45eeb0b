-- What a find and a placing make of the two places.
use Rattle.std.proofs.Common.{◌≡◌, ℕ, Bool, true, false, ◌||◌, nat_eq, List, [], ◌∷◌, ◌++◌}
use Rattle.std.proofs.Common.{map, Option, Some, None, IsNone, refl, sym, ap, ◌∙◌, subst}
use Rattle.std.specs.List.{list_any}
use Rattle.std.specs.Option.{option_map_or}
use Rattle.std.proofs.lemmas.Cmp.{nat_eq_equiv}
use Rattle.micro.specs.Items.{has_key, HasKey, AreItems, key_first, placed, items_in, IsMicro}
use Rattle.micro.specs.Recent.{AreRecent}
use Rattle.micro.proofs.RecentLemmas.{flip}
use Rattle.micro.proofs.HitLemmas.{none_from_absent}
use Rattle.micro.proofs.ItemLemmas.{no_items, one_item, two_apart, recent_again}
use Rattle.micro.proofs.ItemLemmas.{IsFirst, first_found, IsPlaced, placed_new}

module _ {P : Type 0} (key_of : P → ℕ) where
  -- the item there has the key
  abbrev pub is_at : ℕ → Option P → Bool
  is_at key item = option_map_or (has_key key_of key) item false

  pub first_stays : (key : ℕ) (first second : Option P) → IsMicro key_of first second
      → is_at key first ≡ true
      → key_first key_of key (items_in first second) ≡ items_in first second
  first_stays key None second is here = absurd cc
  first_stays key (Some a) None is here = rw here refl
  first_stays key (Some a) (Some b) is here =
      let alike = nat_eq_equiv.congr (key_of a) key (key_of b) here in
      let other = flip key (key_of b) (sym alike ∙ two_apart key_of a b is.items) in
      rw (here, other) refl

  pub second_first : (key : ℕ) (first second : Option P) → is_at key first ≡ false
      → is_at key second ≡ true
      → key_first key_of key (items_in first second) ≡ items_in second first
  second_first key first None not_first here = absurd cc
  second_first key None (Some b) not_first here = rw here refl
  second_first key (Some a) (Some b) not_first here = rw (not_first, here) refl

  there_is : (key : ℕ) (item : Option P) → is_at key item ≡ true → IsNone item → ⊥
  there_is key None here none = absurd cc
  there_is key (Some p) here none = absurd cc

  or_here : (a b : Bool) → b ≡ true → (a || (b || false)) ≡ true
  or_here true b h = refl
  or_here false b h = rw h refl

  any_first : (key : ℕ) (first second : Option P) → is_at key first ≡ true
      → list_any (nat_eq key) (map key_of (items_in first second)) ≡ true
  any_first key None second here = absurd cc
  any_first key (Some a) second here = rw (nat_eq_equiv.symm key (key_of a), here) refl

  any_second : (key : ℕ) (first second : Option P) → is_at key second ≡ true
      → list_any (nat_eq key) (map key_of (items_in first second)) ≡ true
  any_second key first None here = absurd cc
  any_second key None (Some b) here = rw (nat_eq_equiv.symm key (key_of b), here) refl
  any_second key (Some a) (Some b) here =
      let there = nat_eq_equiv.symm key (key_of b) ∙ here in
      or_here (nat_eq key (key_of a)) (nat_eq key (key_of b)) there

  module _ (key : ℕ) (first second : Option P) (is : IsMicro key_of first second) where
    -- the item found in the first place
    pub recent_first : (asked : List ℕ) → is_at key first ≡ true
        → AreRecent key_of asked (items_in first second)
        → AreRecent key_of (asked ++ key ∷ []) (items_in first second)
    recent_first asked here were =
        let items = items_in first second in
        let found = first_found key_of key items is.items (any_first key first second here) in
        let stays = first_stays key first second is here in
        recent_again key_of asked key items items (ap (map key_of) (sym stays) ∙ found.keys) were

    module _ (elsewhere : is_at key first ≡ false) (here : is_at key second ≡ true) where
      moved : key_first key_of key (items_in first second) ≡ items_in second first
      moved = second_first key first second elsewhere here

      found : IsFirst key_of key (items_in first second)
      found =
          first_found key_of key (items_in first second) is.items (any_second key first second here)

      -- the item found in the second place
      pub recent_second : (asked : List ℕ) → AreRecent key_of asked (items_in first second)
          → AreRecent key_of (asked ++ key ∷ []) (items_in second first)
      recent_second asked were =
          recent_again key_of asked key (items_in first second) (items_in second first)
          (ap (map key_of) (sym moved) ∙ found.keys) were

      pub micro_moved : IsMicro key_of second first
      micro_moved = record {
        in_order = λ none. absurd (there_is key second here none);
        items = subst (AreItems key_of) moved found.are;
      }

  pub items_placed : (p : P) (first second : Option P) → IsMicro key_of first second
      → items_in (Some p) first ≡ placed p (items_in first second)
  items_placed p None None is = refl
  items_placed p None (Some b) is = absurd (cc (is.in_order refl))
  items_placed p (Some a) None is = refl
  items_placed p (Some a) (Some b) is = refl

  module _ (p : P) (first second : Option P) (is : IsMicro key_of first second)
      (absent : ¬ HasKey key_of (key_of p) (items_in first second)) where
    left : IsPlaced key_of p (items_in first second)
    left =
        placed_new key_of p (items_in first second)
        (none_from_absent (map key_of (items_in first second)) (key_of p) absent)

    pub micro_placed : IsMicro key_of (Some p) first
    micro_placed = record {
      in_order = λ none. absurd cc;
      items = subst (AreItems key_of) (sym (items_placed p first second is)) left.are;
    }

    pub recent_placed : (asked : List ℕ) → AreRecent key_of asked (items_in first second)
        → AreRecent key_of (asked ++ key_of p ∷ []) (items_in (Some p) first)
    recent_placed asked were =
        recent_again key_of asked (key_of p) (items_in first second) (items_in (Some p) first)
        (ap (map key_of) (items_placed p first second is) ∙ left.keys) were

  pub micro_none : IsMicro key_of None None
  micro_none = record { in_order = λ none. refl; items = no_items key_of }

  pub micro_one : (first second : Option P) → IsMicro key_of first second
      → IsMicro key_of first None
  micro_one None second is = micro_none
  micro_one (Some a) second is = record { in_order = λ none. refl; items = one_item key_of a }
