-- How many pins each key has, and what the calls of a shard leave of that.
use Rattle.std.proofs.Common.{◌≡◌, ◌≢◌, ℕ, zero, suc, ◌+◌, ◌≤◌, ◌==◌, true, false}
use Rattle.std.proofs.Common.{cond, not, nat_eq, List, [], ◌∷◌, length, map, Option, Some}
use Rattle.std.proofs.Common.{None, ne_eqb, refl, sym, ap, subst, ◌∙◌, arith}
use Rattle.std.specs.Prelude.{slice_index}
use Rattle.std.specs.Option.{option_map_or}
use Rattle.std.specs.List.{AllByRecursion, IsDistinct}
use Rattle.std.specs.Map.{remove_entry, set_value, keys_of}
use Rattle.std.proofs.lemmas.Bool.{eqb-true, eq-eqb}
use mathlib.Core.Logic.{dite}
use native.Mathlib.Decide.{ℕ_discrete}
use Rattle.tile_store.specs.CachedTile.{EntryState, Entries, entry_at, pinned_entries}
use Rattle.tile_store.specs.Changes.{one_more, one_less, pinned_first, unpinned_once}
use Rattle.tile_store.specs.Changes.{KeepsPinned}
use Rattle.tile_store.specs.Keys.{key_in}
use Rattle.tile_store.specs.Slots.{ShardState}
use Rattle.tile_store.proofs.MapLemmas.{lookup-set_value_same}
use Rattle.shard_gate.specs.Home.{key_number, pins_at, pins_in, words_of}

-- ---- lists

pub long_as : (f : Option ℕ → ℕ) (xs : List (Option ℕ)) → length (map f xs) ≡ length xs
long_as f [] = refl
long_as f (x ∷ xs) = omega (arith, long_as f xs)

pub same_items : (xs ys : List ℕ) → length xs ≡ length ys
    → ((k : ℕ) → slice_index xs k ≡ slice_index ys k) → xs ≡ ys
same_items [] [] long same = refl
same_items [] (y ∷ ys) long same = absurd (omega arith)
same_items (x ∷ xs) [] long same = absurd (omega arith)
same_items (x ∷ xs) (y ∷ ys) long same =
    let rest : xs ≡ ys = same_items xs ys (omega arith) (λ k. same (suc k)) in
    λ i. same zero i ∷ rest i

pub key_at : (slots : List (Option ℕ)) (k : ℕ)
    → slice_index (map key_number slots) k ≡ key_number (key_in slots k)
key_at [] k = refl
key_at (s ∷ slots) zero = refl
key_at (s ∷ slots) (suc k) = key_at slots k

pub pins_of_slot : (es : Entries) (slots : List (Option ℕ)) (k : ℕ)
    → slice_index (map (pins_in es) slots) k ≡ pins_in es (key_in slots k)
pins_of_slot es [] k = refl
pins_of_slot es (s ∷ slots) zero = refl
pins_of_slot es (s ∷ slots) (suc k) = pins_of_slot es slots k

pub length_of_keys : (s : ShardState) → length (words_of s).keys ≡ length s.slots
length_of_keys s = long_as key_number s.slots

-- A slot whose number is that of a key has the key.
pub key_from : (o : Option ℕ) (key : ℕ) → key_number o ≡ key → 1 ≤ key → o ≡ Some key
key_from None key is low = absurd (omega arith)
key_from (Some k) key is low = ap Some is

-- ---- the pins of a key

-- 1 for the key, else 0
abbrev pub one_for : ℕ → ℕ → ℕ
one_for key k = cond (nat_eq key k) 1 0

module _ (key : ℕ) where
  -- an entry that is removed is that of the key
  pub lookup_removed : (k : ℕ) → k ≢ key → (es : Entries)
      → entry_at k (remove_entry (nat_eq key) es) ≡ entry_at k es
  lookup_removed k apart [] = refl
  lookup_removed k apart (e ∷ es) =
      (elim (nat_eq key e.0) as (λ b. nat_eq key e.0 ≡ b
      → entry_at k (cond b es (e ∷ remove_entry (nat_eq key) es)) ≡ entry_at k (e ∷ es)) [
        | true ↦ λ same.
            let other : nat_eq k e.0 ≡ false = ne_eqb k e.0 (λ (is : k ≡ e.0). apart (is ∙ sym (eqb-true key e.0 same))) in
            rw other refl
        | false ↦ λ _. ap (λ o. cond (nat_eq k e.0) (Some e.1) o) (lookup_removed k apart es)
      ]) refl

  pub lookup_set : (k : ℕ) → k ≢ key → (es : Entries) (v : EntryState)
      → entry_at k (set_value (nat_eq key) es v) ≡ entry_at k es
  lookup_set k apart [] v = refl
  lookup_set k apart (e ∷ es) v =
      (elim (nat_eq key e.0) as (λ b. nat_eq key e.0 ≡ b
      → entry_at k (cond b ((e.0, v) ∷ es) (e ∷ set_value (nat_eq key) es v)) ≡ entry_at k (e ∷ es)) [
        | true ↦ λ same.
            let other : nat_eq k e.0 ≡ false = ne_eqb k e.0 (λ (is : k ≡ e.0). apart (is ∙ sym (eqb-true key e.0 same))) in
            rw other refl
        | false ↦ λ _. ap (λ o. cond (nat_eq k e.0) (Some e.1) o) (lookup_set k apart es v)
      ]) refl

pub pins_found : (key : ℕ) (es : Entries) (e : EntryState) → entry_at key es ≡ Some e
    → pins_at key es ≡ e.pins
pins_found key es e found = ap (λ o. option_map_or (λ (n : EntryState). n.pins) o 0) found

pub pins_none : (key : ℕ) (es : Entries) → entry_at key es ≡ None → pins_at key es ≡ 0
pins_none key es none = ap (λ o. option_map_or (λ (n : EntryState). n.pins) o 0) none

pub pins_head : (key : ℕ) (v : EntryState) (es : Entries) → pins_at key ((key, v) ∷ es) ≡ v.pins
pins_head key v es = rw (eq-eqb key key refl) refl

pub pins_tail : (k key : ℕ) (v : EntryState) (es : Entries) → k ≢ key
    → pins_at k ((key, v) ∷ es) ≡ pins_at k es
pins_tail k key v es apart = rw (ne_eqb k key apart) refl

pub one_for_same : (key : ℕ) → one_for key key ≡ 1
one_for_same key = ap (λ b. cond {A = ℕ} b 1 0) (eq-eqb key key refl)

pub one_for_other : (key k : ℕ) → k ≢ key → one_for key k ≡ 0
one_for_other key k apart =
    ap (λ b. cond {A = ℕ} b 1 0) (ne_eqb key k (λ (is : key ≡ k). apart (sym is)))

-- The entry of the key has one pin more.
pub pins_more : (key k : ℕ) (es : Entries) (e : EntryState) → entry_at key es ≡ Some e
    → pins_at k (pinned_first key es) ≡ pins_at k es + one_for key k
pins_more key k es e found =
    let first : pinned_first key es ≡ (key, one_more e) ∷ remove_entry (nat_eq key) es = rw found refl in
    ap (pins_at k) first ∙ dite (ℕ_discrete k key)
    (λ (is : k ≡ key). subst
    (λ n. pins_at n ((key, one_more e) ∷ remove_entry (nat_eq key) es) ≡ pins_at n es + one_for key n)
    (sym is)
    (omega (
      arith,
      pins_head key (one_more e) (remove_entry (nat_eq key) es),
      pins_found key es e found,
      one_for_same key,
    )))
    (λ (ne : k ≢ key). omega (
      arith,
      pins_tail k key (one_more e) (remove_entry (nat_eq key) es) ne,
      ap (λ o. option_map_or (λ (n : EntryState). n.pins) o 0) (lookup_removed key k ne es),
      one_for_other key k ne,
    ))

-- The entry of the key has one pin less.
pub pins_less : (key k : ℕ) (es : Entries) (e : EntryState) → entry_at key es ≡ Some e
    → 1 ≤ e.pins → pins_at k (unpinned_once key es) + one_for key k ≡ pins_at k es
pins_less key k es e found some =
    let once : unpinned_once key es ≡ set_value (nat_eq key) es (one_less e) = rw found refl in
    ap (λ l. pins_at k l + one_for key k) once ∙ dite (ℕ_discrete k key)
    (λ (is : k ≡ key). subst
    (λ n. pins_at n (set_value (nat_eq key) es (one_less e)) + one_for key n ≡ pins_at n es)
    (sym is)
    (omega (
      arith,
      pins_found key (set_value (nat_eq key) es (one_less e)) (one_less e)
          (lookup-set_value_same (nat_eq key) es e (one_less e) found),
      pins_found key es e found,
      one_for_same key,
    )))
    (λ (ne : k ≢ key). omega (
      arith,
      ap (λ o. option_map_or (λ (n : EntryState). n.pins) o 0) (lookup_set key k ne es (one_less e)),
      one_for_other key k ne,
    ))

pub keys_set_value : (key : ℕ) (es : Entries) (v : EntryState)
    → keys_of (set_value (nat_eq key) es v) ≡ keys_of es
keys_set_value key [] v = refl
keys_set_value key (e ∷ es) v =
    elim (nat_eq key e.0) as (λ b. keys_of (cond b ((e.0, v) ∷ es) (e ∷ set_value (nat_eq key) es v))
    ≡ keys_of (e ∷ es)) [
      | true ↦ refl
      | false ↦ ap (λ l. e.0 ∷ l) (keys_set_value key es v)
    ]

pub keys_at : (key : ℕ) (es : Entries) (o : Option EntryState)
    → keys_of (option_map_or (λ (entry : EntryState). set_value (nat_eq key) es (one_less entry)) o es)
    ≡ keys_of es
keys_at key es None = refl
keys_at key es (Some e) = keys_set_value key es (one_less e)

pub keys_unpinned : (key : ℕ) (es : Entries) → keys_of (unpinned_once key es) ≡ keys_of es
keys_unpinned key es = keys_at key es (entry_at key es)

-- ---- the pinned entries determine the pins of each key

-- a key without an entry differs from all keys of entries
pub apart_from : (key : ℕ) (es : Entries) → entry_at key es ≡ None
    → AllByRecursion (λ other. nat_eq key other ≡ false) (keys_of es)
apart_from key [] absent = tt
apart_from key (e ∷ es) absent =
    (elim (nat_eq key e.0) as (λ b. nat_eq key e.0 ≡ b → cond b (Some e.1) (entry_at key es) ≡ None
    → AllByRecursion (λ other. nat_eq key other ≡ false) (keys_of (e ∷ es))) [
      | true ↦ λ _ some. absurd cc
      | false ↦ λ other rest. (other, apart_from key es rest)
    ]) refl absent

-- a key that occurs earlier differs from all these keys
pub apart_none : (key : ℕ) (es : Entries) → AllByRecursion (λ other. nat_eq key other ≡ false) (keys_of es)
    → entry_at key es ≡ None
apart_none key [] apart = refl
apart_none key (e ∷ es) apart = rw (apart.0) (apart_none key es apart.1)

pub pins_pinned : (k : ℕ) (es : Entries) → IsDistinct nat_eq (keys_of es)
    → pins_at k (pinned_entries es) ≡ pins_at k es
unfolding IsDistinct
pins_pinned k [] distinct = refl
pins_pinned k (e ∷ es) distinct =
    let rest : pins_at k (pinned_entries es) ≡ pins_at k es = pins_pinned k es distinct.1 in
    (elim (nat_eq k e.0) as (λ b. nat_eq k e.0 ≡ b
    → pins_at k (pinned_entries (e ∷ es)) ≡ option_map_or (λ (n : EntryState). n.pins) (cond b (Some e.1) (entry_at k es)) 0) [
      | true ↦ λ same.
          let is : k ≡ e.0 = eqb-true k e.0 same in
          (elim (e.1.pins == 0) as (λ u. (e.1.pins == 0) ≡ u
          → pins_at k (cond (not u) (e ∷ pinned_entries es) (pinned_entries es)) ≡ e.1.pins) [
            | true ↦ λ zero_is.
                let none : pins_at k es ≡ 0 =
                pins_none k es (subst (λ n. entry_at n es ≡ None) (sym is) (apart_none e.0 es distinct.0)) in
                rest ∙ (none ∙ sym (eqb-true e.1.pins 0 zero_is))
            | false ↦ λ _. rw same refl
          ]) refl
      | false ↦ λ other.
          elim (e.1.pins == 0) as (λ u.
          pins_at k (cond (not u) (e ∷ pinned_entries es) (pinned_entries es)) ≡ pins_at k es) [
            | true ↦ rest
            | false ↦ rw other rest
          ]
    ]) refl

-- entries with the same pinned ones have the same pins for each key
pub pins_same : (k : ℕ) (es fs : Entries) → IsDistinct nat_eq (keys_of es)
    → IsDistinct nat_eq (keys_of fs) → KeepsPinned es fs → pins_at k fs ≡ pins_at k es
pins_same k es fs distinct other same =
    sym (pins_pinned k fs other) ∙ (ap (pins_at k) same ∙ pins_pinned k es distinct)
