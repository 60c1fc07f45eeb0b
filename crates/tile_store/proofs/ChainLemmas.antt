-- The chains of keys, and a search along one.
use Rattle.std.proofs.Common.{◌≡◌, ℕ, zero, suc, ◌+◌, ◌*◌, ◌/◌, ◌%◌, ◌^◌, ◌<◌, ◌≤◌, ◌⊎◌, true, false, nat_eq}
use Rattle.std.proofs.Common.{List, [], ◌∷◌, ◌++◌, length, length-append, append_assoc, set, slice_index}
use Rattle.std.proofs.Common.{Option, Some, None, IsSomeAnd, refl, sym, ap, ◌∙◌, subst, inl, inr, ⊎_elim, arith}
use Rattle.std.specs.List.{IsDistinct}
use Rattle.std.proofs.Math.Nat.{div-lt_iff_lt-mul, mul-lt-mul_of_pos_right, mul_comm}
use Rattle.std.proofs.lemmas.Bool.{eq-eqb, ne_eqb, or_left, or_parts, false≢true}
use Rattle.std.proofs.lemmas.Grind.{get_or-set_at}
use Rattle.std.proofs.lemmas.List.{get_or-set_other}
use Rattle.std.proofs.lemmas.Map.Steps.{length-le_from_distinct_below}
use Rattle.tile_store.specs.Links.{is_in, without}
use Rattle.tile_store.specs.Keys.{key_in, slot_of, chains_for, spread, chain_of, behind, Leads, chain}
use Rattle.tile_store.specs.Keys.{AreChainsOf, AreChains, last_node, StopsAt, HasCome, IsBefore}
use Rattle.tile_store.proofs.PlaceLemmas.{apart_from}
use Rattle.tile_store.proofs.OrderLemmas.{head_in, tail_in}
use Rattle.tile_store.proofs.EndLemmas.{in_end, cases_in}
use Rattle.tile_store.proofs.KeyLemmas.{low_key, no_slot}

pub chain_low : (chains key : ℕ) → 0 < chains → chain_of chains key < chains
unfolding chain_of
chain_low chains key some =
    let m : ℕ = key * spread % 2 ^ 64 / 2 ^ 33 in
    let within : key * spread % 2 ^ 64 < 2 ^ 31 * 2 ^ 33 = omega arith in
    let low : m < 2 ^ 31 = (div-lt_iff_lt-mul (omega arith)).1 within in
    let more : m * chains < 2 ^ 31 * chains = mul-lt-mul_of_pos_right low some in
    (div-lt_iff_lt-mul (omega arith)).1 (subst (λ n. m * chains < n) (mul_comm (2 ^ 31) chains) more)

-- ---- where the links lead

pub leads_same : (next new : List ℕ) (end at from : ℕ) (ps : List ℕ)
    → slice_index new at ≡ slice_index next from
    → ((p : ℕ) → is_in p ps ≡ true → slice_index new p ≡ slice_index next p)
    → Leads next end from ps → Leads new end at ps
leads_same next new end at from [] here same leads = here ∙ leads
leads_same next new end at from (p ∷ ps) here same leads = (
  here ∙ leads.0,
  leads_same next new end p p ps (same p (head_in p ps)) (λ q h. same q (tail_in q p ps h)) leads.1,
)

pub leads_on : (next : List ℕ) (end at : ℕ) (front back : List ℕ) → Leads next end at (front ++ back)
    → Leads next end (last_node at front) back
leads_on next end at [] back leads = leads
leads_on next end at (p ∷ front) back leads = leads_on next end p front back leads.1

pub last_in : (at : ℕ) (ps : List ℕ) → is_in (last_node at ps) (at ∷ ps) ≡ true
last_in at [] = head_in at []
last_in at (p ∷ ps) = tail_in (last_node p ps) at (p ∷ ps) (last_in p ps)

last_end : (at p : ℕ) (ps : List ℕ) → last_node at (ps ++ p ∷ []) ≡ p
last_end at p [] = refl
last_end at p (q ∷ ps) = last_end q p ps

pub in_fore : (p : ℕ) (xs ys : List ℕ) → is_in p xs ≡ true → is_in p (xs ++ ys) ≡ true
in_fore p [] ys h = absurd (false≢true h)
in_fore p (x ∷ xs) ys h = ⊎_elim
    (λ (e : p ≡ x). or_left (nat_eq p x) (is_in p (xs ++ ys)) (eq-eqb p x e))
    (λ more. tail_in p x (xs ++ ys) (in_fore p xs ys more)) (cases_in p x xs h)

pub in_back : (p : ℕ) (xs ys : List ℕ) → is_in p ys ≡ true → is_in p (xs ++ ys) ≡ true
in_back p [] ys h = h
in_back p (x ∷ xs) ys h = tail_in p x (xs ++ ys) (in_back p xs ys h)

pub out_fore : (p : ℕ) (xs ys : List ℕ) → is_in p (xs ++ ys) ≡ false → is_in p xs ≡ false
out_fore p xs ys out =
    (elim (is_in p xs) as (λ b. is_in p xs ≡ b → b ≡ false) [
      | true ↦ λ h. absurd (false≢true (sym out ∙ in_fore p xs ys h))
      | false ↦ λ _. refl
    ]) refl

pub out_back : (p : ℕ) (xs ys : List ℕ) → is_in p (xs ++ ys) ≡ false → is_in p ys ≡ false
out_back p xs ys out =
    (elim (is_in p ys) as (λ b. is_in p ys ≡ b → b ≡ false) [
      | true ↦ λ h. absurd (false≢true (sym out ∙ in_back p xs ys h))
      | false ↦ λ _. refl
    ]) refl

pub in_parts : (p : ℕ) (xs ys : List ℕ) → is_in p (xs ++ ys) ≡ true
    → (is_in p xs ≡ true) ⊎ (is_in p ys ≡ true)
in_parts p [] ys h = inr h
in_parts p (x ∷ xs) ys h = ⊎_elim
    (λ (e : p ≡ x). inl (or_left (nat_eq p x) (is_in p xs) (eq-eqb p x e)))
    (λ more. ⊎_elim (λ has. inl (tail_in p x xs has)) (λ has. inr has) (in_parts p xs ys more))
    (cases_in p x (xs ++ ys) h)

pub without-out : (p : ℕ) (xs : List ℕ) → is_in p xs ≡ false → without p xs ≡ xs
without-out p [] out = refl
without-out p (x ∷ xs) out =
    let parts = or_parts (nat_eq p x) (is_in p xs) out in
    rw parts.0 (ap (λ l. x ∷ l) (without-out p xs parts.1))

pub without-parts : (p : ℕ) (front back : List ℕ) → is_in p front ≡ false
    → without p (front ++ p ∷ back) ≡ front ++ back
without-parts p [] back out = rw (eq-eqb p p refl) refl
without-parts p (x ∷ front) back out =
    let parts = or_parts (nat_eq p x) (is_in p front) out in
    rw parts.0 (ap (λ l. x ∷ l) (without-parts p front back parts.1))

-- the node before a slot links to the one after it
pub leads_over : (next : List ℕ) (end after at p : ℕ) (front back : List ℕ)
    → IsDistinct nat_eq (at ∷ front ++ p ∷ back) → after ≡ slice_index next p
    → last_node at front < length next → Leads next end at (front ++ p ∷ back)
    → Leads (set next (last_node at front) after) end at (front ++ back)
unfolding IsDistinct
leads_over next end after at p [] back distinct after_is low leads =
    let out = apart_from at (p ∷ back) distinct.0 in
    leads_same next (set next at after) end at p back (get_or-set_at next at at after 0 refl low ∙ after_is)
    (λ q h. get_or-set_other next at q after 0 (λ (e : q ≡ at).
    false≢true (sym out ∙ subst (λ r. is_in r (p ∷ back) ≡ true) e (tail_in q p back h)))) leads.1
leads_over next end after at p (x ∷ front) back distinct after_is low leads =
    let out = apart_from at (x ∷ front ++ p ∷ back) distinct.0 in
    let last : ℕ = last_node x front in (
      get_or-set_other next last at after 0 (λ (e : at ≡ last).
          false≢true (sym out ∙ subst (λ r. is_in r (x ∷ front ++ p ∷ back) ≡ true) (sym e)
          (in_fore last (x ∷ front) (p ∷ back) (last_in x front)))) ∙ leads.0,
      leads_over next end after x p front back distinct.1 after_is low leads.1,
    )

-- the links give a chain that they lead through
chain_is : (next : List ℕ) (end fuel at : ℕ) (ps : List ℕ) → Leads next end at ps
    → ((p : ℕ) → is_in p ps ≡ true → p < end) → length ps ≤ fuel → behind next end fuel at ≡ ps
chain_is next end zero at [] leads low few = refl
chain_is next end (suc n) at [] leads low few = rw (eq-eqb (slice_index next at) end leads) refl
chain_is next end zero at (p ∷ ps) leads low few = absurd (omega arith)
chain_is next end (suc n) at (p ∷ ps) leads low few =
    let p_low : p < end = low p (head_in p ps) in
    let to : slice_index next at ≡ p = leads.0 in
    let other : nat_eq (slice_index next at) end ≡ false =
    ne_eqb (slice_index next at) end (λ (e : slice_index next at ≡ end). omega arith) in
    rw other (ap (λ x. x ∷ behind next end n x) to
    ∙ ap (λ l. p ∷ l) (chain_is next end n p ps leads.1 (λ q h. low q (tail_in q p ps h)) (omega arith)))

some_low : (keys : List (Option ℕ)) (p : ℕ) (P : ℕ → Type 0) → IsSomeAnd (key_in keys p) P → p < length keys
some_low keys p P has =
    (elim (key_in keys p) as (λ o. key_in keys p ≡ o → IsSomeAnd o P → p < length keys) [
      | None ↦ λ _ none. absurd none
      | Some key ↦ λ is _. low_key keys p key is
    ]) refl has

module _ (slots_in : ℕ → List ℕ) (keys : List (Option ℕ)) (next : List ℕ) (slots : ℕ) (is : AreChainsOf slots_in keys next slots) where
  pub low_in : (c p : ℕ) → c < chains_for slots → is_in p (slots_in c) ≡ true → p < slots
  low_in c p within h =
      subst (λ n. p < n) is.size (some_low keys p (λ key. chain_of (chains_for slots) key ≡ c) (is.keyed c p within h))

  pub few_in : (c : ℕ) → c < chains_for slots → length (slots_in c) ≤ slots
  few_in c within = length-le_from_distinct_below (slots_in c) slots (is.distinct c within) (λ q h. low_in c q within h)

  pub relinked : AreChains keys next slots
  relinked =
      let same : (c : ℕ) → c < chains_for slots → chain next slots c ≡ slots_in c =
      λ c within. chain_is next slots slots (slots + c) (slots_in c) (is.leads c within)
      (λ p h. low_in c p within h) (few_in c within) in
      record {
        size = is.size;
        nodes = is.nodes;
        few = is.few;
        leads = λ c within. subst (Leads next slots (slots + c)) (sym (same c within)) (is.leads c within);
        distinct = λ c within. subst (λ l. IsDistinct nat_eq l) (sym (same c within)) (is.distinct c within);
        keyed = λ c p within h. is.keyed c p within (subst (λ l. is_in p l ≡ true) (same c within) h);
        linked = λ p key h. subst (λ l. is_in p l ≡ true)
            (sym (same (chain_of (chains_for slots) key) (chain_low (chains_for slots) key (omega arith))))
            (is.linked p key h);
        apart = is.apart;
      }

-- ---- a search for a key

-- the search has passed this many slots
pub record Along (keys : List (Option ℕ)) (next : List ℕ) (slots key at steps : ℕ) : Type 0 where
  pub come : HasCome keys next slots key at
  pub steps_are : length come.front ≡ steps

module _ (keys : List (Option ℕ)) (next : List ℕ) (slots : ℕ) (is : AreChains keys next slots) (key : ℕ) where
  abbrev pub own : ℕ
  own = chain_of (chains_for slots) key

  pub own_low : own < chains_for slots
  own_low = chain_low (chains_for slots) key (omega arith)

  pub start : Along keys next slots key (slots + own) 0
  start = record {
    come = record {
      front = [];
      back = chain next slots own;
      parts = refl;
      at_is = refl;
      lacks = λ p h has. false≢true h;
    };
    steps_are = refl;
  }

  module _ (at : ℕ) (h : HasCome keys next slots key at) where
    pub leads_at : Leads next slots at h.back
    leads_at = subst (λ n. Leads next slots n h.back) (sym h.at_is)
        (leads_on next slots (slots + own) h.front h.back
        (subst (Leads next slots (slots + own)) h.parts (is.leads own own_low)))

    pub back_low : (p : ℕ) → is_in p h.back ≡ true → p < slots
    back_low p has = low_in (chain next slots) keys next slots is own p own_low
        (subst (λ l. is_in p l ≡ true) (sym h.parts) (in_back p h.front h.back has))

    front_low : (p : ℕ) → is_in p h.front ≡ true → p < slots
    front_low p has = low_in (chain next slots) keys next slots is own p own_low
        (subst (λ l. is_in p l ≡ true) (sym h.parts) (in_fore p h.front h.back has))

    -- the node is the first one of the chain, or a slot that was passed
    pub node_cases : (at ≡ slots + own) ⊎ (is_in at h.front ≡ true)
    node_cases = subst (λ n. (n ≡ slots + own) ⊎ (is_in n h.front ≡ true)) (sym h.at_is)
        (elim h.front as (λ ps. (last_node (slots + own) ps ≡ slots + own) ⊎ (is_in (last_node (slots + own) ps) ps ≡ true)) [
          | [] ↦ inl refl
          | p ∷ ps ↦ inr (last_in p ps)
        ])

    pub node_low : at < length next
    node_low =
        let nodes = is.nodes in
        let low = own_low in
        ⊎_elim (λ (e : at ≡ slots + own). omega arith)
        (λ (has : is_in at h.front ≡ true). let below : at < slots = front_low at has in omega arith) node_cases

    -- if the node links to the end, nothing is left
    pub none_left : slice_index next at ≡ slots → h.back ≡ []
    none_left end =
        (elim h.back as (λ ps. Leads next slots at ps → ((p : ℕ) → is_in p ps ≡ true → p < slots) → ps ≡ []) [
          | [] ↦ λ _ _. refl
          | p ∷ ps ↦ λ leads low.
              let below : p < slots = low p (head_in p ps) in
              let to : slice_index next at ≡ p = leads.0 in
              absurd (omega arith)
        ]) leads_at back_low

    -- else it names the first slot that is left
    pub record Named : Type 0 where
      pub rest : List ℕ
      pub back_is : h.back ≡ slice_index next at ∷ rest

    pub named : (slice_index next at ≡ slots → ⊥) → Named
    named other =
        (elim h.back as (λ ps. h.back ≡ ps → Leads next slots at ps → Named) [
          | [] ↦ λ _ end. absurd (other end)
          | p ∷ ps ↦ λ same leads. record { rest = ps; back_is = same ∙ ap (λ q. q ∷ ps) (sym leads.0) }
        ]) refl leads_at

    pub named_low : (slice_index next at ≡ slots → ⊥) → slice_index next at < slots
    named_low other =
        let n = named other in
        back_low (slice_index next at) (subst (λ l. is_in (slice_index next at) l ≡ true) (sym n.back_is)
        (head_in (slice_index next at) n.rest))

    pub before_end : slice_index next at ≡ slots → IsBefore keys next slots key at
    before_end end = record { come = h; stops = subst (StopsAt keys key) (sym (none_left end)) tt }

    pub before_key : (slice_index next at ≡ slots → ⊥) → key_in keys (slice_index next at) ≡ Some key
        → IsBefore keys next slots key at
    before_key other has = record { come = h; stops = subst (StopsAt keys key) (sym (named other).back_is) has }

    pub step : (n : ℕ) → length h.front ≡ n → (slice_index next at ≡ slots → ⊥)
        → (key_in keys (slice_index next at) ≡ Some key → ⊥)
        → Along keys next slots key (slice_index next at) (n + 1)
    step n size other lacks =
        let on = named other in
        let p : ℕ = slice_index next at in
        record {
          come = record {
            front = h.front ++ p ∷ [];
            back = on.rest;
            parts = h.parts ∙ ap (λ l. h.front ++ l) on.back_is ∙ sym (append_assoc h.front (p ∷ []) on.rest);
            at_is = sym (last_end (slots + own) p h.front);
            lacks = λ q has same. ⊎_elim (λ was. h.lacks q was same)
                (λ (e : q ≡ p). lacks (ap (key_in keys) (sym e) ∙ same)) (in_end q p h.front has);
          };
          steps_are = omega (arith, length-append h.front (p ∷ []), size);
        }

    -- after as many steps as there are slots nothing is left
    pub before_last : length h.front ≡ slots → IsBefore keys next slots key at
    before_last size =
        let few = few_in (chain next slots) keys next slots is own own_low in
        let all = ap length h.parts ∙ length-append h.front h.back in
        (elim h.back as (λ ps. h.back ≡ ps → IsBefore keys next slots key at) [
          | [] ↦ λ none. record { come = h; stops = subst (StopsAt keys key) (sym none) tt }
          | p ∷ ps ↦ λ some. let long = ap length some in absurd (omega arith)
        ]) refl

  -- ---- what the search found
  module _ (at : ℕ) (b : IsBefore keys next slots key at) where
    pub missing : slice_index next at ≡ slots → slot_of key keys ≡ None
    missing end = no_slot key keys (λ q has.
        let none = none_left at b.come end in
        let there = subst (λ l. is_in q l ≡ true)
        (b.come.parts ∙ ap (λ l. b.come.front ++ l) none) (is.linked q key has) in
        ⊎_elim (λ h. b.come.lacks q h has) (λ h. absurd (false≢true h)) (in_parts q b.come.front [] there))

    pub found : (slice_index next at ≡ slots → ⊥) → key_in keys (slice_index next at) ≡ Some key
    found other = subst (StopsAt keys key) (named at b.come other).back_is b.stops
