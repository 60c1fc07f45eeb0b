-- The chains of keys after a slot gets a key or loses its own.
use Rattle.std.proofs.Common.{◌≡◌, ◌≢◌, ℕ, ◌+◌, ◌<◌, ◌≤◌, ◌^◌, true, false, cond, nat_eq}
use Rattle.std.proofs.Common.{List, [], ◌∷◌, ◌++◌, length, replicate, set, slice_index}
use Rattle.std.proofs.Common.{Option, Some, None, IsSomeAnd, refl, sym, ap, ◌∙◌, subst, ⊎_elim, arith}
use Rattle.std.specs.List.{IsDistinct}
use Rattle.std.proofs.lemmas.Bool.{eq-eqb, ne_eqb, cases_eq, cases_lt, false≢true}
use Rattle.std.proofs.lemmas.Grind.{get_or-set_at}
use Rattle.std.proofs.lemmas.List.{length-set, get_or-set_other, get_or_past, get_or-replicate, length-replicate}
use Rattle.tile_store.specs.Links.{is_in, without}
use Rattle.tile_store.specs.Keys.{key_in, slot_of, chains_for, chain_of, Leads, chain, AreChains}
use Rattle.tile_store.specs.Keys.{last_node, IsBefore}
use Rattle.tile_store.proofs.PlaceLemmas.{apart_as, gone, in-without, distinct-without}
use Rattle.tile_store.proofs.OrderLemmas.{head_in, tail_in}
use Rattle.tile_store.proofs.EndLemmas.{cases_in, stays_in}
use Rattle.tile_store.proofs.KeyLemmas.{put_at, put_other, put_cases, put_apart}
use Rattle.tile_store.proofs.KeyLemmas.{take_other, take_left, take_apart}
use Rattle.tile_store.proofs.ChainLemmas.{leads_same, leads_over, without-out, without-parts, in_fore, low_in, relinked, own_low}
use Rattle.tile_store.proofs.ChainLemmas.{named, node_low, node_cases, found}

some_at : (o : Option ℕ) (P : ℕ → Type 0) (key : ℕ) → o ≡ Some key → P key → IsSomeAnd o P
some_at o P key is so = subst (λ x. IsSomeAnd x P) (sym is) so

pub none_key : (count p : ℕ) → key_in (replicate count None) p ≡ None
none_key count p = ⊎_elim (λ low. get_or-replicate count p None None low)
    (λ (past : count ≤ p). get_or_past (replicate count None) p None
    (omega (arith, length-replicate {A = Option ℕ} count None))) (cases_lt p count)

-- ---- no slot has a key
pub none_chained : (keys : List (Option ℕ)) (next : List ℕ) (slots : ℕ) → keys ≡ replicate slots None
    → next ≡ replicate (slots + chains_for slots) slots → slots < 2 ^ 32 → AreChains keys next slots
unfolding IsDistinct
none_chained keys next slots keys_are next_are few = relinked (λ _. []) keys next slots (record {
  size = ap length keys_are ∙ length-replicate slots None;
  nodes = ap length next_are ∙ length-replicate (slots + chains_for slots) slots;
  few = few;
  leads = λ c within. ap (λ l. slice_index l (slots + c)) next_are
      ∙ get_or-replicate (slots + chains_for slots) (slots + c) slots 0 (omega arith);
  distinct = λ c within. tt;
  keyed = λ c p within h. absurd (false≢true h);
  linked = λ p key h.
      let both : None ≡ Some key = sym (ap (λ l. key_in l p) keys_are ∙ none_key slots p) ∙ h in
      absurd cc;
  apart = λ p q key h _.
      let both : None ≡ Some key = sym (ap (λ l. key_in l p) keys_are ∙ none_key slots p) ∙ h in
      absurd cc;
})

module _ (keys : List (Option ℕ)) (next : List ℕ) (slots : ℕ) (is : AreChains keys next slots) (key : ℕ) where
  abbrev own : ℕ
  own = chain_of (chains_for slots) key

  -- a slot that another chain has is not in this one
  in_one : (c d p : ℕ) → c < chains_for slots → d < chains_for slots → is_in p (chain next slots c) ≡ true
      → is_in p (chain next slots d) ≡ true → c ≡ d
  in_one c d p c_in d_in at_c at_d =
      (elim (key_in keys p) as (λ o. IsSomeAnd o (λ k. chain_of (chains_for slots) k ≡ c)
      → IsSomeAnd o (λ k. chain_of (chains_for slots) k ≡ d) → c ≡ d) [
        | None ↦ λ none _. absurd none
        | Some k ↦ λ is_c is_d. sym is_c ∙ is_d
      ]) (is.keyed c p c_in at_c) (is.keyed d p d_in at_d)

  -- ---- a slot gets a key
  module _ (slot first : ℕ) (missing : slot_of key keys ≡ None) (low : slot < length keys) (free : key_in keys slot ≡ None) (first_is : first ≡ slice_index next (slots + own)) where
    abbrev new : List ℕ
    new = set (set next slot first) (slots + own) slot

    abbrev more : ℕ → List ℕ
    more c = cond (nat_eq c own) (slot ∷ chain next slots own) (chain next slots c)

    more_own : (c : ℕ) → c ≡ own → more c ≡ slot ∷ chain next slots own
    more_own c e = rw (eq-eqb c own e) refl

    more_other : (c : ℕ) → c ≢ own → more c ≡ chain next slots c
    more_other c other = rw (ne_eqb c own other) refl

    slot_low : slot < slots
    slot_low = subst (λ n. slot < n) is.size low

    out : (c : ℕ) → c < chains_for slots → is_in slot (chain next slots c) ≡ false
    out c within =
        (elim (is_in slot (chain next slots c)) as (λ b. is_in slot (chain next slots c) ≡ b → b ≡ false) [
          | true ↦ λ h. absurd (subst (λ o. IsSomeAnd o (λ k. chain_of (chains_for slots) k ≡ c)) free
              (is.keyed c slot within h))
          | false ↦ λ _. refl
        ]) refl

    other_slot : (c p : ℕ) → c < chains_for slots → is_in p (chain next slots c) ≡ true → p ≢ slot
    other_slot c p within h = λ (e : p ≡ slot).
        false≢true (sym (out c within) ∙ subst (λ q. is_in q (chain next slots c) ≡ true) e h)

    kept : (at : ℕ) → at ≢ slot → at ≢ slots + own → slice_index new at ≡ slice_index next at
    kept at no_slot no_head = get_or-set_other (set next slot first) (slots + own) at slot 0 no_head
        ∙ get_or-set_other next slot at first 0 no_slot

    kept_in : (c p : ℕ) → c < chains_for slots → is_in p (chain next slots c) ≡ true
        → slice_index new p ≡ slice_index next p
    kept_in c p within h =
        let below : p < slots = low_in (chain next slots) keys next slots is c p within h in
        kept p (other_slot c p within h) (λ (e : p ≡ slots + own). omega arith)

    at_head : slice_index new (slots + own) ≡ slot
    at_head =
        let nodes = is.nodes in
        let within = own_low keys next slots is key in
        get_or-set_at (set next slot first) (slots + own) (slots + own) slot 0 refl
        (omega (arith, length-set next slot first))

    at_slot : slice_index new slot ≡ first
    at_slot =
        let nodes = is.nodes in
        let below = slot_low in
        get_or-set_other (set next slot first) (slots + own) slot slot 0 (λ (e : slot ≡ slots + own). omega arith)
        ∙ get_or-set_at next slot slot first 0 refl (omega arith)

    put_leads : (c : ℕ) → c < chains_for slots → Leads new slots (slots + c) (more c)
    put_leads c within = ⊎_elim
        (λ (e : c ≡ own). subst (λ d. Leads new slots (slots + d) (more d)) (sym e)
        (subst (Leads new slots (slots + own)) (sym (more_own own refl)) (
          at_head,
          leads_same next new slots slot (slots + own) (chain next slots own) (at_slot ∙ first_is)
              (λ p h. kept_in own p (own_low keys next slots is key) h) (is.leads own (own_low keys next slots is key)),
        )))
        (λ (other : c ≢ own).
        let below = slot_low in
        subst (Leads new slots (slots + c)) (sym (more_other c other))
        (leads_same next new slots (slots + c) (slots + c) (chain next slots c)
        (kept (slots + c) (λ (e : slots + c ≡ slot). omega arith)
        (λ (e : slots + c ≡ slots + own). let same : c ≡ own = omega arith in other same))
        (λ p h. kept_in c p within h) (is.leads c within)))
        (cases_eq c own)

    put_distinct : (c : ℕ) → c < chains_for slots → IsDistinct nat_eq (more c)
    unfolding IsDistinct
    put_distinct c within = ⊎_elim
        (λ (e : c ≡ own). subst (λ l. IsDistinct nat_eq l) (sym (more_own c e)) (
          apart_as slot (chain next slots own) (out own (own_low keys next slots is key)),
          is.distinct own (own_low keys next slots is key),
        ))
        (λ (other : c ≢ own). subst (λ l. IsDistinct nat_eq l) (sym (more_other c other)) (is.distinct c within))
        (cases_eq c own)

    stays_keyed : (c p : ℕ) → c < chains_for slots → is_in p (chain next slots c) ≡ true
        → IsSomeAnd (key_in (set keys slot (Some key)) p) (λ k. chain_of (chains_for slots) k ≡ c)
    stays_keyed c p within h = subst (λ o. IsSomeAnd o (λ k. chain_of (chains_for slots) k ≡ c))
        (sym (put_other keys is.apart key slot missing low p (other_slot c p within h))) (is.keyed c p within h)

    put_keyed : (c p : ℕ) → c < chains_for slots → is_in p (more c) ≡ true
        → IsSomeAnd (key_in (set keys slot (Some key)) p) (λ k. chain_of (chains_for slots) k ≡ c)
    put_keyed c p within h = ⊎_elim
        (λ (e : c ≡ own). ⊎_elim
        (λ (now : p ≡ slot). some_at (key_in (set keys slot (Some key)) p) (λ k. chain_of (chains_for slots) k ≡ c) key
        (ap (key_in (set keys slot (Some key))) now ∙ put_at keys is.apart key slot missing low) (sym e))
        (λ was. stays_keyed c p within (subst (λ d. is_in p (chain next slots d) ≡ true) (sym e) was))
        (cases_in p slot (chain next slots own) (subst (λ l. is_in p l ≡ true) (more_own c e) h)))
        (λ (other : c ≢ own). stays_keyed c p within (subst (λ l. is_in p l ≡ true) (more_other c other) h))
        (cases_eq c own)

    stays_more : (c p : ℕ) → is_in p (chain next slots c) ≡ true → is_in p (more c) ≡ true
    stays_more c p h = ⊎_elim
        (λ (e : c ≡ own). subst (λ l. is_in p l ≡ true) (sym (more_own c e))
        (tail_in p slot (chain next slots own) (subst (λ d. is_in p (chain next slots d) ≡ true) e h)))
        (λ (other : c ≢ own). subst (λ l. is_in p l ≡ true) (sym (more_other c other)) h)
        (cases_eq c own)

    put_linked : (p k : ℕ) → key_in (set keys slot (Some key)) p ≡ Some k
        → is_in p (more (chain_of (chains_for slots) k)) ≡ true
    put_linked p k has = ⊎_elim
        (λ now.
        let same : chain_of (chains_for slots) k ≡ own = ap (chain_of (chains_for slots)) (sym now.1) in
        subst (λ l. is_in p l ≡ true) (sym (more_own (chain_of (chains_for slots) k) same))
        (subst (λ q. is_in q (slot ∷ chain next slots own) ≡ true) (sym now.0) (head_in slot (chain next slots own))))
        (λ was. stays_more (chain_of (chains_for slots) k) p (is.linked p k was.1))
        (put_cases keys is.apart key slot missing low p k has)

    pub put_chained : AreChains (set keys slot (Some key)) (set (set next slot first) (slots + own) slot) slots
    put_chained = relinked more (set keys slot (Some key)) new slots (record {
      size = length-set keys slot (Some key) ∙ is.size;
      nodes = length-set (set next slot first) (slots + own) slot ∙ length-set next slot first ∙ is.nodes;
      few = is.few;
      leads = put_leads;
      distinct = put_distinct;
      keyed = put_keyed;
      linked = put_linked;
      apart = put_apart keys is.apart key slot missing low;
    })

  -- ---- the slot of a key loses it
  module _ (at after : ℕ) (b : IsBefore keys next slots key at) (other : slice_index next at ≡ slots → ⊥) (after_is : after ≡ slice_index next (slice_index next at)) where
    abbrev gone_slot : ℕ
    gone_slot = slice_index next at

    abbrev over : List ℕ
    over = set next at after

    had : key_in keys gone_slot ≡ Some key
    had = found keys next slots is key at b other

    parts : chain next slots own ≡ b.come.front ++ gone_slot ∷ (named keys next slots is key at b.come other).rest
    parts = b.come.parts ∙ ap (λ l. b.come.front ++ l) (named keys next slots is key at b.come other).back_is

    -- the node is in no other chain
    apart_node : (c p : ℕ) → c < chains_for slots → c ≢ own → is_in p (chain next slots c) ≡ true → p ≢ at
    apart_node c p within differ h = λ (e : p ≡ at).
        let below : p < slots = low_in (chain next slots) keys next slots is c p within h in
        ⊎_elim (λ (first : at ≡ slots + own). omega arith)
        (λ (has : is_in at b.come.front ≡ true). differ (in_one c own p within (own_low keys next slots is key) h
        (subst (λ q. is_in q (chain next slots own) ≡ true) (sym e)
        (subst (λ l. is_in at l ≡ true) (sym b.come.parts) (in_fore at b.come.front b.come.back has)))))
        (node_cases keys next slots is key at b.come)

    out_front : is_in gone_slot b.come.front ≡ false
    out_front =
        (elim (is_in gone_slot b.come.front) as (λ x. is_in gone_slot b.come.front ≡ x → x ≡ false) [
          | true ↦ λ h. absurd (b.come.lacks gone_slot h had)
          | false ↦ λ _. refl
        ]) refl

    over_own : Leads over slots (slots + own) (without gone_slot (chain next slots own))
    unfolding IsDistinct
    over_own =
        let within = own_low keys next slots is key in
        let rest : List ℕ = (named keys next slots is key at b.come other).rest in
        let all : List ℕ = b.come.front ++ gone_slot ∷ rest in
        let head_out : is_in (slots + own) (chain next slots own) ≡ false =
        (elim (is_in (slots + own) (chain next slots own)) as (λ x. is_in (slots + own) (chain next slots own) ≡ x → x ≡ false) [
          | true ↦ λ h.
              let below : slots + own < slots = low_in (chain next slots) keys next slots is own (slots + own) within h in
              absurd (omega arith)
          | false ↦ λ _. refl
        ]) refl in
        let distinct : IsDistinct nat_eq ((slots + own) ∷ all) = subst (λ l. IsDistinct nat_eq ((slots + own) ∷ l)) parts
        (apart_as (slots + own) (chain next slots own) head_out, is.distinct own within) in
        let leads : Leads next slots (slots + own) all = subst (Leads next slots (slots + own)) parts (is.leads own within) in
        let low : last_node (slots + own) b.come.front < length next =
        subst (λ n. n < length next) b.come.at_is (node_low keys next slots is key at b.come) in
        subst (λ n. Leads (set next n after) slots (slots + own) (without gone_slot (chain next slots own))) (sym b.come.at_is)
        (subst (Leads (set next (last_node (slots + own) b.come.front) after) slots (slots + own))
        (sym (ap (without gone_slot) parts ∙ without-parts gone_slot b.come.front rest out_front))
        (leads_over next slots after (slots + own) gone_slot b.come.front rest distinct after_is low leads))

    in_own : is_in gone_slot (chain next slots own) ≡ true
    in_own = is.linked gone_slot key had

    take_leads : (c : ℕ) → c < chains_for slots → Leads over slots (slots + c) (without gone_slot (chain next slots c))
    take_leads c within = ⊎_elim
        (λ (e : c ≡ own). subst (λ d. Leads over slots (slots + d) (without gone_slot (chain next slots d))) (sym e) over_own)
        (λ (differ : c ≢ own).
        let out : is_in gone_slot (chain next slots c) ≡ false =
        (elim (is_in gone_slot (chain next slots c)) as (λ x. is_in gone_slot (chain next slots c) ≡ x → x ≡ false) [
          | true ↦ λ h. absurd (differ (in_one c own gone_slot within (own_low keys next slots is key) h in_own))
          | false ↦ λ _. refl
        ]) refl in
        let head : slots + c ≢ at = λ (e : slots + c ≡ at). ⊎_elim
        (λ (first : at ≡ slots + own). let same : c ≡ own = omega arith in differ same)
        (λ (has : is_in at b.come.front ≡ true).
        let below : at < slots = low_in (chain next slots) keys next slots is own at (own_low keys next slots is key)
        (subst (λ l. is_in at l ≡ true) (sym b.come.parts) (in_fore at b.come.front b.come.back has)) in
        omega arith)
        (node_cases keys next slots is key at b.come) in
        subst (Leads over slots (slots + c)) (sym (without-out gone_slot (chain next slots c) out))
        (leads_same next over slots (slots + c) (slots + c) (chain next slots c)
        (get_or-set_other next at (slots + c) after 0 head)
        (λ p h. get_or-set_other next at p after 0 (apart_node c p within differ h)) (is.leads c within)))
        (cases_eq c own)

    pub take_chained : AreChains (set keys gone_slot None) (set next at after) slots
    take_chained = relinked (λ c. without gone_slot (chain next slots c)) (set keys gone_slot None) over slots (record {
      size = length-set keys gone_slot None ∙ is.size;
      nodes = length-set next at after ∙ is.nodes;
      few = is.few;
      leads = take_leads;
      distinct = λ c within. distinct-without gone_slot (chain next slots c) (is.distinct c within);
      keyed = λ c p within h.
          let differs : p ≢ gone_slot = λ (e : p ≡ gone_slot).
          false≢true (sym (gone gone_slot (chain next slots c) (is.distinct c within))
          ∙ subst (λ q. is_in q (without gone_slot (chain next slots c)) ≡ true) e h) in
          subst (λ o. IsSomeAnd o (λ k. chain_of (chains_for slots) k ≡ c))
          (sym (take_other keys is.apart key gone_slot had p differs))
          (is.keyed c p within (in-without p gone_slot (chain next slots c) h));
      linked = λ p k has.
          let was = take_left keys is.apart key gone_slot had p k has in
          stays_in p gone_slot (chain next slots (chain_of (chains_for slots) k)) was.0 (is.linked p k was.1);
      apart = take_apart keys is.apart key gone_slot had;
    })
