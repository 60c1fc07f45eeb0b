-- What a pin more or less, and a word of a slot, leave of the pins that a seat has.
use Rattle.std.proofs.Common.{◌≡◌, ◌≢◌, ℕ, zero, suc, ◌+◌, ◌≤◌, true, false, cond, nat_eq}
use Rattle.std.proofs.Common.{List, [], ◌∷◌, length, set, refl, sym, ap, subst, ◌∙◌, arith}
use Rattle.std.specs.Prelude.{slice_index, IsPermutation, Contains}
use Rattle.std.proofs.lemmas.Bool.{eqb-true, eqb-false, eq-eqb}
use Rattle.std.proofs.lemmas.List.{get_or-set_other}
use Rattle.std.proofs.lemmas.List.Sorted.{IsPermutation-refl, IsPermutation-cons, IsPermutation-trans}
use Rattle.std.proofs.lemmas.List.Sorted.{IsPermutation-middle}
use Rattle.shard_gate.specs.Words.{SlotWords, AreWords, AreHeld, AreAmong, key_word}
use Rattle.shard_gate.specs.Words.{pins_on, without_pin_of, keys_of_pins}

pub held_same : (words new : List ℕ) (pins : List (ℕ × ℕ))
    → ((slot : ℕ) → slice_index new (key_word slot) ≡ slice_index words (key_word slot))
    → AreHeld words pins → AreHeld new pins
held_same words new [] same held = tt
held_same words new (p ∷ ps) same held =
    (same p.0 ∙ held.0, held.1, held_same words new ps same held.2)

-- The key of a slot without pins changes.
pub held_filled : (words : List ℕ) (slot n : ℕ) (pins : List (ℕ × ℕ)) → pins_on slot pins ≡ 0
    → AreHeld words pins → AreHeld (set words (key_word slot) n) pins
held_filled words slot n [] none held = tt
held_filled words slot n (p ∷ ps) none held =
    (elim (nat_eq p.0 slot) as (λ b. nat_eq p.0 slot ≡ b → cond b 1 0 + pins_on slot ps ≡ 0
    → AreHeld (set words (key_word slot) n) (p ∷ ps)) [
      | true ↦ λ _ some. absurd (omega arith)
      | false ↦ λ other rest.
          let apart : p.0 ≢ slot = λ (e : p.0 ≡ slot). eqb-false p.0 slot other e in (
            get_or-set_other words (key_word slot) (key_word p.0) n 0 (λ e. apart (omega arith))
                ∙ held.0,
            held.1,
            held_filled words slot n ps (omega arith) held.2,
          )
    ]) refl none

pub held_without : (words : List ℕ) (slot : ℕ) (pins : List (ℕ × ℕ)) → AreHeld words pins
    → AreHeld words (without_pin_of slot pins)
held_without words slot [] held = tt
held_without words slot (p ∷ ps) held =
    elim (nat_eq p.0 slot) as (λ b. AreHeld words (cond b ps (p ∷ without_pin_of slot ps))) [
      | true ↦ held.2
      | false ↦ (held.0, held.1, held_without words slot ps held.2)
    ]

pub length-without : (slot : ℕ) (pins : List (ℕ × ℕ)) → length (without_pin_of slot pins) ≤ length pins
length-without slot [] = omega arith
length-without slot (p ∷ ps) =
    elim (nat_eq p.0 slot) as (λ b. length (cond b ps (p ∷ without_pin_of slot ps)) ≤ length (p ∷ ps)) [
      | true ↦ omega arith
      | false ↦ omega (arith, length-without slot ps)
    ]

-- The slot has one pin less.
pub pins_on-without : (slot : ℕ) (pins : List (ℕ × ℕ)) → 1 ≤ pins_on slot pins → (other : ℕ)
    → pins_on other (without_pin_of slot pins) + cond (nat_eq slot other) 1 0 ≡ pins_on other pins
pins_on-without slot [] some other = absurd (omega arith)
pins_on-without slot (p ∷ ps) some other =
    (elim (nat_eq p.0 slot) as (λ b. nat_eq p.0 slot ≡ b → 1 ≤ cond b 1 0 + pins_on slot ps
    → pins_on other (cond b ps (p ∷ without_pin_of slot ps)) + cond (nat_eq slot other) 1 0
    ≡ cond (nat_eq p.0 other) 1 0 + pins_on other ps) [
      | true ↦ λ same _.
          let is : p.0 ≡ slot = eqb-true p.0 slot same in
          subst (λ k. pins_on other ps + cond (nat_eq k other) 1 0
          ≡ cond (nat_eq p.0 other) 1 0 + pins_on other ps) is (omega arith)
      | false ↦ λ _ more. omega (arith, pins_on-without slot ps (omega arith) other)
    ]) refl some

-- What is held by the words is among the numbers that are known of them.
pub among_held : (passes : ℕ) (words : List ℕ) (known : SlotWords) (pins : List (ℕ × ℕ))
    → AreWords passes words known → AreHeld words pins
    → ((slot : ℕ) → pins_on slot pins ≤ slice_index known.pins slot) → AreAmong known pins
among_held passes words known [] are held most = tt
among_held passes words known (p ∷ ps) are held most =
    let own : cond {A = ℕ} (nat_eq p.0 p.0) 1 0 ≡ 1 =
    ap (λ b. cond {A = ℕ} b 1 0) (eq-eqb p.0 p.0 refl) in (
      sym (are.keys p.0) ∙ held.0,
      held.1,
      omega (arith, most p.0),
      among_held passes words known ps are held.2 (λ slot. omega (arith, most slot)),
    )

-- ---- the keys of the pins

pub length_keys : (pins : List (ℕ × ℕ)) → length (keys_of_pins pins) ≡ length pins
length_keys [] = refl
length_keys (p ∷ ps) = omega (arith, length_keys ps)

pub no_pins : (pins : List (ℕ × ℕ)) → keys_of_pins pins ≡ [] → pins ≡ []
no_pins [] none = refl
no_pins (p ∷ ps) none = absurd (omega (arith, ap length none))

-- a pin of a key is one of a slot that has the key, and a pin
pub record IsPinned (known : SlotWords) (key : ℕ) (pins : List (ℕ × ℕ)) : Type 0 where
  pub slot : ℕ
  pub key_is : slice_index known.keys slot ≡ key
  pub some : 1 ≤ key
  pub pin : 1 ≤ slice_index known.pins slot
  pub own : 1 ≤ pins_on slot pins

more_pins : (known : SlotWords) (key : ℕ) (p : ℕ × ℕ) (ps : List (ℕ × ℕ)) → IsPinned known key ps
    → IsPinned known key (p ∷ ps)
more_pins known key p ps is = record {
  slot = is.slot;
  key_is = is.key_is;
  some = is.some;
  pin = is.pin;
  own = omega (arith, is.own);
}

pub pinned_slot : (known : SlotWords) (key : ℕ) (pins : List (ℕ × ℕ)) → AreAmong known pins
    → Contains (keys_of_pins pins) key → IsPinned known key pins
pinned_slot known key [] among has = absurd (let low = has.1 in omega arith)
pinned_slot known key (p ∷ ps) among (zero, low, is) =
    let own : cond {A = ℕ} (nat_eq p.0 p.0) 1 0 ≡ 1 =
    ap (λ b. cond {A = ℕ} b 1 0) (eq-eqb p.0 p.0 refl) in
    record {
      slot = p.0;
      key_is = among.0 ∙ is;
      some = subst (λ k. 1 ≤ k) is among.1;
      pin = among.2;
      own = omega arith;
    }
pinned_slot known key (p ∷ ps) among (suc k, low, is) =
    more_pins known key p ps (pinned_slot known key ps among.3 (k, omega arith, is))

-- The pin that leaves is of the key that its slot has.
pub keys-without : (known : SlotWords) (slot : ℕ) (pins : List (ℕ × ℕ)) → AreAmong known pins
    → 1 ≤ pins_on slot pins
    → IsPermutation (keys_of_pins pins)
    (slice_index known.keys slot ∷ keys_of_pins (without_pin_of slot pins))
keys-without known slot [] among some = absurd (omega arith)
keys-without known slot (p ∷ ps) among some =
    (elim (nat_eq p.0 slot) as (λ b. nat_eq p.0 slot ≡ b → 1 ≤ cond b 1 0 + pins_on slot ps
    → IsPermutation (p.1 ∷ keys_of_pins ps)
    (slice_index known.keys slot ∷ keys_of_pins (cond b ps (p ∷ without_pin_of slot ps)))) [
      | true ↦ λ same _.
          let key : p.1 ≡ slice_index known.keys slot =
          sym among.0 ∙ ap (slice_index known.keys) (eqb-true p.0 slot same) in
          subst (λ k. IsPermutation (p.1 ∷ keys_of_pins ps) (k ∷ keys_of_pins ps)) key
          (IsPermutation-refl (p.1 ∷ keys_of_pins ps))
      | false ↦ λ _ more.
          let rest = keys-without known slot ps among.3 (omega arith) in
          IsPermutation-trans _ _ _
          (IsPermutation-cons p.1 (keys_of_pins ps)
          (slice_index known.keys slot ∷ keys_of_pins (without_pin_of slot ps)) rest)
          (IsPermutation-middle (p.1 ∷ []) (slice_index known.keys slot)
          (keys_of_pins (without_pin_of slot ps)))
    ]) refl some
