-- What a word that is written leaves of the other words, and of what is known of them.
use Rattle.std.proofs.Common.{◌≡◌, ◌≢◌, ℕ, ◌+◌, ◌-◌, ◌*◌, ◌^◌, ◌%◌, ◌<◌, ◌≤◌, cond, List}
use Rattle.std.proofs.Common.{[], ◌∷◌, zero, suc, nat_eq, set, refl, subst, sym, ap, ◌∙◌}
use Rattle.std.proofs.Common.{true, false, ◌||◌}
use Rattle.std.proofs.Common.{arith, length}
use Rattle.std.specs.Prelude.{slice_index}
use Rattle.std.proofs.lemmas.Bool.{eq-eqb, false≢true}
use Rattle.std.proofs.Common.{ne_eqb}
use Rattle.std.proofs.lemmas.List.{get_or-set_same, get_or-set_other}
use mathlib.Core.Logic.{dite}
use native.Mathlib.Decide.{ℕ_discrete}
use Rattle.tile_store.specs.Links.{is_in}
use Rattle.shard_gate.specs.Words.{SlotWords, AreWords}
use Rattle.shard_gate.specs.Words.{first_word, key_word, pin_word}
use Rattle.shard_gate.specs.Words.{pins_on, without_pin_of}
use Rattle.shard_gate.proofs.PinLemmas.{pins_on-without}

-- ---- the words of the slots, when another word changes

pub keys_stay : (words : List ℕ) (word n slot : ℕ) → word < first_word
    → slice_index (set words word n) (key_word slot) ≡ slice_index words (key_word slot)
keys_stay words word n slot low =
    get_or-set_other words word (key_word slot) n 0 (λ e. absurd (omega arith))

pub pins_stay : (words : List ℕ) (word n slot : ℕ) → word < first_word
    → slice_index (set words word n) (pin_word slot) ≡ slice_index words (pin_word slot)
pins_stay words word n slot low =
    get_or-set_other words word (pin_word slot) n 0 (λ e. absurd (omega arith))

pub keys_beside : (words : List ℕ) (slot n other : ℕ)
    → slice_index (set words (pin_word slot) n) (key_word other) ≡ slice_index words (key_word other)
keys_beside words slot n other =
    get_or-set_other words (pin_word slot) (key_word other) n 0 (λ e. absurd (omega arith))

pub pins_beside : (words : List ℕ) (slot n other : ℕ)
    → slice_index (set words (key_word slot) n) (pin_word other) ≡ slice_index words (pin_word other)
pins_beside words slot n other =
    get_or-set_other words (key_word slot) (pin_word other) n 0 (λ e. absurd (omega arith))

-- One word of a slot is set, and so is what is known of it.
pub set_both : (words ks : List ℕ) (base slot n : ℕ) → base + 2 * slot < length words
    → slot < length ks
    → ((other : ℕ) → slice_index words (base + 2 * other) ≡ slice_index ks other)
    → (other : ℕ)
    → slice_index (set words (base + 2 * slot) n) (base + 2 * other) ≡ slice_index (set ks slot n) other
set_both words ks base slot n low inside each other = dite (ℕ_discrete other slot)
    (λ (e : other ≡ slot). subst
    (λ k. slice_index (set words (base + 2 * slot) n) (base + 2 * k) ≡ slice_index (set ks slot n) k)
    (sym e)
    (get_or-set_same words (base + 2 * slot) n 0 low ∙ sym (get_or-set_same ks slot n 0 inside)))
    (λ (ne : other ≢ slot).
    get_or-set_other words (base + 2 * slot) (base + 2 * other) n 0 (λ e. ne (omega arith))
    ∙ (each other ∙ sym (get_or-set_other ks slot other n 0 ne)))

pub words_stay : (passes : ℕ) (words : List ℕ) (word n : ℕ) (known : SlotWords) → word < first_word
    → AreWords passes words known → AreWords passes (set words word n) known
words_stay passes words word n known low are = record {
  key_count = are.key_count;
  pin_count = are.pin_count;
  keys = λ slot. keys_stay words word n slot low ∙ are.keys slot;
  pins = λ slot. pins_stay words word n slot low ∙ are.pins slot;
}

-- A word is set to what it is.
pub set_same : (words : List ℕ) (k d : ℕ) → set words k (slice_index words k) ≡ words
set_same [] k d = refl
set_same (x ∷ words) zero d = refl
set_same (x ∷ words) (suc k) d = ap (λ (l : List ℕ). x ∷ l) (set_same words k d)

-- ---- numbers of 64 bits

pub small_mod : (n : ℕ) → n < 2 ^ 64 → n % 2 ^ 64 ≡ n
small_mod n low = omega arith

pub less_mod : (n : ℕ) → 1 ≤ n → n < 2 ^ 64 → (n + (2 ^ 64 - 1)) % 2 ^ 64 ≡ n - 1
less_mod n low fits = omega arith

-- A pin more in the word of a slot is one more of the seat.
pub pin_shift : (words : List ℕ) (slot n other : ℕ) (pins : List (ℕ × ℕ)) (key : ℕ)
    → pin_word slot < length words → slice_index words (pin_word slot) ≡ n
    → slice_index (set words (pin_word slot) (n + 1)) (pin_word other) + pins_on other pins
    ≡ slice_index words (pin_word other) + pins_on other ((slot, key) ∷ pins)
pin_shift words slot n other pins key low is = dite (ℕ_discrete other slot)
    (λ (e : other ≡ slot). subst
    (λ k. slice_index (set words (pin_word slot) (n + 1)) (pin_word k) + pins_on k pins
    ≡ slice_index words (pin_word k) + (cond (nat_eq slot k) 1 0 + pins_on k pins)) (sym e)
    (omega (
      arith,
      is,
      get_or-set_same words (pin_word slot) (n + 1) 0 low,
      ap (λ b. cond {A = ℕ} b 1 0) (eq-eqb slot slot refl),
    )))
    (λ (ne : other ≢ slot). omega (
      arith,
      get_or-set_other words (pin_word slot) (pin_word other) (n + 1) 0 (λ e. ne (omega arith)),
      ap (λ b. cond {A = ℕ} b 1 0) (ne_eqb slot other (λ e. ne (sym e))),
    ))

pub unpin_shift : (words : List ℕ) (slot n other : ℕ) (pins : List (ℕ × ℕ))
    → pin_word slot < length words → slice_index words (pin_word slot) ≡ n → 1 ≤ n
    → 1 ≤ pins_on slot pins
    → slice_index (set words (pin_word slot) (n - 1)) (pin_word other) + pins_on other pins
    ≡ slice_index words (pin_word other) + pins_on other (without_pin_of slot pins)
unpin_shift words slot n other pins low is some_pin own = dite (ℕ_discrete other slot)
    (λ (e : other ≡ slot). subst
    (λ k. slice_index (set words (pin_word slot) (n - 1)) (pin_word k) + pins_on k pins
    ≡ slice_index words (pin_word k) + pins_on k (without_pin_of slot pins)) (sym e)
    (omega (
      arith,
      is,
      get_or-set_same words (pin_word slot) (n - 1) 0 low,
      pins_on-without slot pins own slot,
      ap (λ b. cond {A = ℕ} b 1 0) (eq-eqb slot slot refl),
    )))
    (λ (ne : other ≢ slot). omega (
      arith,
      get_or-set_other words (pin_word slot) (pin_word other) (n - 1) 0 (λ e. ne (omega arith)),
      pins_on-without slot pins own other,
      ap (λ b. cond {A = ℕ} b 1 0) (ne_eqb slot other (λ e. ne (sym e))),
    ))

-- ---- slots in a list

pub head_in : (slot : ℕ) (rest : List ℕ) → is_in slot (slot ∷ rest) ≡ true
head_in slot rest = ap (λ b. b || is_in slot rest) (eq-eqb slot slot refl)

pub tail_in : (k slot : ℕ) (rest : List ℕ) → k ≢ slot → is_in k (slot ∷ rest) ≡ is_in k rest
tail_in k slot rest ne = ap (λ b. b || is_in k rest) (ne_eqb k slot ne)

-- A slot that is not in a list is not its first and not in the rest.
pub out_of : (k slot : ℕ) (rest : List ℕ) → is_in k (slot ∷ rest) ≡ false
    → (k ≢ slot) × (is_in k rest ≡ false)
out_of k slot rest out = dite (ℕ_discrete k slot)
    (λ (e : k ≡ slot). absurd (false≢true
    (sym out ∙ (ap (λ j. is_in j (slot ∷ rest)) e ∙ head_in slot rest))))
    (λ (ne : k ≢ slot). (ne, sym (tail_in k slot rest ne) ∙ out))
