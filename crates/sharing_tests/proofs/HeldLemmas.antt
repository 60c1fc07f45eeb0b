-- The one pin of a seat.
use Rattle.std.proofs.Common.{◌≡◌, ℕ, zero, suc, ◌+◌, ◌-◌, ◌*◌, ◌<◌, ◌≤◌, List, [], ◌∷◌, length}
use Rattle.std.proofs.Common.{Bool, true, false, cond, nat_eq, eqb-true}
use Rattle.std.proofs.lemmas.Bool.{eq-eqb}
use Rattle.std.proofs.lemmas.List.Sums.{sum_by-cons}
use Rattle.std.specs.List.{sum_by}
use Rattle.std.proofs.Common.{subst, ap, sym, ◌∙◌, refl, arith}
use Rattle.std.proofs.Common.{Option, Some, None, IfSome, OnSome}
use Rattle.std.specs.Prelude.{Contains, IsPermutation}
use Rattle.std.proofs.lemmas.List.Sorted.{Contains-permutation, length_permutation}
use Rattle.std.proofs.lemmas.List.Sorted.{sum_by-IsPermutation}
use Rattle.std.proofs.lemmas.List.Elements.{Contains-get_or}
use Rattle.shard_gate.specs.Seated.{ShardId}
use Rattle.tex_world.specs.World.{Files}
use Rattle.tiff_format.specs.declared.cut.Cut.{Cut}
use Rattle.shard_gate.specs.Gate.{PinSeatState, PinState, IsTileOf, max_pins}
use Rattle.shard_gate.specs.Gate.{OnePinMore, OnePinLess}
use Rattle.sharing_tests.specs.Held.{HoldsAt, SameKeys}

-- A list of one element that has a key is that key alone.
one_key : (key : ℕ) (keys : List ℕ) → length keys ≡ 1 → Contains keys key → keys ≡ key ∷ []
one_key key [] e has = absurd (omega (arith, e))
one_key key (k ∷ []) e (zero, low, is) = ap (λ (n : ℕ). n ∷ []) is
one_key key (k ∷ []) e (suc i, low, is) = absurd (omega (arith, low))
one_key key (k ∷ l ∷ keys) e has = absurd (omega (arith, e))

no_keys : (keys : List ℕ) → length keys ≡ 0 → keys ≡ []
no_keys [] e = refl
no_keys (k ∷ keys) e = absurd (omega (arith, e))

-- A seat without a pin may have one.
pub has_room : (seat : PinSeatState) → seat.pins ≡ [] → 1 ≤ seat.permits
    → length seat.pins < max_pins * seat.permits
has_room seat none some = omega (arith, ap length none, some)

-- A seat without a pin that pins a tile holds that pin.
pub held_one : (key : ℕ) (old new : PinSeatState) → old.pins ≡ [] → OnePinMore key old new
    → new.pins ≡ key ∷ []
held_one key old new none more =
    let is : IsPermutation (key ∷ []) new.pins =
    subst (λ (l : List ℕ). IsPermutation (key ∷ l) new.pins) none more.pins in
    one_key key new.pins (length_permutation (key ∷ []) new.pins is)
    (Contains-permutation (key ∷ []) new.pins key is (Contains-get_or (key ∷ []) 0 0 (omega arith)))

-- The key of its pin is among those of its seat.
pub held_key : (key : ℕ) (keys : List ℕ) → keys ≡ key ∷ [] → Contains keys key
held_key key keys held = subst (λ (l : List ℕ). Contains l key) (sym held)
    (Contains-get_or (key ∷ []) 0 0 (omega arith))

-- Without its one pin it has none.
pub held_none : (key : ℕ) (old new : PinSeatState) → old.pins ≡ key ∷ []
    → OnePinLess key old new → new.pins ≡ []
held_none key old new held less = no_keys new.pins (omega (
  arith,
  ap length held,
  length_permutation old.pins (key ∷ new.pins) less.pins,
))

-- the seat has one pin, given by the key of its tile
pub holds : (id : List ShardId) (key shown : ℕ) (old new : PinSeatState) → old.gate ≡ id
    → old.pins ≡ [] → shown ≡ key → OnePinMore key old new → HoldsAt id shown new
holds id key shown old new here none keyed more = (
  more.gate ∙ here,
  held_one key old new none more ∙ ap (λ (n : ℕ). n ∷ []) (sym keyed),
)

-- the seat has one pin, if something was found
pub any_holds : (files : Files) (cut : Cut) (id : List ShardId) (key : ℕ) (old new : PinSeatState)
    (found : Option PinState) → old.gate ≡ id → old.pins ≡ []
    → IfSome found (λ pin. IsTileOf files cut key pin.tile) → OnSome found (OnePinMore key old new)
    → IfSome found (λ pin. HoldsAt id pin.tile.key new)
any_holds files cut id key old new None here none is more = tt
any_holds files cut id key old new (Some pin) here none is more =
    holds id key pin.tile.key old new here none is.keyed more

-- ---- several pins

-- how often a key is among keys
abbrev times : ℕ → List ℕ → ℕ
times key keys = sum_by (λ (k : ℕ). cond (nat_eq k key) 1 0) keys

behind : (key k : ℕ) (keys : List ℕ) → Contains keys key → Contains (k ∷ keys) key
behind key k keys (i, low, is) = (suc i, omega (arith, low), is)

-- A key that is counted among keys is one of them.
counted_key : (key : ℕ) (keys : List ℕ) → 1 ≤ times key keys → Contains keys key
counted_key key [] some =
    let none : 1 ≤ zero = some in
    absurd (omega (arith, none))
counted_key key (k ∷ keys) some =
    (elim (nat_eq k key) as (λ b. nat_eq k key ≡ b → 1 ≤ cond b 1 0 + times key keys
    → Contains (k ∷ keys) key) [
      | true ↦ λ same _. (zero, omega arith, eqb-true k key same)
      | false ↦ λ _ more.
          let rest : 1 ≤ zero + times key keys = more in
          behind key k keys (counted_key key keys (omega (arith, rest)))
    ]) refl (subst (λ (n : ℕ). 1 ≤ n) (sum_by-cons (λ (j : ℕ). cond (nat_eq j key) 1 0) k keys) some)

-- With one more pin, one fewer is allowed.
pub room_inside : (key left : ℕ) (old new : PinSeatState) → OnePinMore key old new
    → length old.pins + left ≤ max_pins * old.permits → 1 ≤ left
    → length new.pins + (left - 1) ≤ max_pins * new.permits
room_inside key left old new more room some =
    subst (λ (n : ℕ). length new.pins + (left - 1) ≤ max_pins * n) (sym more.permits)
    (omega (arith, length_permutation (key ∷ old.pins) new.pins more.pins, room, some))

-- what is summed over the keys of a seat with one pin more, or less
sum_more : (f : ℕ → ℕ) (key : ℕ) (old new : PinSeatState) → OnePinMore key old new
    → sum_by f new.pins ≡ f key + sum_by f old.pins
sum_more f key old new more =
    sum_by-IsPermutation f (key ∷ old.pins) new.pins more.pins ∙ sum_by-cons f key old.pins

sum_less : (f : ℕ → ℕ) (key : ℕ) (old new : PinSeatState) → OnePinLess key old new
    → f key + sum_by f new.pins ≡ sum_by f old.pins
sum_less f key old new less =
    sym (sum_by-cons f key new.pins) ∙ sum_by-IsPermutation f old.pins (key ∷ new.pins) less.pins

-- a key is equal to itself
one_time : (key : ℕ) → 1 ≤ cond (nat_eq key key) 1 0
one_time key = subst (λ (b : Bool). 1 ≤ cond b 1 0) (sym (eq-eqb key key refl)) (omega arith)

-- A pin is there as long as the keys stay.
pub still_there : (key : ℕ) (old pinned new : PinSeatState) → OnePinMore key old pinned
    → SameKeys pinned new → Contains new.pins key
still_there key old pinned new more same =
    let f : ℕ → ℕ = λ (k : ℕ). cond (nat_eq k key) 1 0 in
    counted_key key new.pins
    (subst (λ (n : ℕ). 1 ≤ n) (sym (same.keys f ∙ sum_more f key old pinned more))
    (omega (arith, one_time key)))

-- A pin that was given back leaves the keys of before.
pub same_keys : (key : ℕ) (old pinned inside new : PinSeatState) → OnePinMore key old pinned
    → SameKeys pinned inside → OnePinLess key inside new → SameKeys old new
same_keys key old pinned inside new more same less = record {
  gate = less.gate ∙ same.gate ∙ more.gate;
  permits = less.permits ∙ same.permits ∙ more.permits;
  keys = λ f. omega (
    arith,
    same.keys f,
    sum_more f key old pinned more,
    sum_less f key inside new less,
  );
}
