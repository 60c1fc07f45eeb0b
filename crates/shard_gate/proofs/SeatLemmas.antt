-- The seats of one caller, one at each shard, and the keys of its pins.
use Rattle.std.proofs.Common.{◌≡◌, ◌≢◌, ℕ, zero, suc, ◌*◌, ◌<◌, ◌≤◌, List, [], ◌∷◌, ◌++◌, length}
use Rattle.std.proofs.Common.{get_or, set, subst, ap, sym, ◌∙◌, refl, map, ⊎_elim, arith, length-append}
use Rattle.std.specs.Prelude.{IsPermutation, Contains}
use Rattle.std.specs.List.{All}
use Rattle.std.proofs.lemmas.List.{length-set, get_or-set_same, get_or-set_other}
use Rattle.std.proofs.lemmas.List.Sorted.{IsPermutation-refl, IsPermutation-sym, IsPermutation-trans}
use Rattle.std.proofs.lemmas.List.Sorted.{IsPermutation-middle, IsPermutation-append_left}
use Rattle.std.proofs.lemmas.List.Sorted.{IsPermutation-append_right, Contains-permutation}
use Rattle.std.proofs.lemmas.List.Sorted.{length_permutation}
use Rattle.std.proofs.lemmas.List.Elements.{All-map, Contains-append_cases}
use mathlib.Core.Logic.{dite}
use native.Mathlib.Decide.{ℕ_discrete}
use Rattle.shard_gate.specs.Seated.{ShardId, SeatAt, shard_of_seat, first_seat, IsMadeBy}
use Rattle.shard_gate.specs.Gate.{max_permits, max_pins, shard_of}
use Rattle.shard_gate.specs.Visit.{visits_at, joined_at}
use Rattle.shard_gate.specs.Kept.{IsPinSeat, IsPartOf, ArePlaced, keys_of_seats, visits_of_seat}
use Rattle.shard_gate.specs.Kept.{joined_of_seat}

pub few_permits : (seats : List SeatAt) (permits : ℕ) → IsPinSeat seats permits
    → permits ≤ max_permits
few_permits [] permits kept = absurd (omega (arith, kept.some))
few_permits (s ∷ seats) permits kept =
    let part = kept.parts 0 s (omega arith) in
    omega (arith, part.few, part.most)

-- ---- the pins at each shard

-- No shard has more of them than all.
pub pins-le : (seats : List SeatAt) (k : ℕ) (d : SeatAt) → k < length seats
    → length (get_or seats k d).pins ≤ length (keys_of_seats seats)
pins-le [] k d low = absurd (omega arith)
pins-le (s ∷ seats) zero d low = omega (arith, length-append s.pins (keys_of_seats seats))
pins-le (s ∷ seats) (suc k) d low = omega (
  arith,
  length-append s.pins (keys_of_seats seats),
  pins-le seats k d (omega arith),
)

-- a key that is pinned at a shard
record IsAt (seats : List SeatAt) (key : ℕ) : Type 0 where
  shard : ℕ
  low : shard < length seats
  there : (d : SeatAt) → Contains (get_or seats shard d).pins key

some_shard : (seats : List SeatAt) (key : ℕ) → Contains (keys_of_seats seats) key → IsAt seats key
some_shard [] key (k, low, is) = absurd (omega arith)
some_shard (s ∷ seats) key has = ⊎_elim
    (λ (here : Contains s.pins key). record {
      shard = zero;
      low = omega arith;
      there = λ d. here;
    })
    (λ (more : Contains (keys_of_seats seats) key). let rest = some_shard seats key more in record {
      shard = suc rest.shard;
      low = omega (arith, rest.low);
      there = rest.there;
    })
    (Contains-append_cases s.pins (keys_of_seats seats) key has)

-- A key that is pinned is pinned at its own shard.
pub at_its_shard : (seats : List SeatAt) (key : ℕ) (d : SeatAt) → ArePlaced seats
    → Contains (keys_of_seats seats) key
    → Contains (get_or seats (shard_of (length seats) key) d).pins key
at_its_shard seats key d placed has =
    let is = some_shard seats key has in
    subst (λ k. Contains (get_or seats k d).pins key)
    (sym (placed is.shard key d is.low (is.there d))) (is.there d)

pub same_keys : (seats : List SeatAt) (k : ℕ) (new d : SeatAt) → new.pins ≡ (get_or seats k d).pins
    → keys_of_seats (set seats k new) ≡ keys_of_seats seats
same_keys [] k new d same = refl
same_keys (s ∷ seats) zero new d same = ap (λ l. l ++ keys_of_seats seats) same
same_keys (s ∷ seats) (suc k) new d same =
    ap (λ l. s.pins ++ l) (same_keys seats k new d same)

pub one_key_more : (seats : List SeatAt) (k key : ℕ) (new d : SeatAt) → k < length seats
    → new.pins ≡ key ∷ (get_or seats k d).pins
    → IsPermutation (key ∷ keys_of_seats seats) (keys_of_seats (set seats k new))
one_key_more [] k key new d low more = absurd (omega arith)
one_key_more (s ∷ seats) zero key new d low more =
    subst (λ l. IsPermutation (key ∷ (s.pins ++ keys_of_seats seats)) (l ++ keys_of_seats seats))
    (sym more) (IsPermutation-refl (key ∷ (s.pins ++ keys_of_seats seats)))
one_key_more (s ∷ seats) (suc k) key new d low more =
    IsPermutation-trans _ _ _
    (IsPermutation-sym _ _ (IsPermutation-middle s.pins key (keys_of_seats seats)))
    (IsPermutation-append_right s.pins (key ∷ keys_of_seats seats)
    (keys_of_seats (set seats k new)) (one_key_more seats k key new d (omega arith) more))

pub one_key_less : (seats : List SeatAt) (k key : ℕ) (new d : SeatAt) → k < length seats
    → IsPermutation (get_or seats k d).pins (key ∷ new.pins)
    → IsPermutation (keys_of_seats seats) (key ∷ keys_of_seats (set seats k new))
one_key_less [] k key new d low less = absurd (omega arith)
one_key_less (s ∷ seats) zero key new d low less =
    IsPermutation-append_left (keys_of_seats seats) s.pins (key ∷ new.pins) less
one_key_less (s ∷ seats) (suc k) key new d low less =
    IsPermutation-trans _ _ _
    (IsPermutation-append_right s.pins (keys_of_seats seats)
    (key ∷ keys_of_seats (set seats k new)) (one_key_less seats k key new d (omega arith) less))
    (IsPermutation-middle s.pins key (keys_of_seats (set seats k new)))

-- a list of one
only : (key other : ℕ) → Contains (key ∷ []) other → key ≡ other
only key other (zero, low, is) = is
only key other (suc k, low, is) = absurd (omega arith)

-- what is among the rest is among all
behind : (key : ℕ) (keys : List ℕ) (other : ℕ) → Contains keys other → Contains (key ∷ keys) other
behind key keys other (k, low, is) = (suc k, omega arith, is)

-- ---- one seat in another's place

module _ (seats : List SeatAt) (permits : ℕ) (k : ℕ) (new d : SeatAt) (low : k < length seats)
    (kept : IsPinSeat seats permits) (same_permits : new.permits ≡ (get_or seats k d).permits)
    (same_shard : new.shard ≡ (get_or seats k d).shard) where
  part_set : All (IsPartOf permits) (set seats k new)
  part_set j e there =
      let inside : j < length seats = omega (arith, length-set seats k new) in
      dite (ℕ_discrete j k)
      (λ (is : j ≡ k).
      let part = kept.parts k d low in
      let own : get_or (set seats k new) j e ≡ new =
      ap (λ n. get_or (set seats k new) n e) is ∙ get_or-set_same seats k new e low in
      subst (λ (s : SeatAt). IsPartOf permits s) (sym own)
      (record {
        same = same_permits ∙ part.same;
        few = subst (λ (i : ShardId). permits ≤ i.passes) (sym same_shard) part.few;
        most = subst (λ (i : ShardId). i.passes ≤ max_permits) (sym same_shard) part.most;
      }))
      (λ (ne : j ≢ k). subst (λ (s : SeatAt). IsPartOf permits s)
      (sym (get_or-set_other seats k j new e ne)) (kept.parts j e inside))

  place_set : ((key : ℕ) → Contains new.pins key → shard_of (length seats) key ≡ k)
      → ArePlaced (set seats k new)
  place_set own j key e there has =
      let long : length (set seats k new) ≡ length seats = length-set seats k new in
      let inside : j < length seats = omega (arith, long) in
      ap (λ n. shard_of n key) long ∙ dite (ℕ_discrete j k)
      (λ (is : j ≡ k).
      let here : get_or (set seats k new) j e ≡ new =
      ap (λ n. get_or (set seats k new) n e) is ∙ get_or-set_same seats k new e low in
      own key (subst (λ (s : SeatAt). Contains s.pins key) here has) ∙ sym is)
      (λ (ne : j ≢ k). kept.placed j key e inside
      (subst (λ (s : SeatAt). Contains s.pins key) (get_or-set_other seats k j new e ne) has))

  some_set : 0 < length (set seats k new)
  some_set = omega (arith, kept.some, length-set seats k new)

  -- the seats after a visit that changed no pin
  pub kept_same : new.pins ≡ (get_or seats k d).pins → IsPinSeat (set seats k new) permits
  kept_same same = record {
    parts = part_set;
    some = some_set;
    least = kept.least;
    few = omega (arith, kept.few, ap length (same_keys seats k new d same));
    placed = place_set (λ key has. kept.placed k key d low
        (subst (λ (l : List ℕ). Contains l key) same has));
  }

  -- one more pin, with a key of this shard; it was allowed
  pub kept_more : (key : ℕ) → shard_of (length seats) key ≡ k
      → new.pins ≡ key ∷ (get_or seats k d).pins
      → length (keys_of_seats seats) < max_pins * permits → IsPinSeat (set seats k new) permits
  kept_more key here more room = record {
    parts = part_set;
    some = some_set;
    least = kept.least;
    few = omega (
      arith,
      room,
      length_permutation (key ∷ keys_of_seats seats) (keys_of_seats (set seats k new))
          (one_key_more seats k key new d low more),
    );
    placed = place_set (λ other has. ⊎_elim
        (λ (first : Contains (key ∷ []) other). subst (λ n. shard_of (length seats) n ≡ k)
        (only key other first) here)
        (λ (rest : Contains (get_or seats k d).pins other). kept.placed k other d low rest)
        (Contains-append_cases (key ∷ []) (get_or seats k d).pins other
        (subst (λ (l : List ℕ). Contains l other) more has)));
  }

  -- or one less.
  pub kept_less : (key : ℕ) → IsPermutation (get_or seats k d).pins (key ∷ new.pins)
      → IsPinSeat (set seats k new) permits
  kept_less key less = record {
    parts = part_set;
    some = some_set;
    least = kept.least;
    few = omega (
      arith,
      kept.few,
      length_permutation (keys_of_seats seats) (key ∷ keys_of_seats (set seats k new))
          (one_key_less seats k key new d low less),
    );
    placed = place_set (λ other has. kept.placed k other d low
        (Contains-permutation (key ∷ new.pins) (get_or seats k d).pins other
        (IsPermutation-sym (get_or seats k d).pins (key ∷ new.pins) less)
        (behind key new.pins other has)));
  }

-- ---- the first seat

-- a first seat has all permits at each shard
pub first_parts : (tables : List ShardId) (tag passes : ℕ) → All (IsMadeBy tag passes) tables
    → passes ≤ max_permits → All (IsPartOf passes) (map first_seat tables)
first_parts tables tag passes made few = All-map (IsPartOf passes) first_seat tables
    (λ k d low. let by = made k d low in record {
      same = by.passes;
      few = omega (arith, by.passes);
      most = omega (arith, by.passes, few);
    })

-- a first seat belongs to these shards
pub first_shards : (tables : List ShardId) → map shard_of_seat (map first_seat tables) ≡ tables
first_shards [] = refl
first_shards (t ∷ tables) = ap (λ (l : List ShardId). t ∷ l) (first_shards tables)

-- a first seat has no pin
pub first_keys : (tables : List ShardId) → keys_of_seats (map first_seat tables) ≡ []
first_keys [] = refl
first_keys (t ∷ tables) = first_keys tables

-- the seats of a new gate have made no visit
pub first_visits : (tables : List ShardId) (k : ℕ)
    → visits_at k (map visits_of_seat (map first_seat tables)) ≡ []
first_visits [] k = refl
first_visits (t ∷ tables) zero = refl
first_visits (t ∷ tables) (suc k) = first_visits tables k

-- the seats of a new gate have taken over no other
pub first_joined : (tables : List ShardId) (k : ℕ)
    → joined_at k (map joined_of_seat (map first_seat tables)) ≡ []
first_joined [] k = refl
first_joined (t ∷ tables) zero = refl
first_joined (t ∷ tables) (suc k) = first_joined tables k

-- Without pins, each pin is trivially at its shard.
pub none_placed : (seats : List SeatAt) → keys_of_seats seats ≡ [] → ArePlaced seats
none_placed seats none k key d low has =
    let inside = has.1 in
    absurd (omega (arith, ap length none, pins-le seats k d low))
