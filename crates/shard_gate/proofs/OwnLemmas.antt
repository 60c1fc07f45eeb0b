-- How many of a seat's pins are of one shard? Those that its seat there has.
use Rattle.std.proofs.Common.{◌≡◌, ◌≢◌, ℕ, zero, suc, ◌<◌, cond, List, [], ◌∷◌, length}
use Rattle.std.proofs.Common.{get_or, refl, ap, sym, subst, ◌∙◌, ne_eqb, arith}
use Rattle.std.specs.Prelude.{Contains}
use Rattle.std.specs.List.{sum_by}
use Rattle.std.proofs.lemmas.Bool.{eq-eqb}
use Rattle.std.proofs.lemmas.List.Sums.{sum_by-cons, sum_by-append}
use Rattle.shard_gate.specs.Seated.{ShardId, SeatAt}
use Rattle.shard_gate.specs.Gate.{PinSeatState, shard_of, one_of_shard, own_pins}
use Rattle.shard_gate.specs.Kept.{seat_state, keys_of_seats, ArePlaced, IsPinSeat}
use Rattle.shard_gate.proofs.VisitLemmas.{inside, as_long}

module _ (f : ℕ → ℕ) where
  ones : (keys : List ℕ) → ((key : ℕ) → Contains keys key → f key ≡ 1) → sum_by f keys ≡ length keys
  ones [] each = refl
  ones (x ∷ xs) each = omega (
    arith,
    sum_by-cons f x xs,
    each x (zero, omega arith, refl),
    ones xs (λ key (k, low, is). each key (suc k, omega arith, is)),
  )

  zeros : (keys : List ℕ) → ((key : ℕ) → Contains keys key → f key ≡ 0) → sum_by f keys ≡ 0
  zeros [] each = refl
  zeros (x ∷ xs) each = omega (
    arith,
    sum_by-cons f x xs,
    each x (zero, omega arith, refl),
    zeros xs (λ key (k, low, is). each key (suc k, omega arith, is)),
  )

  none_at : (seats : List SeatAt)
      → ((j key : ℕ) (d : SeatAt) → j < length seats → Contains (get_or seats j d).pins key
      → f key ≡ 0)
      → sum_by f (keys_of_seats seats) ≡ 0
  none_at [] none = refl
  none_at (s ∷ seats) none = omega (
    arith,
    sum_by-append f s.pins (keys_of_seats seats),
    zeros s.pins (λ key has. none zero key s (omega arith) has),
    none_at seats (λ j key d low has. none (suc j) key d (omega arith) has),
  )

  -- If a pin at one shard counts as 1 and every other as 0, the sum is the number of pins there.
  all_at : (seats : List SeatAt) (k : ℕ) (d : SeatAt) → k < length seats
      → ((key : ℕ) → Contains (get_or seats k d).pins key → f key ≡ 1)
      → ((j key : ℕ) (e : SeatAt) → j < length seats → j ≢ k → Contains (get_or seats j e).pins key
      → f key ≡ 0)
      → sum_by f (keys_of_seats seats) ≡ length (get_or seats k d).pins
  all_at [] k d low one none = absurd (omega arith)
  all_at (s ∷ seats) zero d low one none = omega (
    arith,
    sum_by-append f s.pins (keys_of_seats seats),
    ones s.pins one,
    none_at seats (λ j key e there has. none (suc j) key e (omega arith) (λ is. absurd (omega arith)) has),
  )
  all_at (s ∷ seats) (suc k) d low one none = omega (
    arith,
    sum_by-append f s.pins (keys_of_seats seats),
    zeros s.pins (λ key has. none zero key s (omega arith) (λ is. absurd (omega arith)) has),
    all_at seats k d (omega arith) one
        (λ j key e there apart has. none (suc j) key e (omega arith) (λ is. apart (omega arith)) has),
  )

own_at : (seats : List SeatAt) (k : ℕ) (d : SeatAt) → ArePlaced seats → k < length seats
    → own_pins (length seats) k (keys_of_seats seats) ≡ length (get_or seats k d).pins
own_at seats k d placed low = all_at (one_of_shard (length seats) k) seats k d low
    (λ key has. ap (λ b. cond {A = ℕ} b 1 0)
    (eq-eqb (shard_of (length seats) key) k (placed k key d low has)))
    (λ j key e there apart has. ap (λ b. cond {A = ℕ} b 1 0)
    (ne_eqb (shard_of (length seats) key) k
    (λ (is : shard_of (length seats) key ≡ k). apart (sym (placed j key e there has) ∙ is))))

module _ (seats : List SeatAt) (permits : ℕ) (p : PinSeatState)
    (is : seat_state seats permits ≡ p) (id : List ShardId) (same : p.gate ≡ id) (k : ℕ)
    (low : k < length id) (x d : SeatAt) (here : x ≡ get_or seats k d)
    (kept : IsPinSeat seats permits) where
  in_range : k < length seats
  in_range = inside seats permits p is id same k low x x d here

  pub own_here : own_pins (length id) k p.pins ≡ length x.pins
  own_here = subst (λ n. own_pins n k p.pins ≡ length x.pins)
      (as_long seats permits p is id same k low x x d here)
      (subst (λ (q : PinSeatState). own_pins (length seats) k q.pins ≡ length x.pins) is
      (own_at seats k d kept.placed in_range ∙ ap (λ (s : SeatAt). length s.pins) (sym here)))

  pub permits_here : x.permits ≡ p.permits
  permits_here = ap (λ (s : SeatAt). s.permits) here
      ∙ ((kept.parts k d in_range).same ∙ ap (λ (q : PinSeatState). q.permits) is)
