-- What a split and a join leave of the seats of one caller.
use Rattle.std.proofs.Common.{◌≡◌, ℕ, zero, suc, ◌+◌, ◌-◌, ◌*◌, ◌<◌, ◌≤◌, List, [], ◌∷◌, ◌++◌}
use Rattle.std.specs.Prelude.{Contains}
use Rattle.std.proofs.Common.{map, length, get_or, refl, ap, sym, subst, ◌∙◌, arith}
use Rattle.std.specs.List.{All}
use Rattle.std.proofs.lemmas.List.{length-map, get_or-map}
use Rattle.std.proofs.lemmas.List.Elements.{All-map}
use Rattle.tiff_format.specs.declared.cut.Cut.{Cut}
use Rattle.shard_gate.specs.Seated.{ShardId, SeatAt, shard_of_seat, kept_seat, new_seat}
use Rattle.shard_gate.specs.Seated.{both_seats, joined_seats}
use Rattle.shard_gate.specs.Gate.{PinSeatState, IsSecondSeat, AfterSplit, AfterJoin, max_pins, shard_of}
use Rattle.shard_gate.specs.Visit.{visits_at}
use Rattle.shard_gate.specs.Visit as visited
use Rattle.shard_gate.specs.Kept.{IsPinSeat, IsPartOf, IsGate, seat_state}
use Rattle.shard_gate.specs.Kept.{visits_of_seat, joined_of_seat, keys_of_seats}
use Rattle.shard_gate.proofs.SeatLemmas.{pins-le, none_placed}

-- A change of permits alone leaves each seat at its shard.
pub same_by : {Y : Type 0} (f : SeatAt → Y) (g : SeatAt → SeatAt) (seats : List SeatAt)
    → ((s : SeatAt) → f (g s) ≡ f s) → map f (map g seats) ≡ map f seats
same_by f g [] stays = refl
same_by f g (s ∷ seats) stays = λ i. stays s i ∷ same_by f g seats stays i

-- a new seat has made no visit
pub no_visits : (seats : List SeatAt) (k : ℕ)
    → visits_at k (map visits_of_seat (map new_seat seats)) ≡ []
no_visits [] k = refl
no_visits (s ∷ seats) zero = refl
no_visits (s ∷ seats) (suc k) = no_visits seats k

-- a new seat has taken over no other
no_joined : (seats : List SeatAt) (k : ℕ)
    → visited.joined_at k (map joined_of_seat (map new_seat seats)) ≡ []
no_joined [] k = refl
no_joined (s ∷ seats) zero = refl
no_joined (s ∷ seats) (suc k) = no_joined seats k

-- A change of permits only leaves every pin where it is.
kept_keys : (seats : List SeatAt) → keys_of_seats (map kept_seat seats) ≡ keys_of_seats seats
kept_keys [] = refl
kept_keys (s ∷ seats) = ap (λ l. s.pins ++ l) (kept_keys seats)

-- a new seat has no pin
no_keys : (seats : List SeatAt) → keys_of_seats (map new_seat seats) ≡ []
no_keys [] = refl
no_keys (s ∷ seats) = no_keys seats

pub map_at : (f : SeatAt → SeatAt) (seats : List SeatAt) (k : ℕ) (d e : SeatAt) → k < length seats
    → get_or (map f seats) k d ≡ f (get_or seats k e)
map_at f [] k d e low = absurd (omega arith)
map_at f (s ∷ seats) zero d e low = refl
map_at f (s ∷ seats) (suc k) d e low = map_at f seats k d e (omega arith)

empty : {X : Type 0} (xs : List X) → length xs ≤ 0 → xs ≡ []
empty [] low = refl
empty (x ∷ xs) low = absurd (omega arith)

-- A seat without pins has none at any shard.
pub none_held : (seats : List SeatAt) → keys_of_seats seats ≡ []
    → All (λ (s : SeatAt). s.pins ≡ []) seats
none_held seats none k d low =
    empty (get_or seats k d).pins (omega (arith, ap length none, pins-le seats k d low))

module _ (seats : List SeatAt) (permits : ℕ) (kept : IsPinSeat seats permits) (p : PinSeatState)
    (is : seat_state seats permits ≡ p) where
  -- The pins at each shard fit the permits that are kept.
  pub split_fits : length p.pins ≤ max_pins * (p.permits - 1)
      → All (λ (s : SeatAt). length s.pins ≤ max_pins * (s.permits - 1)) seats
  split_fits few k d low =
      let part = kept.parts k d low in
      let own : permits ≡ p.permits = ap (λ (q : PinSeatState). q.permits) is in
      subst (λ n. length (get_or seats k d).pins ≤ max_pins * (n - 1)) (sym (part.same ∙ own))
      (omega (
        arith,
        few,
        pins-le seats k d low,
        ap (λ (q : PinSeatState). length q.pins) is,
      ))

  pub split_kept : 1 < p.permits → length p.pins ≤ max_pins * (p.permits - 1)
      → IsPinSeat (map kept_seat seats) (permits - 1)
  split_kept enough few =
      let count = ap (λ (q : PinSeatState). q.permits) is in
      let held = ap (λ (q : PinSeatState). length q.pins) is in
      let keys = kept_keys seats in
      let long : length (map kept_seat seats) ≡ length seats = length-map {A = SeatAt} {B = SeatAt} _ _ in
      record {
        parts = All-map (IsPartOf (permits - 1)) kept_seat seats
            (λ k d low. let part = kept.parts k d low in record {
              same = ap (λ n. n - 1) part.same;
              few = omega (arith, part.few);
              most = part.most;
            });
        some = omega (arith, kept.some, length-map {A = SeatAt} {B = SeatAt});
        least = omega (arith, enough, count);
        few = subst (λ n. n ≤ max_pins * (permits - 1)) (sym (ap length keys ∙ held))
            (subst (λ n. length p.pins ≤ max_pins * (n - 1)) (sym count) few);
        placed = λ k key d low has.
            let inside : k < length seats = omega (arith, long) in
            let there = map_at kept_seat seats k d d inside in
            ap (λ n. shard_of n key) long ∙ kept.placed k key d inside
            (subst (λ (s : SeatAt). Contains s.pins key) there has);
      }

  pub after_split : AfterSplit p (seat_state (map kept_seat seats) (permits - 1))
  after_split = record {
    gate = same_by shard_of_seat kept_seat seats (λ s. refl)
        ∙ ap (λ (q : PinSeatState). q.gate) is;
    permits = ap (λ (q : PinSeatState). q.permits - 1) is;
    pins = kept_keys seats ∙ ap (λ (q : PinSeatState). q.pins) is;
    visits = same_by visits_of_seat kept_seat seats (λ s. refl)
        ∙ ap (λ (q : PinSeatState). q.visits) is;
    joined = same_by joined_of_seat kept_seat seats (λ s. refl)
        ∙ ap (λ (q : PinSeatState). q.joined) is;
  }

  pub second_seat : IsSecondSeat p (seat_state (map new_seat seats) 1)
  second_seat = record {
    gate = same_by shard_of_seat new_seat seats (λ s. refl)
        ∙ ap (λ (q : PinSeatState). q.gate) is;
    permits = refl;
    pins = no_keys seats;
    visits = no_visits seats;
    joined = no_joined seats;
  }

  -- Each shard of the seat has the passes of the gate.
  passes_at : (tables : List ShardId) (share : ℕ) (cut : Cut) (passes : ℕ)
      → IsGate tables share cut passes → map shard_of_seat seats ≡ tables → (k : ℕ) (d : SeatAt)
      → k < length seats → (get_or seats k d).shard.passes ≡ passes
  passes_at tables share cut passes gate same k d low =
      let there : get_or tables k d.shard ≡ (get_or seats k d).shard =
      ap (λ (l : List ShardId). get_or l k d.shard) (sym same)
      ∙ get_or-map shard_of_seat seats k d d.shard low in
      ap (λ (t : ShardId). t.passes) (sym there)
      ∙ (gate.made k d.shard (omega (
        arith,
        low,
        ap length same,
        length-map {A = SeatAt} {B = ShardId},
      ))).passes

  pub second_kept : IsPinSeat (map new_seat seats) 1
  second_kept = record {
    parts = All-map (IsPartOf 1) new_seat seats
        (λ k d low. let part = kept.parts k d low in record {
          same = refl;
          few = omega (arith, part.few, kept.least);
          most = part.most;
        });
    some = omega (arith, kept.some, length-map {A = SeatAt} {B = SeatAt});
    least = omega arith;
    few = omega (arith, ap length (no_keys seats));
    placed = none_placed (map new_seat seats) (no_keys seats);
  }

pub joined_length : (a b : List SeatAt) → length (joined_seats a b) ≡ length a
joined_length [] b = refl
joined_length (x ∷ a) [] = refl
joined_length (x ∷ a) (y ∷ b) = omega (arith, joined_length a b)

joined_at : (a b : List SeatAt) (k : ℕ) (d : SeatAt) → k < length a → length a ≡ length b
    → get_or (joined_seats a b) k d ≡ both_seats (get_or a k d) (get_or b k d)
joined_at [] b k d low same = absurd (omega arith)
joined_at (x ∷ a) [] k d low same = absurd (omega arith)
joined_at (x ∷ a) (y ∷ b) zero d low same = refl
joined_at (x ∷ a) (y ∷ b) (suc k) d low same = joined_at a b k d (omega arith) (omega arith)

joined_by : {Y : Type 0} (f : SeatAt → Y) (a b : List SeatAt)
    → ((x y : SeatAt) → f (both_seats x y) ≡ f x) → map f (joined_seats a b) ≡ map f a
joined_by f [] b stays = refl
joined_by f (x ∷ a) [] stays = refl
joined_by f (x ∷ a) (y ∷ b) stays = λ i. stays x y i ∷ joined_by f a b stays i

joined_keys : (a b : List SeatAt) → keys_of_seats (joined_seats a b) ≡ keys_of_seats a
joined_keys [] b = refl
joined_keys (x ∷ a) [] = refl
joined_keys (x ∷ a) (y ∷ b) = ap (λ l. x.pins ++ l) (joined_keys a b)

-- A seat lists the visits of the seat that it takes over before the earlier ones.
joined_lists : (a b : List SeatAt) (k : ℕ) → k < length a → length a ≡ length b
    → visited.joined_at k (map joined_of_seat (joined_seats a b))
    ≡ (visits_at k (map visits_of_seat b) ∷ visited.joined_at k (map joined_of_seat b))
    ++ visited.joined_at k (map joined_of_seat a)
joined_lists [] b k low same = absurd (omega arith)
joined_lists (x ∷ a) [] k low same = absurd (omega arith)
joined_lists (x ∷ a) (y ∷ b) zero low same = refl
joined_lists (x ∷ a) (y ∷ b) (suc k) low same = joined_lists a b k (omega arith) (omega arith)

-- one of them
some_seat : (seats : List SeatAt) → 0 < length seats → SeatAt
some_seat [] low = absurd (omega (arith, low))
some_seat (s ∷ seats) low = s

module _ (a b : List SeatAt) (own theirs : ℕ) (kept : IsPinSeat a own)
    (other : IsPinSeat b theirs) (same : map shard_of_seat a ≡ map shard_of_seat b)
    (few : All (λ (s : SeatAt). s.permits ≤ s.shard.passes) (joined_seats a b)) where
  as_long : length a ≡ length b
  as_long = omega (arith, ap length same, length-map {A = SeatAt} {B = ShardId})

  joined_part : (k : ℕ) (d : SeatAt) → k < length a
      → IsPartOf (own + theirs) (get_or (joined_seats a b) k d)
  joined_part k d low =
      let mine = kept.parts k d low in
      let more = other.parts k d (omega (arith, low, as_long)) in
      let at = joined_at a b k d low as_long in
      let least = few k d (omega (arith, low, joined_length a b)) in
      let sum : both_seats (get_or a k d) (get_or b k d) ≡ get_or (joined_seats a b) k d = sym at in
      let right : (both_seats (get_or a k d) (get_or b k d)).permits
      ≤ (both_seats (get_or a k d) (get_or b k d)).shard.passes =
      subst (λ (s : SeatAt). s.permits ≤ s.shard.passes) at least in
      subst (λ (s : SeatAt). IsPartOf (own + theirs) s) sum
      (record {
        same = omega (arith, mine.same, more.same);
        few = omega (arith, mine.same, more.same, right);
        most = mine.most;
      })

  pub joined_kept : IsPinSeat (joined_seats a b) (own + theirs)
  joined_kept = record {
    parts = λ k d low. joined_part k d (omega (arith, low, joined_length a b));
    some = omega (arith, kept.some, joined_length a b);
    least = omega (arith, kept.least);
    few = omega (arith, kept.few, ap length (joined_keys a b));
    placed = λ k key d low has.
        let long = joined_length a b in
        let inside : k < length a = omega (arith, long) in
        ap (λ n. shard_of n key) long ∙ kept.placed k key d inside
        (subst (λ (s : SeatAt). Contains s.pins key) (joined_at a b k d inside as_long) has);
  }

  -- Together they have no more permits than the gate has passes.
  pub joined_few : (tables : List ShardId) (share : ℕ) (cut : Cut) (passes : ℕ)
      → IsGate tables share cut passes → map shard_of_seat a ≡ tables → own + theirs ≤ passes
  joined_few tables share cut passes gate here =
      let d = some_seat a kept.some in
      let both = joined_seats a b in
      omega (
        arith,
        (joined_part 0 d kept.some).few,
        passes_at both (own + theirs) joined_kept (seat_state both (own + theirs)) refl tables share
            cut passes gate (joined_by shard_of_seat a b (λ x y. refl) ∙ here) 0 d
            (omega (arith, kept.some, joined_length a b)),
      )

  pub after_join : (p q : PinSeatState) → seat_state a own ≡ p → seat_state b theirs ≡ q
      → AfterJoin q p (seat_state (joined_seats a b) (own + theirs))
  after_join p q is is_q = record {
    gate = joined_by shard_of_seat a b (λ x y. refl) ∙ ap (λ (s : PinSeatState). s.gate) is;
    permits = omega (
      arith,
      ap (λ (s : PinSeatState). s.permits) is,
      ap (λ (s : PinSeatState). s.permits) is_q,
    );
    pins = joined_keys a b ∙ ap (λ (s : PinSeatState). s.pins) is;
    visits = joined_by visits_of_seat a b (λ x y. refl) ∙ ap (λ (s : PinSeatState). s.visits) is;
    joined = λ k low.
        joined_lists a b k (omega (
          arith,
          low,
          ap (λ (s : PinSeatState). length s.gate) is,
          length-map {A = SeatAt} {B = ShardId},
        )) as_long
        ∙ (λ i. (visits_at k ((is_q i).visits) ∷ visited.joined_at k ((is_q i).joined))
        ++ visited.joined_at k ((is i).joined));
  }
