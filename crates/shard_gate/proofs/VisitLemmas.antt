-- What a visit to one shard leaves of the seat of a gate.
use Rattle.std.proofs.Common.{◌≡◌, ◌≢◌, ℕ, zero, suc, ◌*◌, ◌<◌, List, [], ◌∷◌, map, length, set}
use Rattle.std.proofs.Common.{get_or, refl, ap, sym, subst, ◌∙◌, Result, Ok, Err, OnOk, OnErr, arith}
use Rattle.std.proofs.Common.{Option, Some, None}
use Rattle.std.specs.Prelude.{IfOk, IfErr, IfNone, OnSome, IsPermutation, Contains}
use Rattle.std.proofs.lemmas.List.{length-map}
use Rattle.tiff_format.specs.declared.cut.Cut.{Cut}
use Rattle.tile_store.specs.Tag.{tag_of, share_in_tag, cut_of}
use Rattle.shard_gate.specs.Seated.{ShardId, SeatAt, shard_of_seat}
use Rattle.shard_gate.specs.Visit.{Visit, visits_at}
use Rattle.shard_gate.specs.Given.{AtShard}
use Rattle.shard_gate.specs.Work.{IsSeatOf}
use Rattle.shard_gate.specs.Everyone.{times, taken_last, ArePinsOfAll, FindsPinsOfAll}
use Rattle.shard_gate.proofs.EveryoneLemmas.{times_here}
use Rattle.shard_gate.specs.Gate.{GateState, PinSeatState, SamePins, IsSameSeat, OnePinMore, OnePinLess}
use Rattle.shard_gate.specs.Gate.{max_pins, shard_of}
use Rattle.shard_gate.specs.Kept.{seat_state, gate_state, visits_of_seat, joined_of_seat}
use Rattle.shard_gate.specs.Kept.{keys_of_seats, IsGate, IsPinSeat}
use Rattle.shard_gate.proofs.SeatLemmas.{same_keys, one_key_more, one_key_less, pins-le}
use Rattle.shard_gate.proofs.SeatLemmas.{at_its_shard, kept_same, kept_more, kept_less}
use Rattle.shard_gate.proofs.TagLemmas.{share_of-tag_of, cut_of-tag_of}

-- What is unchanged of one seat is unchanged of all, if the others are.
pub map_set_same : {Y : Type 0} (f : SeatAt → Y) (seats : List SeatAt) (k : ℕ) (new d : SeatAt)
    → f new ≡ f (get_or seats k d) → map f (set seats k new) ≡ map f seats
map_set_same f [] k new d same = refl
map_set_same f (x ∷ xs) zero new d same = λ i. same i ∷ map f xs
map_set_same f (x ∷ xs) (suc k) new d same =
    ap (λ l. f x ∷ l) (map_set_same f xs k new d same)

visits_here : (seats : List SeatAt) (k : ℕ) (new : SeatAt) → k < length seats
    → visits_at k (map visits_of_seat (set seats k new)) ≡ new.visits
visits_here [] k new low = absurd (omega arith)
visits_here (x ∷ xs) zero new low = refl
visits_here (x ∷ xs) (suc k) new low = visits_here xs k new (omega arith)

visits_were : (seats : List SeatAt) (k : ℕ) (d : SeatAt) → k < length seats
    → visits_at k (map visits_of_seat seats) ≡ (get_or seats k d).visits
visits_were [] k d low = absurd (omega arith)
visits_were (x ∷ xs) zero d low = refl
visits_were (x ∷ xs) (suc k) d low = visits_were xs k d (omega arith)

visits_else : (seats : List SeatAt) (k j : ℕ) (new : SeatAt) → j ≢ k
    → visits_at j (map visits_of_seat (set seats k new)) ≡ visits_at j (map visits_of_seat seats)
visits_else [] k j new apart = refl
visits_else (x ∷ xs) zero zero new apart = absurd (apart refl)
visits_else (x ∷ xs) zero (suc j) new apart = refl
visits_else (x ∷ xs) (suc k) zero new apart = refl
visits_else (x ∷ xs) (suc k) (suc j) new apart = visits_else xs k j new (λ e. apart (ap suc e))

-- A fact after success, from another one.
pub on_ok : {A E : Type 0} (r : Result A E) (P Q : Type 0) → (P → Q) → OnOk r P → OnOk r Q
on_ok (Ok a) P Q then holds = then holds
on_ok (Err e) P Q then holds = tt

-- A fact after an error, from another one.
pub on_err : {A E : Type 0} (r : Result A E) (P Q : Type 0) → (P → Q) → OnErr r P → OnErr r Q
on_err (Ok a) P Q then holds = tt
on_err (Err e) P Q then holds = then holds

-- A fact of the answer, from another one.
pub if_ok : {A E : Type 0} (r : Result A E) (P Q : A → Type 0) → ((a : A) → P a → Q a) → IfOk r P
    → IfOk r Q
if_ok (Ok a) P Q then holds = then a holds
if_ok (Err e) P Q then holds = tt

-- A fact of the error, from another one.
pub if_err : {A E : Type 0} (r : Result A E) (P Q : E → Type 0) → ((e : E) → P e → Q e) → IfErr r P
    → IfErr r Q
if_err (Ok a) P Q then holds = tt
if_err (Err e) P Q then holds = then e holds

-- A fact if something was found, from another one.
pub on_some : {A : Type 0} (o : Option A) (P Q : Type 0) → (P → Q) → OnSome o P → OnSome o Q
on_some (Some a) P Q then holds = then holds
on_some None P Q then holds = tt

-- A fact if nothing was found, from another one.
pub if_none : {A : Type 0} (o : Option A) (P Q : Type 0) → (P → Q) → IfNone o P → IfNone o Q
if_none (Some a) P Q then holds = tt
if_none None P Q then holds = then holds

module _ (seats : List SeatAt) (permits : ℕ) (p : PinSeatState)
    (is : seat_state seats permits ≡ p) (id : List ShardId) (same : p.gate ≡ id) (k : ℕ)
    (low : k < length id) (x new d : SeatAt) (here : x ≡ get_or seats k d) where
  pub inside : k < length seats
  inside = omega (
    arith,
    low,
    ap length same,
    ap (λ (q : PinSeatState). length q.gate) is,
    length-map {A = SeatAt} {B = ShardId},
  )

  -- the caller has a seat at each shard of the gate
  pub as_long : length seats ≡ length id
  as_long = omega (
    arith,
    ap length same,
    ap (λ (q : PinSeatState). length q.gate) is,
    length-map {A = SeatAt} {B = ShardId},
  )

  gate_same : new.shard ≡ x.shard → map shard_of_seat (set seats k new) ≡ p.gate
  gate_same stays = map_set_same shard_of_seat seats k new d (stays ∙ ap shard_of_seat here)
      ∙ ap (λ (q : PinSeatState). q.gate) is

  joined_same : new.joined ≡ x.joined → map joined_of_seat (set seats k new) ≡ p.joined
  joined_same stays = map_set_same joined_of_seat seats k new d (stays ∙ ap joined_of_seat here)
      ∙ ap (λ (q : PinSeatState). q.joined) is

  pub same_pins : IsSeatOf x new → new.pins ≡ x.pins
      → SamePins p (seat_state (set seats k new) permits)
  same_pins seat stay = record {
    gate = gate_same seat.shard;
    permits = ap (λ (q : PinSeatState). q.permits) is;
    pins = same_keys seats k new d (stay ∙ ap (λ (s : SeatAt). s.pins) here)
        ∙ ap (λ (q : PinSeatState). q.pins) is;
    joined = joined_same seat.joined;
  }

  pub one_pin_more : (key : ℕ) → IsSeatOf x new → new.pins ≡ key ∷ x.pins
      → OnePinMore key p (seat_state (set seats k new) permits)
  one_pin_more key seat more = record {
    gate = gate_same seat.shard;
    permits = ap (λ (q : PinSeatState). q.permits) is;
    pins = subst
        (λ (q : PinSeatState). IsPermutation (key ∷ q.pins) (keys_of_seats (set seats k new))) is
        (one_key_more seats k key new d inside (more ∙ ap (λ (s : SeatAt). key ∷ s.pins) here));
    joined = joined_same seat.joined;
  }

  pub one_pin_less : (key : ℕ) → IsSeatOf x new → IsPermutation x.pins (key ∷ new.pins)
      → OnePinLess key p (seat_state (set seats k new) permits)
  one_pin_less key seat less = record {
    gate = gate_same seat.shard;
    permits = ap (λ (q : PinSeatState). q.permits) is;
    pins = subst
        (λ (q : PinSeatState). IsPermutation q.pins (key ∷ keys_of_seats (set seats k new))) is
        (one_key_less seats k key new d inside
        (subst (λ (s : SeatAt). IsPermutation s.pins (key ∷ new.pins)) here less));
    joined = joined_same seat.joined;
  }

  -- A pin is allowed at the shard if one is allowed for the seat.
  pub room_here : IsPinSeat seats permits → length p.pins < max_pins * p.permits
      → length x.pins < max_pins * x.permits
  room_here kept room =
      let part = kept.parts k d inside in
      let own : x.permits ≡ permits = ap (λ (s : SeatAt). s.permits) here ∙ part.same in
      omega (
        arith,
        room,
        ap (λ (q : PinSeatState). length q.pins) is,
        ap (λ (q : PinSeatState). q.permits) is,
        pins-le seats k d inside,
        ap (λ (s : SeatAt). length s.pins) here,
      )

  -- What the seat has pinned it has pinned at the shard of the key.
  pub held_here : (key : ℕ) → k ≡ shard_of (length id) key → IsPinSeat seats permits
      → Contains p.pins key → Contains x.pins key
  held_here key at kept has =
      let shard : k ≡ shard_of (length seats) key = at ∙ ap (λ n. shard_of n key) (sym as_long) in
      subst (λ (s : SeatAt). Contains s.pins key) (sym here)
      (subst (λ n. Contains (get_or seats n d).pins key) (sym shard)
      (at_its_shard seats key d kept.placed
      (subst (λ (q : PinSeatState). Contains q.pins key) (sym is) has)))

  -- ---- the seat is still one

  pub seat_same : IsPinSeat seats permits → IsSeatOf x new → new.pins ≡ x.pins
      → IsPinSeat (set seats k new) permits
  seat_same kept seat stay = kept_same seats permits k new d inside kept
      (seat.permits ∙ ap (λ (s : SeatAt). s.permits) here)
      (seat.shard ∙ ap (λ (s : SeatAt). s.shard) here) (stay ∙ ap (λ (s : SeatAt). s.pins) here)

  pub seat_more : (key : ℕ) → k ≡ shard_of (length id) key → IsPinSeat seats permits
      → length p.pins < max_pins * p.permits → IsSeatOf x new → new.pins ≡ key ∷ x.pins
      → IsPinSeat (set seats k new) permits
  seat_more key at kept room seat more = kept_more seats permits k new d inside kept
      (seat.permits ∙ ap (λ (s : SeatAt). s.permits) here)
      (seat.shard ∙ ap (λ (s : SeatAt). s.shard) here) key
      (ap (λ n. shard_of n key) as_long ∙ sym at)
      (more ∙ ap (λ (s : SeatAt). key ∷ s.pins) here)
      (omega (
        arith,
        room,
        ap (λ (q : PinSeatState). length q.pins) is,
        ap (λ (q : PinSeatState). q.permits) is,
      ))

  pub seat_less : (key : ℕ) → IsPinSeat seats permits → IsSeatOf x new
      → IsPermutation x.pins (key ∷ new.pins) → IsPinSeat (set seats k new) permits
  seat_less key kept seat less = kept_less seats permits k new d inside kept
      (seat.permits ∙ ap (λ (s : SeatAt). s.permits) here)
      (seat.shard ∙ ap (λ (s : SeatAt). s.shard) here) key
      (subst (λ (s : SeatAt). IsPermutation s.pins (key ∷ new.pins)) here less)

  pub seat_found : {A E : Type 0} (key : ℕ) (r : Result (Option A) E) → k ≡ shard_of (length id) key
      → IsPinSeat seats permits → length p.pins < max_pins * p.permits → IsSeatOf x new
      → IfOk r (λ found. OnSome found (new.pins ≡ key ∷ x.pins))
      → IfOk r (λ found. IfNone found (new.pins ≡ x.pins)) → OnErr r (new.pins ≡ x.pins)
      → IsPinSeat (set seats k new) permits
  seat_found key (Ok (Some a)) at kept room seat more none err =
      seat_more key at kept room seat more
  seat_found key (Ok None) at kept room seat more none err = seat_same kept seat none
  seat_found key (Err e) at kept room seat more none err = seat_same kept seat err

  pub seat_inserted : {A E : Type 0} (key : ℕ) (r : Result A E) → k ≡ shard_of (length id) key
      → IsPinSeat seats permits → length p.pins < max_pins * p.permits → IsSeatOf x new
      → OnOk r (new.pins ≡ key ∷ x.pins) → OnErr r (new.pins ≡ x.pins)
      → IsPinSeat (set seats k new) permits
  seat_inserted key (Ok a) at kept room seat more err = seat_more key at kept room seat more
  seat_inserted key (Err e) at kept room seat more err = seat_same kept seat err

  pub seat_released : {A E : Type 0} (key : ℕ) (r : Result A E) → IsPinSeat seats permits
      → IsSeatOf x new → OnOk r (IsPermutation x.pins (key ∷ new.pins)) → OnErr r (new ≡ x)
      → IsPinSeat (set seats k new) permits
  seat_released key (Ok a) kept seat less err = seat_less key kept seat less
  seat_released key (Err e) kept seat less err =
      seat_same kept seat (ap (λ (s : SeatAt). s.pins) err)

  -- What the call made of the visits of this shard it made of those of the seat.
  pub at_shard : (Changed : List Visit → List Visit → Type 0) → Changed x.visits new.visits
      → AtShard k Changed p.visits (map visits_of_seat (set seats k new))
  at_shard Changed changed =
      let were : visits_at k p.visits ≡ x.visits =
      ap (λ (q : PinSeatState). visits_at k q.visits) (sym is)
      ∙ (visits_were seats k d inside ∙ ap visits_of_seat (sym here)) in
      let now : visits_at k (map visits_of_seat (set seats k new)) ≡ new.visits =
      visits_here seats k new inside in
      record {
        here = subst (λ l. Changed l (visits_at k (map visits_of_seat (set seats k new)))) (sym were)
            (subst (λ l. Changed x.visits l) (sym now) changed);
        others = λ j apart. visits_else seats k j new apart
            ∙ ap (λ (q : PinSeatState). visits_at j q.visits) is;
      }

  -- a change at the shard of a key
  pub at_key : (n : ℕ) → k ≡ n → (Changed : List Visit → List Visit → Type 0)
      → Changed x.visits new.visits
      → AtShard n Changed p.visits (map visits_of_seat (set seats k new))
  at_key n is_n Changed changed =
      subst (λ (m : ℕ). AtShard m Changed p.visits (map visits_of_seat (set seats k new))) is_n
      (at_shard Changed changed)

  -- The entries have the pins that all seats have at the shard, and this seat has its own there.
  pub finds_all : IsPinSeat seats permits → (after : PinSeatState)
      → ArePinsOfAll x.pins (taken_last (visits_at k after.visits)) → FindsPinsOfAll k p after
  finds_all kept after are = record {
    seats = are.seats;
    mine = are.mine;
    inside = are.inside;
    own = λ key at.
        ap (times key) (are.own ∙ ap (λ (s : SeatAt). s.pins) here)
        ∙ (times_here seats k key d inside (λ j low ne has. ne
        (sym (kept.placed j key d low has)
        ∙ (ap (λ n. shard_of n key) (as_long ∙ ap length (sym same)) ∙ at)))
        ∙ ap (λ (q : PinSeatState). times key q.pins) is);
    all = are.all;
  }

  pub same_seat : new ≡ x → IsSameSeat p (seat_state (set seats k new) permits)
  same_seat stays = record {
    gate = map_set_same shard_of_seat seats k new d (ap shard_of_seat (stays ∙ here))
        ∙ ap (λ (q : PinSeatState). q.gate) is;
    permits = ap (λ (q : PinSeatState). q.permits) is;
    pins = same_keys seats k new d (ap (λ (s : SeatAt). s.pins) (stays ∙ here))
        ∙ ap (λ (q : PinSeatState). q.pins) is;
    visits = map_set_same visits_of_seat seats k new d (ap visits_of_seat (stays ∙ here))
        ∙ ap (λ (q : PinSeatState). q.visits) is;
    joined = joined_same (ap joined_of_seat stays);
  }

module _ (tables : List ShardId) (share : ℕ) (cut : Cut) (passes : ℕ) (gate : GateState)
    (is : gate_state tables share cut passes ≡ gate) (kept : IsGate tables share cut passes)
    (k : ℕ) (low : k < length gate.id) (x d : ShardId) (here : x ≡ get_or tables k d) where
  made : x.tag ≡ tag_of share cut
  made = ap (λ (t : ShardId). t.tag) here
      ∙ (kept.made k d (omega (arith, low, ap (λ (a : GateState). length a.id) is))).tag

  pub tag_here : x.tag ≡ tag_of gate.share gate.cut
  tag_here = made ∙ ap (λ (a : GateState). tag_of a.share a.cut) is

  pub passes_here : x.passes ≡ gate.passes
  passes_here = ap (λ (t : ShardId). t.passes) here
      ∙ ((kept.made k d (omega (arith, low, ap (λ (a : GateState). length a.id) is))).passes
      ∙ ap (λ (a : GateState). a.passes) is)

  pub share_here : share_in_tag x.tag ≡ share
  share_here = ap share_in_tag made ∙ share_of-tag_of share cut kept.cut_is

  pub cut_here : cut_of x.tag ≡ gate.cut
  cut_here = ap cut_of made
      ∙ (cut_of-tag_of share cut kept.cut_is ∙ ap (λ (a : GateState). a.cut) is)
