-- Lists that a loop has changed up to an index, from the front or from the end.
use Rattle.std.proofs.Common.{◌≡◌, ℕ, zero, suc, ◌<◌, List, [], ◌∷◌, ◌++◌, map, length, take}
use Rattle.std.proofs.Common.{drop, set, get_or, refl, ap, sym, subst, ◌∙◌, ◌≤◌, ◌≢◌, length-append, arith}
use Rattle.std.proofs.lemmas.List.{get_or-take, get_or_push, take-take, take_at, length-take, get_or-set_same}
use Rattle.std.proofs.lemmas.List.{get_or-set_other, length-set, length-map}
use mathlib.Core.Logic.{dite}
use native.Mathlib.Decide.{ℕ_discrete}
use Rattle.shard_gate.specs.Seated.{ShardId, SeatAt, shard_of_seat, both_seats, joined_seats}

module _ {X : Type 0} where
  -- The first element that is not changed yet is the old one.
  pub mapped_here : (f : X → X) (xs : List X) (k : ℕ) (d : X)
      → get_or (map f (take k xs) ++ drop k xs) k d ≡ get_or xs k d
  mapped_here f [] zero d = refl
  mapped_here f [] (suc k) d = refl
  mapped_here f (x ∷ xs) zero d = refl
  mapped_here f (x ∷ xs) (suc k) d = mapped_here f xs k d

-- the seats, joined from index k on
abbrev pub joined_from : ℕ → List SeatAt → List SeatAt → List SeatAt
joined_from k s o = take k s ++ joined_seats (drop k s) (drop k o)

-- The last seat that is not joined yet is the old one.
pub joined_here : (s o : List SeatAt) (k : ℕ) (d : SeatAt) → k < length s
    → get_or (joined_from (suc k) s o) k d ≡ get_or s k d
joined_here [] o k d low = absurd (omega arith)
joined_here (x ∷ s) [] zero d low = refl
joined_here (x ∷ s) (y ∷ o) zero d low = refl
joined_here (x ∷ s) [] (suc k) d low = joined_here s [] k d (omega arith)
joined_here (x ∷ s) (y ∷ o) (suc k) d low = joined_here s o k d (omega arith)

-- One more seat is joined.
pub joined_more : (s o : List SeatAt) (k : ℕ) (d e : SeatAt) → k < length s → k < length o
    → set (joined_from (suc k) s o) k (both_seats (get_or s k d) (get_or o k e))
    ≡ joined_from k s o
joined_more [] o k d e low low_other = absurd (omega arith)
joined_more (x ∷ s) [] k d e low low_other = absurd (omega arith)
joined_more (x ∷ s) (y ∷ o) zero d e low low_other = refl
joined_more (x ∷ s) (y ∷ o) (suc k) d e low low_other =
    ap (λ (l : List SeatAt). x ∷ l) (joined_more s o k d e (omega arith) (omega arith))

-- The last of the other seats, which is taken out, joins the seat of its place.
pub joined_step : (s o l items rest : List SeatAt) (k : ℕ) (x y : SeatAt)
    → items ≡ rest ++ y ∷ [] → items ≡ take (length items) o
    → l ≡ joined_from (length items) s o → k ≡ length rest
    → map shard_of_seat s ≡ map shard_of_seat o
    → set l k (both_seats (get_or l k x) y) ≡ joined_from (length rest) s o
joined_step s o l items rest k x y last prefix joined at same =
    let m : ℕ = length rest in
    let len : length items ≡ suc m =
    omega (arith, ap length last, length-append rest (y ∷ [])) in
    let low_other : m < length o =
    omega (arith, len, ap length prefix, length-take (length items) o) in
    let low : m < length s =
    omega (arith, low_other, ap length same, length-map {A = SeatAt} {B = ShardId}) in
    let seats : l ≡ joined_from (suc m) s o = joined ∙ ap (λ n. joined_from n s o) len in
    let own : get_or l k x ≡ get_or s m x =
    (λ i. get_or (seats i) (at i) x) ∙ joined_here s o m x low in
    let other : y ≡ get_or o m y = sym (get_or_push rest y y m refl)
    ∙ (ap (λ l. get_or l m y) (sym last ∙ prefix)
    ∙ get_or-take (length items) o m y (omega (arith, len))) in
    (λ i. set (seats i) (at i) (both_seats (own i) (other i))) ∙ joined_more s o m x y low low_other

-- What is left of the other seats is their beginning.
pub prefix_step : (o items rest : List SeatAt) (y : SeatAt) → items ≡ rest ++ y ∷ []
    → items ≡ take (length items) o → rest ≡ take (length rest) o
prefix_step o items rest y last prefix =
    let m : ℕ = length rest in
    let len : m ≤ length items = omega (arith, ap length last, length-append rest (y ∷ [])) in
    sym (take_at rest (y ∷ []) m refl)
    ∙ (ap (take m) (sym last ∙ prefix) ∙ take-take m (length items) o len)

-- One more seat has no more permits than the passes.
pub few_step : (P : SeatAt → Type 0) (l : List SeatAt) (k : ℕ) (new : SeatAt) → P new
    → k < length l → ((j : ℕ) (d : SeatAt) → suc k ≤ j → j < length l → P (get_or l j d))
    → (j : ℕ) (d : SeatAt) → k ≤ j → j < length (set l k new) → P (get_or (set l k new) j d)
few_step P l k new right low old j d from to = dite (ℕ_discrete j k)
    (λ (e : j ≡ k). subst P
    (sym (ap (λ n. get_or (set l k new) n d) e ∙ get_or-set_same l k new d low)) right)
    (λ (ne : j ≢ k). subst P (sym (get_or-set_other l k j new d ne))
    (old j d (omega arith) (omega (arith, length-set l k new))))
