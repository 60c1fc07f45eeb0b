-- What becomes of the workers between rounds?
use Rattle.std.proofs.Common.{◌≡◌, ◌≢◌, ℕ, zero, suc, ◌+◌, ◌<◌, List, [], ◌∷◌, length, map, get_or, set}
use Rattle.std.proofs.Common.{refl, sym, ap, subst, ◌∙◌, arith, Result, Ok, Err, OnOk}
use Rattle.std.specs.List.{All, sum_by}
use Rattle.std.proofs.Math.Seq.{map-set_same, map-set}
use Rattle.std.proofs.lemmas.List.{get_or-map, get_or_default, length-map, length-set}
use Rattle.std.proofs.lemmas.List.Sums.{sum_by-cons}
use Rattle.render_run.specs.Around.{Sight, SourceState, sight_at, no_sight, source_of_crew}
use Rattle.render_run.specs.Answering.{SeesNoLess}
use Rattle.tile_source.specs.Pass.{PassState}
use Rattle.render_run.specs.Crew.{GivesOn, SeeNoLess, SightsOn, AreCarried}
use Rattle.render_run.proofs.Sums.{at_same, at_other}
use mathlib.Core.Logic.{dite}
use native.Mathlib.Decide.{ℕ_discrete}

-- a fact of each place is a fact of all workers
pub all_at : (P : Sight → Type 0) (crew : List Sight)
    → ((w : ℕ) → w < length crew → P (sight_at crew w)) → All P crew
all_at P crew at = λ k d lt. subst P (get_or_default crew k no_sight d lt) (at k lt)

-- a fact of all workers is a fact of each place
pub at_all : (P : Sight → Type 0) (crew : List Sight) → All P crew
    → (w : ℕ) → w < length crew → P (sight_at crew w)
at_all P crew all w low = all w no_sight low

-- one pass has seen more than another, and so it has what this one had seen
pub gathered_more : (crew : List Sight) (i : ℕ) (a b : List ℕ)
    → ((w : ℕ) → w < i → SeesNoLess (sight_at crew w).seen a) → SeesNoLess a b
    → SeesNoLess (sight_at crew i).seen b
    → (w : ℕ) → w < i + 1 → SeesNoLess (sight_at crew w).seen b
gathered_more crew i a b so_far more here w low = dite (ℕ_discrete w i)
    (λ (e : w ≡ i). rw e here)
    (λ (ne : w ≢ i). λ n. let before = so_far w (omega arith) n in omega (arith, before, more n))

-- a pass gave what it has seen on twice
pub gives_more : (a b c : PassState) → GivesOn a b → GivesOn b c → GivesOn a c
gives_more a b c first second = record {
  seen = second.seen ∙ first.seen;
  permits = second.permits ∙ first.permits;
  holds = second.holds ∙ first.holds;
  tally = second.tally ∙ first.tally;
}

-- ---- one worker sees more

-- a worker has seen more, and then more
on_more : (a b c : Sight) → SightsOn a b → SightsOn b c → SightsOn a c
on_more a b c first second = record {
  seen = λ n. omega (arith, first.seen n, second.seen n);
  permits = second.permits ∙ first.permits;
  holds = second.holds ∙ first.holds;
  tally = second.tally ∙ first.tally;
  source = second.source ∙ first.source;
}

module _ (first crew : List Sight) (i : ℕ) (s : Sight) (low : i < length crew)
    (on : SightsOn (sight_at crew i) s) (kept : SeeNoLess first crew) where
  pub see_more : SeeNoLess first (set crew i s)
  see_more = record {
    count = length-set crew i s ∙ kept.count;
    each = λ w few. dite (ℕ_discrete w i)
        (λ (e : w ≡ i). rw (e, at_same crew i s low)
        (on_more (sight_at first i) (sight_at crew i) s (kept.each i (omega (arith, few, e))) on))
        (λ (ne : w ≢ i). rw (at_other crew i w s ne) (kept.each w few));
  }

-- none sees less than itself
pub see_same : (crew : List Sight) → SeeNoLess crew crew
see_same crew = record {
  count = refl;
  each = λ w low. record {
    seen = λ n. omega arith;
    permits = refl;
    holds = refl;
    tally = refl;
    source = refl;
  };
}

-- the taps together are as they were
same_sum : (f : Sight → ℕ) (old new : List Sight) → length new ≡ length old
    → ((w : ℕ) → w < length old → f (sight_at new w) ≡ f (sight_at old w))
    → sum_by f new ≡ sum_by f old
same_sum f [] [] count each = refl
same_sum f [] (b ∷ new) count each = absurd (omega (arith, count))
same_sum f (a ∷ old) [] count each = absurd (omega (arith, count))
same_sum f (a ∷ old) (b ∷ new) count each =
    omega (
      arith,
      sum_by-cons f b new,
      sum_by-cons f a old,
      each 0 (omega arith),
      same_sum f old new (omega (arith, count)) (λ w low. each (suc w) (omega (arith, low))),
    )

pub crew_source : (old new : List Sight) → SeeNoLess old new
    → source_of_crew new ≡ source_of_crew old
crew_source old new kept =
    rw (
      same_sum (λ (t : Sight). t.source.faults) old new kept.count
          (λ w low. ap (λ (x : SourceState). x.faults) (kept.each w low).source),
      same_sum (λ (t : Sight). t.source.moves) old new kept.count
          (λ w low. ap (λ (x : SourceState). x.moves) (kept.each w low).source),
    ) refl

-- ---- the first and the others

module _ (f0 f1 : Sight) (o0 o1 : List Sight) (first : SightsOn f0 f1) (others : SeeNoLess o0 o1)
  where
    by_each : (w : ℕ) → w < length (f0 ∷ o0)
        → SightsOn (sight_at (f0 ∷ o0) w) (sight_at (f1 ∷ o1) w)
    by_each zero low = first
    by_each (suc w) low = others.each w (omega arith)

    pub both_see : SeeNoLess (f0 ∷ o0) (f1 ∷ o1)
    both_see = record { count = ap suc others.count; each = λ w. by_each w }

    -- what the first has seen then has all of the others in it, and all of them have that
    pub both_carried : (seen : List ℕ) → SeesNoLess f0.seen seen
        → ((w : ℕ) → w < length o0 → SeesNoLess (sight_at o0 w).seen seen)
        → SeesNoLess seen f1.seen
        → ((w : ℕ) → w < length o1 → SeesNoLess seen (sight_at o1 w).seen)
        → AreCarried (f0 ∷ o0) (f1 ∷ o1)
    both_carried seen own gathered kept spread = record {
      kept = both_see;
      carried = λ v w low few n.
          let up = into v low n in let down = out w few n in omega (arith, up, down);
    }
      where
        into : (v : ℕ) → v < length (f0 ∷ o0) → SeesNoLess (sight_at (f0 ∷ o0) v).seen seen
        into zero low = own
        into (suc v) low = gathered v (omega arith)

        out : (w : ℕ) → w < length (f0 ∷ o0) → SeesNoLess seen (sight_at (f1 ∷ o1) w).seen
        out zero low = kept
        out (suc w) low = spread w (omega (arith, others.count))

module _ {A : Type 0} (sight : A → Sight) where
  -- one of the workers is as it was
  pub same_more : (xs ys : List A) (i : ℕ) (y d : A) → map sight xs ≡ map sight ys
      → sight y ≡ sight (get_or xs i d) → map sight (set xs i y) ≡ map sight ys
  same_more xs ys i y d same here = map-set_same sight xs i y d here ∙ same

  -- what the i-th sees
  pub sight_is : (xs ys : List A) (i : ℕ) (d : A) → i < length xs → map sight xs ≡ map sight ys
      → sight_at (map sight ys) i ≡ sight (get_or xs i d)
  sight_is xs ys i d low same =
      ap (λ (l : List Sight). sight_at l i) (sym same) ∙ get_or-map sight xs i d no_sight low

  -- one of them sees more
  pub see_more_at : (xs ys : List A) (i : ℕ) (y d : A) → i < length ys
      → SightsOn (sight (get_or ys i d)) (sight y) → SeeNoLess (map sight xs) (map sight ys)
      → SeeNoLess (map sight xs) (map sight (set ys i y))
  see_more_at xs ys i y d low on kept =
      rw (map-set sight ys i y)
      (see_more (map sight xs) (map sight ys) i (sight y) (rw length-map low)
      (rw (get_or-map sight ys i d no_sight low) on) kept)

  -- one more of them sees what a pass has seen
  pub spread_more : (seen : List ℕ) (ys : List A) (i : ℕ) (y : A) → i < length ys
      → ((w : ℕ) → w < i → SeesNoLess seen (sight_at (map sight ys) w).seen)
      → SeesNoLess seen (sight y).seen
      → (w : ℕ) → w < i + 1 → SeesNoLess seen (sight_at (map sight (set ys i y)) w).seen
  spread_more seen ys i y low so_far here w few =
      rw (map-set sight ys i y)
      (dite (ℕ_discrete w i)
      (λ (e : w ≡ i). rw (e, at_same (map sight ys) i (sight y) (rw length-map low)) here)
      (λ (ne : w ≢ i). rw (at_other (map sight ys) i w (sight y) ne) (so_far w (omega arith))))

-- ---- what each has seen is carried to every other

module _ (whole : List Sight) (f0 f1 : Sight) (o0 mid o1 : List Sight) (seen : List ℕ)
    (is : whole ≡ f0 ∷ o0) (same : mid ≡ o0) (own : SeesNoLess f0.seen seen)
    (then_seen : f1.seen ≡ seen) (permits : f1.permits ≡ f0.permits) (holds : f1.holds ≡ f0.holds)
    (tally : f1.tally ≡ f0.tally) (source : f1.source ≡ f0.source)
    (kept : SeeNoLess mid o1) where
  first_on : SightsOn f0 f1
  first_on = record {
    seen = rw then_seen own;
    permits = permits;
    holds = holds;
    tally = tally;
    source = source;
  }

  pub carry_kept : SeeNoLess whole (f1 ∷ o1)
  carry_kept = rw is (both_see f0 f1 o0 o1 first_on (rw (← same) kept))

  pub carry_ok : {E : Type 0} (r : Result (Unit {0}) E)
      → All (λ s. SeesNoLess s.seen seen) o0 → OnOk r (All (λ s. SeesNoLess seen s.seen) o1)
      → OnOk r (AreCarried whole (f1 ∷ o1))
  carry_ok (Ok a) gathered spread =
      rw is (both_carried f0 f1 o0 o1 first_on (rw (← same) kept) seen own
      (at_all (λ (t : Sight). SeesNoLess t.seen seen) o0 gathered)
      (rw then_seen (λ n. omega arith))
      (at_all (λ (t : Sight). SeesNoLess seen t.seen) o1 spread))
  carry_ok (Err e) gathered spread = tt

-- ---- what stays of each

module _ {A W : Type 0} (part : A → W) where
  -- a list of facts that depend on a part only
  by_part : {B : Type 0} (f : W → B) (xs : List A) → map (λ (x : A). f (part x)) xs ≡ map f (map part xs)
  by_part f [] = refl
  by_part {B = B} f (x ∷ xs) = ap (λ (l : List B). f (part x) ∷ l) (by_part f xs)

  module _ (xs ys : List A) (same : map part xs ≡ map part ys) where
    -- if the part is the same, so are these facts
    pub told_same : {B : Type 0} (f : W → B) → map (λ (x : A). f (part x)) xs ≡ map (λ (x : A). f (part x)) ys
    told_same f = by_part f xs ∙ ap (map f) same ∙ sym (by_part f ys)

    -- a predicate of the part carries over
    pub all_same : (P : W → Type 0) → All (λ (x : A). P (part x)) ys → All (λ (x : A). P (part x)) xs
    all_same P all k d lt =
        let long : length xs ≡ length ys =
        sym (length-map xs part) ∙ ap length same ∙ length-map ys part in
        let here : part (get_or xs k d) ≡ part (get_or ys k d) =
        sym (get_or-map part xs k d (part d) lt)
        ∙ ap (λ (l : List W). get_or l k (part d)) same
        ∙ get_or-map part ys k d (part d) (omega (arith, long, lt)) in
        subst P (sym here) (all k d (omega (arith, long, lt)))

-- some element of a list that has one
pub one_of : {A : Type 0} → (xs : List A) → 0 < length xs → A
one_of [] some = absurd (omega arith)
one_of (x ∷ xs) some = x
