-- What does a call leave that makes one round and ends it, or that ends without a round?
use Rattle.std.proofs.Common.{◌≡◌, ℕ, ◌⊎◌, inl, inr, refl, sym, ap, subst, ◌∙◌, ◌-◌, arith}
use mathlib.Core.Logic.{dite}
use native.Mathlib.Decide.{ℕ_discrete}
use Rattle.tex_world.specs.Tap.{TapState}
use Rattle.shard_gate.specs.Since.{PurgesNone}
use Rattle.shard_gate.proofs.SinceLemmas.{purges_none}
use Rattle.tile_source.specs.Pass.{PassState, PassCounts}
use Rattle.tile_source.specs.Call.{NoneFalls}
use Rattle.image_cache.specs.Call.{AfterCall}
use Rattle.image_cache.specs.Invalid.{IsEmptied, MayAsk, InvalidCause}
use Rattle.image_cache.specs.InvalidAll.{AtReadFault}
use Rattle.tile_source.specs.declared.error.CacheError.{CacheError}
use Rattle.tile_source.specs.declared.error.CacheError.TheVariants as refused
use Rattle.tile_source.proofs.StepLemmas.{none_fell}
use Rattle.waiter.specs.declared.tries.GaveUp.{GaveUp}
use Rattle.supplied_client.specs.Client.{ClientState, AreSame, told_counts, told_before, counts_of}
use Rattle.supplied_client.specs.Client.{counts_without, IsRepeated, LeavesRound, DropsSupplies, EndsRound}
use Rattle.supplied_client.specs.Client.{LeavesFile, LeavesCheck, LeavesChecked}
use Rattle.supplied_tap.specs.SuppliedTap.{tap_state}
use Rattle.supplied_client.specs.declared.answer.TexAnswer.{TexAnswer}
use Rattle.supplied_tap.specs.declared.tap.SuppliedTap.{SuppliedTap}
use Rattle.supplied_client.specs.Code.{code_of}
use Rattle.supplied_client.specs.Unanswered.{Says}

-- ---- counts

same_counts : (c : PassCounts) → AreSame c c
same_counts c = record { needs = refl; hits = refl; apart = refl }

-- what C was told before a round that noted the counts is what it was told before the call
told_first : (x : PassCounts) (a b : ClientState) → b.begun ≡ counts_of a.pass
    → b.twice ≡ a.twice → AreSame x (told_before b) → AreSame x (told_counts a)
told_first x a b begun twice same =
    subst (λ (p : PassCounts). AreSame x (counts_without p a.twice)) begun
    (subst (λ (p : PassCounts). AreSame x (counts_without b.begun p)) twice same)

repeated_or_not : (code : ℕ) → IsRepeated code ⊎ (IsRepeated code → ⊥)
repeated_or_not code = dite (ℕ_discrete code 1) (λ needs. inl (inl needs)) (λ one.
    dite (ℕ_discrete code 5) (λ small. inl (inr (inl small))) (λ five.
    dite (ℕ_discrete code 19) (λ busy. inl (inr (inr busy))) (λ nineteen.
    inr (λ (again : IsRepeated code). elim again [
      | inl needs ↦ one needs
      | inr (inl small) ↦ five small
      | inr (inr busy) ↦ nineteen busy
    ]))))

-- nothing but the supplies has changed
told_dropped : (a c : ClientState) → DropsSupplies a c → AreSame (told_counts c) (told_counts a)
told_dropped a c drops =
    subst (λ (t : PassCounts). AreSame (counts_without (counts_of c.pass) t) (told_counts a))
    (sym drops.twice)
    (subst (λ (p : PassState). AreSame (counts_without (counts_of p) a.twice) (told_counts a))
    (sym drops.pass) (same_counts (told_counts a)))

-- ---- calls on a file

call_none : (file : ℕ) (pass : PassState) → AfterCall file pass pass
call_none file pass = record {
  place = record { board = refl; gate = refl; cut = refl; permits = refl; joined = refl };
  view = record {
    board = refl;
    later = λ f. omega arith;
    seen_others = λ f other. refl;
    steps_others = λ f other. refl;
  };
  counts = record { needs = omega arith; hits = omega arith; apart = omega arith };
}

-- a round that was not answered, and its end
pub leaves_failed : (file code : ℕ) (a b c : ClientState) → LeavesRound file a b
    → EndsRound code b c → LeavesFile file code a c
leaves_failed file code a b c round ends = record {
  cache = ends.cache ∙ round.cache;
  pass = subst (λ (p : PassState). AfterCall file a.pass p) (sym ends.pass) round.pass;
  visits = subst (λ (p : PassState). PurgesNone a.cache.gate a.pass.pinned.seat p.pinned.seat)
      (sym ends.pass) round.visits;
  tap = subst (λ (s : TapState). NoneFalls (tap_state a.tap) s) (sym ends.state) round.tap;
  none = ends.none;
  repeated = λ again. told_first (told_counts c) a b round.begun round.twice (ends.repeated again);
  done = λ never. ends.done never ∙ round.twice;
}

-- a round that was answered
pub leaves_answered : (file : ℕ) (a b c : ClientState) → LeavesRound file a b → DropsSupplies b c
    → LeavesFile file 0 a c
leaves_answered file a b c round drops = record {
  cache = drops.cache ∙ round.cache;
  pass = subst (λ (p : PassState). AfterCall file a.pass p) (sym drops.pass) round.pass;
  visits = subst (λ (p : PassState). PurgesNone a.cache.gate a.pass.pinned.seat p.pinned.seat)
      (sym drops.pass) round.visits;
  tap = subst (λ (s : TapState). NoneFalls (tap_state a.tap) s) (sym drops.state) round.tap;
  none = λ _. drops.none;
  repeated = λ (again : IsRepeated 0). elim again [
    | inl one ↦ absurd (omega (arith, one))
    | inr (inl five) ↦ absurd (omega (arith, five))
    | inr (inr nineteen) ↦ absurd (omega (arith, nineteen))
  ];
  done = λ _. drops.twice ∙ round.twice;
}

-- a call that is refused before it reaches the cache
pub leaves_none : (file code : ℕ) (a c : ClientState) → DropsSupplies a c → LeavesFile file code a c
leaves_none file code a c drops = record {
  cache = drops.cache;
  pass = subst (λ (p : PassState). AfterCall file a.pass p) (sym drops.pass) (call_none file a.pass);
  visits = purges_none a.cache.gate a.pass.pinned.seat c.pass.pinned.seat
      (ap (λ (p : PassState). p.pinned.seat.visits) drops.pass);
  tap = subst (λ (s : TapState). NoneFalls (tap_state a.tap) s) (sym drops.state)
      (none_fell (tap_state a.tap));
  none = λ _. drops.none;
  repeated = λ _. told_dropped a c drops;
  done = λ _. drops.twice;
}

-- ---- freshness checks

-- the counts of a pass that was emptied are the same
told_emptied : (a b c : ClientState) → LeavesCheck a b → c.pass ≡ b.pass → c.twice ≡ b.twice
    → AreSame (told_counts c) (told_counts a)
told_emptied a b c round pass twice =
    subst (λ (t : PassCounts). AreSame (counts_without (counts_of c.pass) t) (told_counts a))
    (sym (twice ∙ round.twice))
    (subst (λ (p : PassState). AreSame (counts_without (counts_of p) a.twice) (told_counts a))
    (sym pass) (record {
      needs = ap (λ n. n - a.twice.needs) round.pass.counts.needs;
      hits = ap (λ n. n - a.twice.hits) round.pass.counts.hits;
      apart = ap (λ n. n - a.twice.apart) round.pass.counts.apart;
    }))

told_checked : (code : ℕ) (a b c : ClientState) → LeavesCheck a b → EndsRound code b c
    → AreSame (told_counts c) (told_counts a)
told_checked code a b c round ends = by (repeated_or_not code)
  where
    by : IsRepeated code ⊎ (IsRepeated code → ⊥) → AreSame (told_counts c) (told_counts a)
    by (inl again) =
        told_first (told_counts c) a b round.begun round.twice (ends.repeated again)
    by (inr none) = told_emptied a b c round ends.pass (ends.done none)

pub checks_failed : (code : ℕ) (a b c : ClientState) → LeavesCheck a b → EndsRound code b c
    → LeavesChecked code a c
checks_failed code a b c round ends = record {
  cache = ends.cache ∙ round.cache;
  pass = inr (subst (λ (p : PassState). IsEmptied GaveUp a.pass p) (sym ends.pass) round.pass);
  tap = subst (λ (s : TapState). MayAsk (tap_state a.tap) s) (sym ends.state) round.tap;
  none = ends.none;
  told = told_checked code a b c round ends;
}

pub checks_answered : (code : ℕ) (a b c : ClientState) → LeavesCheck a b → DropsSupplies b c
    → LeavesChecked code a c
checks_answered code a b c round drops = record {
  cache = drops.cache ∙ round.cache;
  pass = inr (subst (λ (p : PassState). IsEmptied GaveUp a.pass p) (sym drops.pass) round.pass);
  tap = subst (λ (s : TapState). MayAsk (tap_state a.tap) s) (sym drops.state) round.tap;
  none = λ _. drops.none;
  told = told_emptied a b c round drops.pass drops.twice;
}

pub checks_none : (code : ℕ) (a c : ClientState) → DropsSupplies a c → LeavesChecked code a c
checks_none code a c drops = record {
  cache = drops.cache;
  pass = inl drops.pass;
  tap = subst (λ (s : TapState). MayAsk (tap_state a.tap) s) (sym drops.state) (record {
    faults = omega arith;
    calls = omega arith;
    opens = refl;
    moves = refl;
    asks = omega arith;
  });
  none = λ _. drops.none;
  told = told_dropped a c drops;
}

-- ---- errors

-- of a call that failed for another cause than its waiter
pub ends_other : (code : ℕ) (a c : ClientState) → (IsRepeated code → ⊥) → DropsSupplies a c
    → EndsRound code a c
ends_other code a c never drops = record {
  cache = drops.cache;
  pass = drops.pass;
  state = drops.state;
  none = λ _. drops.none;
  repeated = λ again. absurd (never again);
  done = λ _. drops.twice;
}

-- a number that differs from the three repeated codes is not repeated
other_code : (n : ℕ) → (n ≡ 1 → ⊥) → (n ≡ 5 → ⊥) → (n ≡ 19 → ⊥) → IsRepeated n → ⊥
other_code n one five nineteen again = elim again [
  | inl needs ↦ one needs
  | inr (inl small) ↦ five small
  | inr (inr busy) ↦ nineteen busy
]

-- its code says that C does not repeat it
pub ends_of : (e : CacheError GaveUp) (a c : ClientState) → ((b : GaveUp) → e ≡ refused.Busy b → ⊥)
    → DropsSupplies a c → EndsRound (code_of e) a c
ends_of (refused.Busy b) a c other drops = absurd (other b refl)
ends_of (refused.BadFile generation fault) a c other drops =
    ends_other 10 a c (other_code 10 (λ e. omega (arith, e)) (λ e. omega (arith, e)) (λ e. omega (arith, e))) drops
ends_of (refused.TileTooLarge generation) a c other drops =
    ends_other 11 a c (other_code 11 (λ e. omega (arith, e)) (λ e. omega (arith, e)) (λ e. omega (arith, e))) drops
ends_of (refused.NoLevel generation levels) a c other drops =
    ends_other 12 a c (other_code 12 (λ e. omega (arith, e)) (λ e. omega (arith, e)) (λ e. omega (arith, e))) drops
ends_of (refused.Outside generation) a c other drops =
    ends_other 13 a c (other_code 13 (λ e. omega (arith, e)) (λ e. omega (arith, e)) (λ e. omega (arith, e))) drops
ends_of refused.RegionTooLarge a c other drops =
    ends_other 14 a c (other_code 14 (λ e. omega (arith, e)) (λ e. omega (arith, e)) (λ e. omega (arith, e))) drops
ends_of refused.HoldsFull a c other drops =
    ends_other 15 a c (other_code 15 (λ e. omega (arith, e)) (λ e. omega (arith, e)) (λ e. omega (arith, e))) drops
ends_of (refused.Again from to) a c other drops =
    ends_other 16 a c (other_code 16 (λ e. omega (arith, e)) (λ e. omega (arith, e)) (λ e. omega (arith, e))) drops
ends_of refused.ReadFault a c other drops =
    ends_other 17 a c (other_code 17 (λ e. omega (arith, e)) (λ e. omega (arith, e)) (λ e. omega (arith, e))) drops
ends_of refused.NoMemory a c other drops =
    ends_other 18 a c (other_code 18 (λ e. omega (arith, e)) (λ e. omega (arith, e)) (λ e. omega (arith, e))) drops

-- the only error of a freshness check with these codes is an I/O error
pub at_fault : (P : Type 0) (e : CacheError GaveUp) (old new : TapState) (tap : SuppliedTap)
    (code : ℕ) (answer : TexAnswer) → InvalidCause old new e → Says e tap code answer
    → (code ≡ 1) ⊎ (code ≡ 17) → AtReadFault P e → P
at_fault P refused.ReadFault old new tap code answer cause says codes p = p
at_fault P (refused.Busy b) old new tap code answer cause (inl lacks) codes p =
    absurd (cc lacks.0)
at_fault P (refused.Busy b) old new tap code answer cause (inr says) codes p = elim codes [
  | inl one ↦ absurd (omega (arith, one, says.code_is))
  | inr fault ↦ absurd (omega (arith, fault, says.code_is))
]
at_fault P (refused.BadFile generation fault) old new tap code answer cause says codes p = absurd cause
at_fault P (refused.TileTooLarge generation) old new tap code answer cause says codes p = absurd cause
at_fault P (refused.NoLevel generation levels) old new tap code answer cause says codes p = absurd cause
at_fault P (refused.Outside generation) old new tap code answer cause says codes p = absurd cause
at_fault P refused.RegionTooLarge old new tap code answer cause says codes p = absurd cause
at_fault P refused.HoldsFull old new tap code answer cause says codes p = absurd cause
at_fault P (refused.Again from to) old new tap code answer cause says codes p = absurd cause
at_fault P refused.NoMemory old new tap code answer cause says codes p = absurd cause
