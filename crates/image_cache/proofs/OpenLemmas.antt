-- What does a call leave that opens a file, reads by its record and keeps that?
use Rattle.std.proofs.Common.{◌≡◌, ℕ, ◌<◌, ◌≤◌, ◌∙◌, List, sym, ap, subst, inl, inr, arith}
use Rattle.std.proofs.Common.{Option, Some, Result, Ok, Err, slice_index}
use Rattle.std.specs.Prelude.{IsSomeAnd, IfErr}
use Rattle.tex_world.specs.World.{Files}
use Rattle.tex_world.specs.Tap.{TapState}
use Rattle.gen_board.specs.View.{ViewState}
use Rattle.tiff_format.specs.declared.cut.Cut.{Cut}
use Rattle.shard_gate.specs.Gate.{GateState}
use Rattle.file_table.specs.Record.{RecordState}
use Rattle.file_table.specs.Calls.{KeepsView, LooksOnce, GivesRecord, OpensIfAtAll}
use Rattle.file_table.specs.Calls.{sighted}
use Rattle.tile_source.specs.Pass.{PassState}
use Rattle.tile_source.specs.Pass.{KeepsAllBut, view_and_record}
use Rattle.tile_source.specs.Call.{LeavesNoHand, NoneFalls}
use Rattle.image_cache.specs.Call.{AfterCall, IsOfLook, KeepsOne}
use Rattle.tile_source.specs.declared.error.CacheError.{CacheError}
use Rattle.tile_source.specs.declared.error.CacheError.TheVariants as refused
use Rattle.tile_source.specs.Cause.{MetNewer}
use Rattle.image_cache.specs.Cause.{Around, MetAgain, RestsOnGiven, HasCause}
use Rattle.tile_source.specs.Cause.{StepCause}
use Rattle.image_cache.specs.Cause.{OpeningCause}
use Rattle.tile_source.proofs.TexelLemmas.{cause_since, rises_since}
use Rattle.tile_source.specs.Source.{PassTap, ReadsOn, pass_tap}
use Rattle.tile_source.proofs.StepLemmas.{keeps_view_chain, none_falls_chain, hand_chain, opens_falls}

-- the tap after both
pub falls_behind : {files : Files} {gate : GateState} {known : RecordState} {a b : PassTap}
    {Busy : Type 0} (first : TapState) → OpensIfAtAll first a.tap
    → ReadsOn files gate known a b Busy → NoneFalls first b.tap
falls_behind {files} {gate} {known} {a} {b} first once left =
    none_falls_chain first a.tap b.tap (opens_falls first a.tap once) left.tap

module _ {files : Files} {gate : GateState} {known : RecordState} {Busy : Type 0} (file : ℕ)
    (old mid after new : PassState) (t u : TapState) (of : known.file ≡ file)
    (opened : KeepsAllBut view_and_record old mid) (looks : LooksOnce file old.view mid.view)
    (left : ReadsOn files gate known (pass_tap mid t) (pass_tap after u) Busy)
    (kept : KeepsAllBut view_and_record after new) (view : new.view ≡ after.view) where
  keeps : KeepsView file mid.view new.view
  keeps = subst (λ (n : ℕ). KeepsView n mid.view new.view) of
      (subst (λ (v : ViewState). KeepsView known.file mid.view v) (sym view) left.need.view)

  pub after_call : AfterCall file old new
  after_call = record {
    place = record {
      board = kept.place.board ∙ (left.need.place.board ∙ opened.place.board);
      gate = kept.place.gate ∙ (left.need.place.gate ∙ opened.place.gate);
      cut = kept.place.cut ∙ (left.need.place.cut ∙ opened.place.cut);
      permits = kept.place.permits ∙ (left.need.place.permits ∙ opened.place.permits);
      joined = kept.place.joined ∙ (left.need.place.joined ∙ opened.place.joined);
    };
    view = keeps_view_chain file old.view mid.view new.view looks.keeps keeps;
    counts = record {
      needs = omega (arith, opened.counts.needs, left.counts.needs, kept.counts.needs);
      hits = omega (arith, opened.counts.hits, left.counts.hits, kept.counts.hits);
      apart = omega (arith, opened.counts.apart, left.counts.apart, kept.counts.apart);
    };
  }

  pub looked : slice_index old.view.steps file < slice_index new.view.steps file
  looked = subst (λ (v : ViewState). slice_index old.view.steps file < slice_index v.steps file)
      (sym view) (omega (
        arith,
        looks.least,
        subst (λ (n : ℕ). slice_index mid.view.steps n ≤ slice_index after.view.steps n) of
            left.need.steps,
      ))

  pub of_look : (generation : ℕ) → slice_index mid.view.looked file ≤ generation
      → IsOfLook file old.view new.view generation
  of_look generation found = record {
    once = ap (λ (l : List ℕ). slice_index l file)
        (ap (λ (v : ViewState). v.looks) view ∙ left.need.looks.looks) ∙ looks.looks;
    found = subst (λ (l : List ℕ). slice_index l file ≤ generation)
        (sym (ap (λ (v : ViewState). v.looked) view ∙ left.need.looks.looked)) found;
  }

  pub same_holds : new.pinned.holds ≡ old.pinned.holds
  same_holds = kept.tiles.holds ∙ (left.need.holds ∙ opened.tiles.holds)

  pub no_hand : LeavesNoHand Busy old new
  no_hand = hand_chain Busy old after new
      (hand_chain Busy old mid after (inr (inl opened.tiles.hand)) left.hand)
      (inr (inl kept.tiles.hand))

  pub keeps_one : (cut : Cut) (r : RecordState) → new.latest ≡ Some r
      → GivesRecord files file cut old.view mid.view r → (first last : TapState)
      → KeepsOne files file cut old new first last
  keeps_one cut r latest given first last =
      inr (subst (λ (o : Option RecordState). IsSomeAnd o
      (GivesRecord files file cut old.view new.view)) (sym latest) (record {
        of_file = given.of_file;
        under = given.under;
        honest = given.honest;
        new_enough = given.new_enough;
        seen = omega (arith, given.seen, keeps.later file);
      }))

-- ---- why a call on a file fails

module _ {B : Type 0} (a : Around) (First : CacheError B → Type 0)
    (Refuses : RecordState → CacheError B → Type 0)
  where
    -- the call failed because the file could not be opened
    pub by_opening : (e : CacheError B)
        → OpeningCause a.files a.file (sighted a.old.view a.tap_old) (sighted a.new.view a.tap_new) e
        → HasCause a First Refuses e
    by_opening (refused.Again from to) met = (met.newer, met.seen, inl met)
    by_opening refused.ReadFault rises = rises
    by_opening refused.NoMemory free = tt
    by_opening (refused.Busy b) free = tt
    by_opening (refused.BadFile generation fault) none = absurd none
    by_opening (refused.TileTooLarge generation) none = absurd none
    by_opening (refused.NoLevel generation levels) none = absurd none
    by_opening (refused.Outside generation) none = absurd none
    by_opening refused.RegionTooLarge none = absurd none
    by_opening refused.HoldsFull none = absurd none

    -- by a step by the record that was given
    module _ (k : RecordState) (latest : a.new.latest ≡ Some k)
        (given : GivesRecord a.files a.file a.cut a.old.view a.new.view k) (mid : TapState)
        (falls : NoneFalls a.tap_old mid)
      where
        rests : (P : RecordState → Type 0) → P k → RestsOnGiven a P
        rests P here = subst (λ (o : Option RecordState). IsSomeAnd o
            (λ r. GivesRecord a.files a.file a.cut a.old.view a.new.view r × P r)) (sym latest)
            (given, here)

        again : (from to : ℕ)
            → MetNewer a.files k.file k.generation from to a.new.view mid a.tap_new
            → MetAgain a from to
        again from to met =
            let since = cause_since {B = Unit {0}} a.files k a.new.view a.tap_old mid a.tap_new
            (refused.Again from to) falls met in
            let of = subst (λ (n : ℕ). MetNewer a.files n k.generation from to a.new.view a.tap_old
            a.tap_new) given.of_file since in (
              record {
                from_real = of.from_real;
                to_real = of.to_real;
                new_enough = omega (arith, given.new_enough, of.from_is);
                newer = of.newer;
                moves = of.moves;
              },
              of.seen,
              inr (rests (λ r.
                  MetNewer a.files a.file r.generation from to a.new.view a.tap_old a.tap_new) of),
            )

        by_step : (e : CacheError B) → StepCause a.files k a.new.view mid a.tap_new Refuses e
            → HasCause a First Refuses e
        by_step (refused.Again from to) met = again from to met
        by_step refused.ReadFault rises =
            rises_since a.tap_old.faults mid.faults a.tap_new.faults falls.faults rises
        by_step refused.NoMemory free = tt
        by_step (refused.Busy b) free = tt
        by_step (refused.BadFile generation fault) own =
            inr (rests (λ r. Refuses r (refused.BadFile generation fault)) own)
        by_step (refused.TileTooLarge generation) own =
            inr (rests (λ r. Refuses r (refused.TileTooLarge generation)) own)
        by_step (refused.NoLevel generation levels) own =
            inr (rests (λ r. Refuses r (refused.NoLevel generation levels)) own)
        by_step (refused.Outside generation) own =
            inr (rests (λ r. Refuses r (refused.Outside generation)) own)
        by_step refused.RegionTooLarge own = inr (rests (λ r. Refuses r refused.RegionTooLarge) own)
        by_step refused.HoldsFull own = inr (rests (λ r. Refuses r refused.HoldsFull) own)

        pub by_answer : {A : Type 0} (result : Result A (CacheError B))
            → IfErr result (StepCause a.files k a.new.view mid a.tap_new Refuses)
            → IfErr result (HasCause a First Refuses)
        by_answer (Ok x) none = tt
        by_answer (Err e) cause = by_step e cause
