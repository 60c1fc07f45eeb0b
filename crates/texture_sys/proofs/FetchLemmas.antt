-- What do the texels of a record leave that a lookup fetches, one or four at once?
use Rattle.std.proofs.Common.{◌≡◌, Bool, true, false, refl, sym, ap, subst, ◌∙◌, arith, Option, Some, None}
use Rattle.std.proofs.Common.{inl, inr, List, ◌∷◌, Result, Ok, Err}
use Rattle.std.specs.Option.{option_map}
use Rattle.std.proofs.lemmas.Option.{none-some, same_Some}
use Rattle.tex_world.specs.World.{Files}
use Rattle.tex_world.specs.Tap.{TapState}
use Rattle.gen_board.specs.View.{ViewState}
use Rattle.file_table.specs.Record.{RecordState}
use Rattle.file_table.specs.Calls.{KeepsView}
use Rattle.texel_filter.specs.Image.{Texel}
use Rattle.texel_filter.specs.Calls.{LeftBy}
use Rattle.shard_gate.specs.Gate.{GateState, PinSeatState}
use Rattle.shard_gate.proofs.SinceLemmas.{purges_none}
use Rattle.tile_source.specs.declared.error.CacheError.{CacheError}
use Rattle.tile_source.specs.Pass.{CacheState, PassState, IsPassOf}
use Rattle.std.specs.Prelude.{IfErr, OnOk}
use Rattle.tile_source.specs.Call.{CountsNeed}
use Rattle.tile_source.specs.Texel.{has_cell_at}
use Rattle.tile_source.specs.Pass.{KeepsAllBut, recent_and_counts}
use Rattle.image_cache.specs.Square.{MeetsAt}
use Rattle.tile_source.specs.Source.{PassTap, pass_tap}
use Rattle.image_cache.specs.Fetches.{at_of, AsksForCell, Fetches, Refuses, FetchesTexel}
use Rattle.tile_source.proofs.StepLemmas.{none_fell, looks_same}

-- a fact of a function's value, if there is one
pub at_mapped : {A B : Type 0} (f : A → B) (o : Option A) (y : B) (P : B → Type 0)
    → option_map f o ≡ Some y → ((x : A) → o ≡ Some x → P (f x)) → P y
at_mapped f None y P is each = absurd (none-some y is)
at_mapped f (Some x) y P is each = subst P (same_Some (f x) y is) (each x refl)

same_view : (state : RecordState) (a b : ViewState) → b ≡ a → KeepsView state.file a b
same_view state a b same = subst (λ (v : ViewState). KeepsView state.file a v) (sym same) (record {
  board = refl;
  later = λ f. omega arith;
  seen_others = λ f other. refl;
  steps_others = λ f other. refl;
})

-- the cell of a texel that the microcache met was asked for
pub asks_met : (files : Files) (state : RecordState) (texel : Texel) (old new : PassState)
    → MeetsAt files state (at_of texel) old new → AsksForCell files state texel old new
asks_met files state texel old new met = record {
  need = subst (λ (hit : Bool). CountsNeed hit old new) (sym met.had) met.need;
  apart = record { later = omega (arith, met.apart); either = inl met.apart };
  asked = λ none. met.asked;
  needs = λ none. met.needs;
}

-- a texel that was read from the microcache was fetched
pub fetches_met : (files : Files) (gate : GateState) (state : RecordState) (texel : Texel)
    (tap : TapState) (old new : PassState) → MeetsAt files state (at_of texel) old new
    → Fetches files gate state (pass_tap old tap) texel (pass_tap new tap)
fetches_met files gate state texel tap old new met =
    let view = met.kept.view in
    record {
      asks = asks_met files state texel old new met;
      pass = record {
        place = met.kept.place;
        view = same_view state old.view new.view view;
        looks = looks_same old.view new.view view;
        steps = rw view (omega arith);
        few = met.kept.tiles.few;
        holds = met.kept.tiles.holds;
        latest = met.kept.latest;
      };
      tap = none_fell tap;
      visits = purges_none gate old.pinned.seat new.pinned.seat
          (ap (λ (s : PinSeatState). s.visits) met.kept.seat);
      warm = λ has. record { tap = refl; view = view; moved = met.moved };
    }

-- what `fetch` leaves if it answers
pub fetches_ok : {B : Type 0} (files : Files) (gate : GateState) (known state : RecordState)
    (texel : Texel) (old new : PassTap) (result : Result (Unit {0}) (CacheError B)) → known ≡ state
    → FetchesTexel files gate known (at_of texel) old new result
    → OnOk result (Fetches files gate state old texel new)
fetches_ok files gate known state texel old new (Ok x) is left =
    subst (λ (r : RecordState). Fetches files gate r old texel new) is (record {
      asks = record {
        need = left.need;
        apart = left.apart;
        asked = λ none. (left.needed none).asked;
        needs = λ none. (left.needed none).needs;
      };
      pass = left.same;
      tap = left.tap;
      visits = left.visits;
      warm = λ has.
          record { tap = (left.warm has).tap; view = (left.warm has).view; moved = left.moved has };
    })
fetches_ok files gate known state texel old new (Err e) is left = tt

-- what `fetch` leaves if it fails: the microcache lacked the cell
pub refuses_err : {B : Type 0} (files : Files) (gate : GateState) (known state : RecordState)
    (texel : Texel) (old new : PassTap) (result : Result (Unit {0}) (CacheError B)) → known ≡ state
    → FetchesTexel files gate known (at_of texel) old new result
    → IfErr result (λ e. Refuses files gate state old texel e new)
refuses_err files gate known state texel old new (Ok x) is left = tt
refuses_err files gate known state texel old new (Err e) is left =
    subst (λ (r : RecordState). Refuses files gate r old texel e new) is (record {
      cause = left.cause;
      pass = left.same;
      tap = left.tap;
      visits = left.visits;
      cold = lacks (has_cell_at known (at_of texel) old.pass.pinned.recent) refl;
      need = left.need;
      apart = left.later;
      memory = left.memory;
    })
  where
    lacks : (has : Bool) → has_cell_at known (at_of texel) old.pass.pinned.recent ≡ has
        → has_cell_at known (at_of texel) old.pass.pinned.recent ≡ false
    lacks true is_true = absurd (cc (left.warm is_true).ok)
    lacks false is_false = is_false

-- a fact that follows, of a call that succeeds
pub on_ok : {A E : Type 0} {P Q : Type 0} (result : Result A E) → (P → Q) → OnOk result P
    → OnOk result Q
on_ok (Ok x) use_of p = use_of p
on_ok (Err e) use_of p = tt

-- the pass is one of the cache's still
pub same_cache : (cache : CacheState) (old new : PassState) → KeepsAllBut recent_and_counts old new
    → IsPassOf cache old → IsPassOf cache new
same_cache cache old new kept of = record {
  board = kept.place.board ∙ of.board;
  gate = kept.place.gate ∙ of.gate;
  cut = kept.place.cut ∙ of.cut;
}

-- ---- from a pass that is as it was

module _ (a b : PassState) (same : b ≡ a) (files : Files) (gate : GateState) (state : RecordState)
    (texel : Texel) (tap : TapState) (new : PassTap) where
  pub fetches_from : Fetches files gate state (pass_tap b tap) texel new
      → Fetches files gate state (pass_tap a tap) texel new
  fetches_from fetched =
      subst (λ (p : PassState). Fetches files gate state (pass_tap p tap) texel new) same fetched

  pub refuses_from : {B : Type 0} (e : CacheError B)
      → Refuses files gate state (pass_tap b tap) texel e new
      → Refuses files gate state (pass_tap a tap) texel e new
  refuses_from e refused =
      subst (λ (p : PassState). Refuses files gate state (pass_tap p tap) texel e new) same refused

-- the calls from a state whose first call is one from another
pub left_from : {S T E : Type 0} (leaves : S → Texel → S → Type 0)
    (refuses : S → Texel → E → S → Type 0) (a b new : S) (at : Texel) (rest : List Texel)
    (r : Result T E) → ((mid : S) → leaves b at mid → leaves a at mid)
    → ((e : E) (mid : S) → refuses b at e mid → refuses a at e mid)
    → LeftBy leaves refuses b (at ∷ rest) new r → LeftBy leaves refuses a (at ∷ rest) new r
left_from leaves refuses a b new at rest (Ok done) one none (mid, first, later) =
    (mid, one mid first, later)
left_from leaves refuses a b new at rest (Err e) one none (inl here) = inl (none e new here)
left_from leaves refuses a b new at rest (Err e) one none (inr (mid, first, later)) =
    inr (mid, one mid first, later)
