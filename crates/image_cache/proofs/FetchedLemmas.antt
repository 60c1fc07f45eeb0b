-- What does it leave to fetch a texel, if the microcache has its cell, and if it has not?
use Rattle.std.proofs.Common.{◌≡◌, ℕ, ◌⊎◌, inl, inr, refl, sym, ap, subst, arith, Bool, false}
use Rattle.std.proofs.Common.{Result, Ok, Err}
use Rattle.std.specs.Prelude.{IsTrue, IfErr, IfSome, OnOk, OnErr}
use Rattle.tex_world.specs.World.{Files}
use Rattle.tex_world.specs.Tap.{TapState}
use Rattle.gen_board.specs.View.{ViewState}
use Rattle.micro.specs.Items.{HasKey}
use Rattle.shard_gate.specs.Gate.{GateState}
use Rattle.shard_gate.proofs.SinceLemmas.{purges_none}
use Rattle.shard_gate.specs.Gate.{PinSeatState}
use Rattle.file_table.specs.Record.{RecordState}
use Rattle.file_table.specs.Calls.{KeepsView}
use Rattle.texel_values.specs.declared.texel_at.TexelAt.{TexelAt}
use Rattle.pinned_tiles.specs.declared.cell.CellAt.{CellAt}
use Rattle.pinned_tiles.specs.Pinned.{key_in}
use Rattle.tile_source.specs.declared.error.CacheError.{CacheError}
use Rattle.tile_source.specs.Pass.{PassState}
use Rattle.tile_source.specs.Texel.{has_cell_at, IsCellIn, IsStoredAt}
use Rattle.tile_source.specs.Call.{CountsNeed, NoneUncached, MayBeUncached, HasNoCall, MissesCellAt}
use Rattle.tile_source.specs.Cause.{FetchCause, MovesOnlyAgain, AnswersFromHold, WantsByOpening}
use Rattle.tile_source.specs.Source.{PassTap, pass_tap, IsNeededAt, ReadsAt, refusal, MeetsOnlyAgain}
use Rattle.tile_source.proofs.StepLemmas.{none_fell, looks_same}
use Rattle.tile_source.proofs.TexelLemmas.{from_cell}
use Rattle.image_cache.specs.Square.{MeetsAt}
use Rattle.image_cache.specs.Fetches.{FetchesTexel}

same_view : (file : ℕ) (a b : ViewState) → b ≡ a → KeepsView file a b
same_view file a b same = subst (λ (v : ViewState). KeepsView file a v) (sym same) (record {
  board = refl;
  later = λ f. omega arith;
  seen_others = λ f other. refl;
  steps_others = λ f other. refl;
})

cause_of : {B : Type 0} (files : Files) (known : RecordState) (view : ViewState) (a b : TapState)
    (result : Result (Unit {0}) (CacheError B))
    → IfSome (refusal result) (FetchCause files known view a b)
    → IfErr result (FetchCause files known view a b)
cause_of files known view a b (Ok done) cause = tt
cause_of files known view a b (Err e) cause = cause

moves_of : {B : Type 0} (a b : TapState) (result : Result (Unit {0}) (CacheError B))
    → MeetsOnlyAgain (refusal result) a b → MovesOnlyAgain a b result
moves_of a b (Ok done) same = record { ok = same; err = tt }
moves_of a b (Err e) only = record { ok = tt; err = only }

module _ {B : Type 0} (files : Files) (gate : GateState) (known : RecordState) (at : TexelAt) where
  -- the microcache had the cell
  pub fetched_met : (tap : TapState) (old new : PassState) → MeetsAt files known at old new
      → FetchesTexel {B = B} files gate known at (pass_tap old tap) (pass_tap new tap) (Ok tt)
  fetched_met tap old new met = record {
    cause = tt;
    moves = record { ok = refl; err = tt };
    tap = none_fell tap;
    same = record {
      place = met.kept.place;
      view = same_view known.file old.view new.view met.kept.view;
      looks = looks_same old.view new.view met.kept.view;
      steps = rw met.kept.view (omega arith);
      few = met.kept.tiles.few;
      holds = met.kept.tiles.holds;
      latest = met.kept.latest;
    };
    hand = inr (inl met.kept.tiles.hand);
    need = subst (λ (hit : Bool). CountsNeed hit old new) (sym met.had) met.need;
    apart = record { later = omega (arith, met.apart); either = inl met.apart };
    needed = λ none. record { asked = met.asked; turned = met.turned; needs = met.needs };
    later = omega (arith, met.apart);
    hit = λ had. met.apart;
    refused = λ generated. tt;
    visits = purges_none gate old.pinned.seat new.pinned.seat
        (ap (λ (s : PinSeatState). s.visits) met.kept.seat);
    missed = λ tells none. inl refl;
    held = λ tells holds. record { tap = refl; busy = tt };
    memory = λ stored. tt;
    warm = λ had. record { ok = refl; tap = refl; view = met.kept.view };
    moved = λ had. met.moved;
  }

  -- it had not
  module _ (a b : PassTap) (result : Result (Unit {0}) (CacheError B)) (cell : CellAt)
      (is : IsCellIn known at cell) (lacks : has_cell_at known at a.pass.pinned.recent ≡ false)
      (left : ReadsAt files gate known a b (refusal result)) where
    pub fetched_cold : CountsNeed false a.pass b.pass → OnOk result (MayBeUncached files a.pass b.pass)
        → OnOk result (NoneUncached a.pass b.pass → IsNeededAt files known at a.pass b.pass)
        → (IsTrue files.tells → NoneUncached a.pass b.pass
        → HasNoCall a.tap b.tap ⊎ MissesCellAt gate known at a.pass b.pass)
        → (IsTrue files.tells → HasKey key_in cell.key a.pass.pinned.holds
        → AnswersFromHold a.tap b.tap result)
        → (IsStoredAt known at → IfErr result (WantsByOpening a.tap b.tap))
        → ((IsStoredAt known at → ⊥) → OnErr result (b.pass.apart ≡ a.pass.apart))
        → FetchesTexel files gate known at a b result
    fetched_cold need apart needed missed held memory refused = record {
      cause = cause_of files known b.pass.view a.tap b.tap result left.steps.cause;
      moves = moves_of a.tap b.tap result left.steps.moves;
      tap = left.steps.tap;
      same = left.steps.need;
      hand = left.hand;
      need = subst (λ (hit : Bool). CountsNeed hit a.pass b.pass) (sym lacks) need;
      apart = apart;
      needed = needed;
      later = left.counts.apart;
      hit = λ had. absurd (cc (had, lacks));
      refused = refused;
      visits = left.steps.visits;
      missed = missed;
      held = λ tells holds. held tells
          (from_cell (λ key. HasKey key_in key a.pass.pinned.holds) known at cell is holds);
      memory = memory;
      warm = λ had. absurd (cc (had, lacks));
      moved = λ had. absurd (cc (had, lacks));
    }
