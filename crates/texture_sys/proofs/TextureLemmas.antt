-- A lookup on the record that was found: what it answers, and why it fails.
use Rattle.std.proofs.Common.{◌≡◌, ℕ, ◌≤◌, sym, ap, subst, ◌∙◌, arith, List}
use Rattle.std.proofs.Common.{Some, Result, Ok, Err, slice_index}
use Rattle.std.specs.Prelude.{IfOk, IfErr, OnOk}
use Rattle.std.specs.Option.{ForSome}
use Rattle.tex_world.specs.World.{Files, IsReal}
use Rattle.tex_world.specs.Tap.{TapState}
use Rattle.gen_board.specs.View.{ViewState}
use Rattle.tiff_format.specs.declared.cut.Cut.{Cut}
use Rattle.tile_layout.specs.Kept.{kept_of}
use Rattle.tile_layout.specs.Cell.{CellsFit}
use Rattle.file_table.specs.Record.{RecordState}
use Rattle.file_table.specs.Calls.{sighted, GivesRecord, KeepsView}
use Rattle.texture_sys.specs.declared.lookup.Lookups.{Lookups}
use Rattle.tile_source.specs.declared.error.CacheError.{CacheError}
use Rattle.tile_source.specs.declared.error.CacheError.TheVariants as refused
use Rattle.tile_source.specs.Call.{NoneFalls}
use Rattle.tile_source.specs.Cause.{StepCause}
use Rattle.image_cache.specs.Cause.{LookupRefuses}
use Rattle.tile_source.proofs.TexelLemmas.{cause_since}
use Rattle.texture_sys.specs.declared.stopped.Stopped.{Stopped}
use Rattle.texture_sys.specs.Asked.{AreFirstOn}
use Rattle.texture_sys.specs.Look.{picture_of}
use Rattle.texture_sys.specs.Call.{IsOfGeneration, IsLookupOn, Answers, AnswersFirst}
use Rattle.texture_sys.specs.Call.{TextureCause}
use Rattle.texture_sys.proofs.LookLemmas.{good_layout, bad_layout}

module _ (files : Files) (file : ℕ) (cut : Cut) (old mid new : ViewState) (k : RecordState)
    (given : GivesRecord files file cut old mid k) (view : KeepsView k.file mid new) where
  pub of_generation : (g : ℕ) → g ≡ k.generation → IsOfGeneration files file old new g
  of_generation g is = subst (λ (n : ℕ). IsOfGeneration files file old new n) (sym is) (record {
    real = subst (λ (n : ℕ). IsReal files n k.generation) given.of_file given.honest.real;
    new_enough = given.new_enough;
    seen = omega (arith, given.seen, view.later file);
  })

  pub given_later : GivesRecord files file cut old new k
  given_later = record {
    of_file = given.of_file;
    under = given.under;
    honest = given.honest;
    new_enough = given.new_enough;
    seen = omega (arith, given.seen, view.later file);
  }

  held_as : (g : ℕ) (bytes : List ℕ) → g ≡ k.generation → files.held file g ≡ Some bytes
      → files.held k.file k.generation ≡ Some bytes
  held_as g bytes is held = ap (λ (n : ℕ). files.held n k.generation) given.of_file
      ∙ (ap (λ (n : ℕ). files.held file n) (sym is) ∙ held)

  pub texture_value : {E : Type 0} (r : Lookups) (out : List ℕ) (result : Result ℕ E)
      → IfOk result (λ g. g ≡ k.generation)
      → ForSome (files.held k.file k.generation) (λ bytes. OnOk result (IsLookupOn k.cut bytes r out))
      → IfOk result (Answers files file cut r old new out)
  texture_value r out (Ok g) is value = record {
    of = of_generation g is;
    value = λ bytes held. subst (λ (c : Cut). IsLookupOn c bytes r out) given.under
        (value bytes (held_as g bytes is held));
  }
  texture_value r out (Err e) is value = tt

  pub texture_part : {A E : Type 0} (r : Lookups) (out : List ℕ) (result : Result A (Stopped E))
      → IfErr result (λ s. s.generation ≡ k.generation)
      → ForSome (files.held k.file k.generation) (λ bytes.
      IfErr result (λ s. AreFirstOn (picture_of k.cut bytes) r s.done out))
      → IfErr result (AnswersFirst files file cut r old new out)
  texture_part r out (Ok x) is part = tt
  texture_part r out (Err s) is part = record {
    unopened = λ none. absurd (omega (arith, none, (of_generation s.generation is).real.low));
    of = λ _. of_generation s.generation is;
    first = λ _ bytes held. subst (λ (c : Cut). AreFirstOn (picture_of c bytes) r s.done out)
        given.under (part bytes (held_as s.generation bytes is held));
  }

  pub texture_cause : {B : Type 0} (tap_old tap_mid tap_new : TapState) (e : CacheError B)
      → NoneFalls tap_old tap_mid → StepCause files k new tap_mid tap_new LookupRefuses e
      → TextureCause files file cut (sighted old tap_old) (sighted new tap_new) e
  texture_cause tap_old tap_mid tap_new (refused.BadFile g fault) falls bad = (
    of_generation g bad.of_generation,
    λ bytes held. bad_layout bytes k.layout fault
        (given.honest.layout bytes (held_as g bytes bad.of_generation held)) bad.shows,
  )
  texture_cause tap_old tap_mid tap_new (refused.TileTooLarge g) falls unfit = (
    of_generation g unfit.of_generation,
    λ bytes held.
        let good = good_layout bytes k.layout (λ kept. ¬ CellsFit kept k.cut)
        (given.honest.layout bytes (held_as g bytes unfit.of_generation held))
        unfit.too_large in
        (good.0, subst (λ (c : Cut). ¬ CellsFit (kept_of bytes) c) given.under good.2),
  )
  texture_cause tap_old tap_mid tap_new (refused.Again from to) falls met =
      let since = cause_since {B = Unit {0}} files k new tap_old tap_mid tap_new
      (refused.Again from to) falls met in (
        record {
          from_real = subst (λ (n : ℕ). IsReal files n from) given.of_file since.from_real;
          to_real = subst (λ (n : ℕ). IsReal files n to) given.of_file since.to_real;
          new_enough = omega (arith, given.new_enough, since.from_is);
          newer = since.newer;
          moves = since.moves;
        },
        subst (λ (n : ℕ). to ≤ slice_index new.seen n) given.of_file since.seen,
      )
  texture_cause tap_old tap_mid tap_new refused.ReadFault falls rises =
      cause_since {B = Unit {0}} files k new tap_old tap_mid tap_new refused.ReadFault falls rises
  texture_cause tap_old tap_mid tap_new refused.NoMemory falls free = tt
  texture_cause tap_old tap_mid tap_new (refused.Busy b) falls free = tt
  texture_cause tap_old tap_mid tap_new (refused.NoLevel g levels) falls none = none
  texture_cause tap_old tap_mid tap_new (refused.Outside g) falls none = none
  texture_cause tap_old tap_mid tap_new refused.RegionTooLarge falls none = none
  texture_cause tap_old tap_mid tap_new refused.HoldsFull falls none = none
