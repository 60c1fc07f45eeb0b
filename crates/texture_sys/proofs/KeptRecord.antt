-- Which record does the pass keep after a lookup?
use Rattle.std.proofs.Common.{◌≡◌, ℕ, sym, subst, inl, inr}
use Rattle.std.proofs.Common.{Option, Some, Result, Ok, Err}
use Rattle.std.specs.Prelude.{IsSomeAnd, IfOk, IfErr, OnOk}
use Rattle.tex_world.specs.World.{Files}
use Rattle.tex_world.specs.Tap.{TapState}
use Rattle.tiff_format.specs.declared.cut.Cut.{Cut}
use Rattle.file_table.specs.Record.{RecordState}
use Rattle.file_table.specs.Calls.{Sighted, sighted, GivesRecord, KeepsView}
use Rattle.texture_sys.specs.declared.lookup.Lookups.{Lookups}
use Rattle.tile_source.specs.declared.error.CacheError.{CacheError}
use Rattle.tile_source.specs.declared.error.CacheError.TheVariants as refused
use Rattle.tile_source.specs.Pass.{PassState}
use Rattle.tile_source.specs.Pass.{KeepsAllBut, view_and_record}
use Rattle.tile_source.specs.Call.{NoneFalls}
use Rattle.image_cache.specs.Call.{IsUnopened, KeepsOne}
use Rattle.tile_source.specs.Cause.{StepCause, MetNewer}
use Rattle.image_cache.specs.Cause.{OpeningCause, LookupRefuses}
use Rattle.tile_source.proofs.TexelLemmas.{cause_since}
use Rattle.texture_sys.specs.Needs.{visits_on, AsksForCells}
use Rattle.texture_sys.specs.Call.{TextureCause}
use Rattle.texture_sys.specs.Call.{IsLookedUp, IsRefused, IsOutdated, KeepsAfter, KeepsRecord}
use Rattle.texture_sys.proofs.Asked.{asks_to, asks_from}
use Rattle.texture_sys.proofs.TextureLemmas.{given_later}

-- ---- the record that is kept

module _ (files : Files) (file : ℕ) (cut : Cut) (old mid new : PassState)
    (tap_old : TapState) (k : RecordState)
    (given : GivesRecord files file cut old.view mid.view k)
    (view : KeepsView k.file mid.view new.view) (latest : new.latest ≡ Some k) where
  is_kept : (P : RecordState → Type 0) → P k → IsSomeAnd new.latest P
  is_kept P here = subst (λ (o : Option RecordState). IsSomeAnd o P) (sym latest) here

  later : GivesRecord files file cut old.view new.view k
  later = given_later files file cut old.view mid.view new.view k given view

  refusal : (e : CacheError (Unit {0})) → LookupRefuses k e
      → IsSomeAnd new.latest (IsRefused files file cut old new e)
  refusal e unfit =
      is_kept (IsRefused files file cut old new e) (record { given = later; unfit = unfit })

  -- the record was given to this call
  kept_given : (tap_new : TapState) → KeepsOne files file cut old new tap_old tap_new
  kept_given tap_new = inr (is_kept (GivesRecord files file cut old.view new.view) later)

  outdated : (tap_mid tap_new : TapState) (from to : ℕ) → NoneFalls tap_old tap_mid
      → MetNewer files k.file k.generation from to new.view tap_mid tap_new
      → IsOutdated files file cut old new tap_old tap_new from to k
  outdated tap_mid tap_new from to falls met = record {
    given = later;
    met = subst (λ (n : ℕ). MetNewer files n k.generation from to new.view tap_old tap_new)
        given.of_file
        (cause_since {B = Unit {0}} files k new.view tap_old tap_mid tap_new
        (refused.Again from to) falls met);
  }

  after : {B : Type 0} (tap_mid tap_new : TapState) (e : CacheError B) → NoneFalls tap_old tap_mid
      → StepCause files k new.view tap_mid tap_new LookupRefuses e
      → KeepsAfter files file cut old new tap_old tap_new e
  after tap_mid tap_new (refused.BadFile g fault) falls unfit =
      refusal (refused.BadFile g fault) unfit
  after tap_mid tap_new (refused.TileTooLarge g) falls unfit =
      refusal (refused.TileTooLarge g) unfit
  after tap_mid tap_new (refused.Again from to) falls met =
      inr (is_kept (IsOutdated files file cut old new tap_old tap_new from to)
      (outdated tap_mid tap_new from to falls met))
  after tap_mid tap_new refused.ReadFault falls rises = kept_given tap_new
  after tap_mid tap_new refused.NoMemory falls free = kept_given tap_new
  after tap_mid tap_new (refused.Busy b) falls free = kept_given tap_new
  after tap_mid tap_new (refused.NoLevel g levels) falls none = absurd none
  after tap_mid tap_new (refused.Outside g) falls none = absurd none
  after tap_mid tap_new refused.RegionTooLarge falls none = absurd none
  after tap_mid tap_new refused.HoldsFull falls none = absurd none

  pub texture_kept : {B : Type 0} (r : Lookups) (tap_mid tap_new : TapState)
      (result : Result ℕ (CacheError B)) → KeepsAllBut view_and_record old mid
      → IfOk result (λ g. g ≡ k.generation)
      → OnOk result (AsksForCells files k (visits_on k r) mid new)
      → NoneFalls tap_old tap_mid
      → IfErr result (StepCause files k new.view tap_mid tap_new LookupRefuses)
      → KeepsRecord files file cut r old new tap_old tap_new result
  texture_kept r tap_mid tap_new (Ok g) same is asks falls cause =
      let asked = asks_from files k (visits_on k r) old mid new same asks in
      is_kept (IsLookedUp files file cut r old new g)
      (record { given = later; of = sym is; asks = asked; needs = asked.keys })
  texture_kept r tap_mid tap_new (Err e) same is asks falls cause =
      after tap_mid tap_new e falls cause

-- ---- a file that was not opened

module _ {B : Type 0} (files : Files) (file : ℕ) (cut : Cut) where
  pub opening_cause : (old new : Sighted) (e : CacheError B) → OpeningCause files file old new e
      → TextureCause files file cut old new e
  opening_cause old new (refused.Again from to) met = (met.newer, met.seen)
  opening_cause old new refused.ReadFault rises = rises
  opening_cause old new refused.NoMemory free = tt
  opening_cause old new (refused.Busy b) free = tt
  opening_cause old new (refused.BadFile g fault) none = absurd none
  opening_cause old new (refused.TileTooLarge g) none = absurd none
  opening_cause old new (refused.NoLevel g levels) none = none
  opening_cause old new (refused.Outside g) none = none
  opening_cause old new refused.RegionTooLarge none = none
  opening_cause old new refused.HoldsFull none = none

  module _ (p q : PassState) (tap_old tap_new : TapState)
      (unopened : IsUnopened p q tap_old tap_new)
    where
      pub opening_kept : (e : CacheError B)
          → OpeningCause files file (sighted p.view tap_old) (sighted q.view tap_new) e
          → KeepsAfter files file cut p q tap_old tap_new e
      opening_kept (refused.Again from to) met = inl (record { unopened = unopened; met = met })
      opening_kept refused.ReadFault rises = inl unopened
      opening_kept refused.NoMemory free = inl unopened
      opening_kept (refused.Busy b) free = inl unopened
      opening_kept (refused.BadFile g fault) none = absurd none
      opening_kept (refused.TileTooLarge g) none = absurd none
      opening_kept (refused.NoLevel g levels) none = absurd none
      opening_kept (refused.Outside g) none = absurd none
      opening_kept refused.RegionTooLarge none = absurd none
      opening_kept refused.HoldsFull none = absurd none

-- ---- a lookup in the microcache alone

pub local_kept : (files : Files) (file : ℕ) (cut : Cut) (r : Lookups)
    (old mid looked new : PassState) (k : RecordState) (g : ℕ)
    → GivesRecord files file cut old.view new.view k → new.latest ≡ Some k → k.generation ≡ g
    → KeepsAllBut view_and_record old mid → AsksForCells files k (visits_on k r) mid looked
    → KeepsAllBut view_and_record looked new
    → IsSomeAnd new.latest (IsLookedUp files file cut r old new g)
local_kept files file cut r old mid looked new k g given latest is before asks behind =
    let asked = asks_to files k (visits_on k r) old looked new behind
    (asks_from files k (visits_on k r) old mid looked before asks) in
    subst (λ (o : Option RecordState). IsSomeAnd o (IsLookedUp files file cut r old new g))
    (sym latest) (record { given = given; of = is; asks = asked; needs = asked.keys })
