-- What is left after every known file was checked, one after another?
use Rattle.std.proofs.Common.{◌≡◌, ℕ, ◌+◌, ◌<◌, refl, add-one}
use Rattle.tex_world.specs.World.{Files}
use Rattle.tex_world.specs.Tap.{TapState}
use Rattle.shard_gate.specs.Gate.{GateState}
use Rattle.shard_gate.specs.Since.{PurgesNone}
use Rattle.tile_source.specs.declared.error.CacheError.{CacheError}
use Rattle.tile_source.specs.declared.error.CacheError.TheVariants as refused
use Rattle.tile_source.specs.Pass.{PassState}
use Rattle.tile_source.specs.Source.{PassTap, pass_tap}
use Rattle.image_cache.specs.InvalidAll.{RenewsFile, RenewsFirst, RenewsUpTo, FailsAt}
use Rattle.image_cache.specs.InvalidAll.{EndsAtFault, AtReadFault}

-- before the first file
pub renews_none : (files : Files) (gate : GateState) (old emptied : PassState) (tap : TapState)
    → PurgesNone gate old.pinned.seat emptied.pinned.seat → emptied.view ≡ old.view
    → RenewsUpTo files gate 0 (pass_tap old tap) (pass_tap emptied tap)
unfolding RenewsFirst
renews_none files gate old emptied tap released view =
    record { emptied = emptied; released = released; view = view; each = refl }

-- one file more
pub renews_more : (files : Files) (gate : GateState) (n : ℕ) (old mid new : PassTap)
    → RenewsUpTo files gate n old mid → RenewsFile files gate n mid new
    → RenewsUpTo files gate (n + 1) old new
unfolding RenewsFirst
renews_more files gate n old mid new so_far one = record {
  emptied = so_far.emptied;
  released = so_far.released;
  view = so_far.view;
  each = rw add-one (mid, so_far.each, one);
}

-- a consequence of an I/O error, for each error
pub at_fault : {B P Q : Type 0} (e : CacheError B) → AtReadFault P e → (P → Q) → AtReadFault Q e
at_fault refused.ReadFault here each = each here
at_fault (refused.Again from to) here each = tt
at_fault refused.NoMemory here each = tt
at_fault (refused.Busy b) here each = tt
at_fault (refused.BadFile g fault) here each = tt
at_fault (refused.TileTooLarge g) here each = tt
at_fault (refused.NoLevel g levels) here each = tt
at_fault (refused.Outside g) here each = tt
at_fault refused.RegionTooLarge here each = tt
at_fault refused.HoldsFull here each = tt

-- an I/O error occurred at the next file
pub ends_at : {B : Type 0} (files : Files) (gate : GateState) (n file : ℕ) (old done new : PassTap)
    (e : CacheError B) → RenewsUpTo files gate file old done → file < n
    → AtReadFault (FailsAt file done new) e → AtReadFault (EndsAtFault files gate n old new) e
ends_at files gate n file old done new e before one_of failed = at_fault e failed
    (λ fails. record {
      file = file;
      one_of = one_of;
      done = done;
      before = before;
      failed = fails;
    })
