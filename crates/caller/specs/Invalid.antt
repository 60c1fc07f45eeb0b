-- What do freshness checks of a caller answer, and what do they leave?
use Rattle.std.specs.Prelude.{◌≡◌, ℕ, Bool, Result, IfOk, IfErr, OnOk}
use Rattle.gen_board.specs.View.{IsLater}
use Rattle.file_table.specs.Calls.{KeepsView}
use Rattle.shard_gate.specs.Since.{PurgesNone}
use Rattle.tile_source.specs.declared.error.CacheError.{CacheError}
use Rattle.image_cache.specs.Invalid.{invalid, IsEmptied, MakesInvalid, InvalidCause, MayAsk}
use Rattle.image_cache.specs.InvalidAll.{MakesAllInvalid, EndsAtFault, AtReadFault}
use Rattle.tile_source.specs.Source.{PassTap, pass_tap}
use Rattle.image_cache.specs.Caller.{Call}

-- pass and tap before a call, and after it
abbrev pub before : Call → PassTap
before c = pass_tap c.old.pass c.old.tap

abbrev pub after : Call → PassTap
after c = pass_tap c.new.pass c.new.tap

-- One file was checked. If there is an I/O error, no tile is purged.
pub record Invalidates {B : Type 0} (file : ℕ) (force : Bool) (c : Call)
    (result : Result ℕ (CacheError B)) : Type 0 where
  pub ok : IfOk result (MakesInvalid c.files c.old.cache.gate (invalid file force)
      c.old.pass c.new.pass c.old.tap c.new.tap)
  pub cause : IfErr result (InvalidCause c.old.tap c.new.tap)
  pub failed : IfErr result (AtReadFault (PurgesNone c.old.cache.gate
      c.old.pass.pinned.seat c.new.pass.pinned.seat))
  pub view : KeepsView file c.old.pass.view c.new.pass.view

-- Every known file was checked. After an I/O error the files before the failing one are done.
pub record InvalidatesAll {B : Type 0} (c : Call) (result : Result (Unit {0}) (CacheError B))
    : Type 0 where
  pub ok : OnOk result (MakesAllInvalid c.files c.old.cache.gate
      c.old.cache.files.board.files (before c) (after c))
  pub cause : IfErr result (InvalidCause c.old.tap c.new.tap)
  pub failed : IfErr result (AtReadFault (EndsAtFault c.files c.old.cache.gate
      c.old.cache.files.board.files (before c) (after c)))
  pub later : IsLater c.old.pass.view.seen c.new.pass.view.seen

-- What a freshness check leaves, also one that fails: the pass has no record and, unless the waiter
-- can give up, an empty microcache.
pub record LeavesCheck (Busy : Type 0) (c : Call) : Type 0 where
  pub cache : c.new.cache ≡ c.old.cache
  pub emptied : IsEmptied Busy c.old.pass c.new.pass
  pub tap : MayAsk c.old.tap c.new.tap
