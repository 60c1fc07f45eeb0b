-- What do lookups answer, and what do they leave?
use Rattle.std.specs.Prelude.{◌≡◌, ◌↔◌, ℕ, List, Option, Result, slice_index}
use Rattle.std.specs.Prelude.{IsSome, IsNone, IsSomeAnd, IfSome, IfOk, IfErr, OnErr}
use Rattle.tex_world.specs.World.{Files}
use Rattle.tiff_format.specs.declared.cut.Cut.{Cut}
use Rattle.gen_board.specs.View.{AfterStep}
use Rattle.file_table.specs.Calls.{Sighted, sighted}
use Rattle.shard_gate.specs.Since.{PurgesNone}
use Rattle.tile_source.specs.declared.error.CacheError.{CacheError}
use Rattle.tile_source.specs.Pass.{PassState, KeepsAllBut, the_view}
use Rattle.tile_source.specs.Call.{NoneFalls}
use Rattle.image_cache.specs.Cause.{KeepsRecentAt}
use Rattle.texture_sys.specs.declared.lookup.Lookups.{Lookups}
use Rattle.texture_sys.specs.declared.stopped.Stopped.{Stopped}
use Rattle.texture_sys.specs.Asked.{KeepsOthers, whole}
use Rattle.texture_sys.specs.Call.{Answers, AnswersFirst, TextureCause, MemoryCause, AfterLookup}
use Rattle.texture_sys.specs.Call.{KeepsRecord, IsWarm, AnswersWarm, ServesLocally, IsLookedUp}
use Rattle.image_cache.specs.Caller.{Call}

-- what the pass has seen and what the tap has counted, before a call and after it
abbrev pub sight_before : Call → Sighted
sight_before c = sighted c.old.pass.view c.old.tap

abbrev pub sight_after : Call → Sighted
sight_after c = sighted c.new.pass.view c.new.tap

-- If the microcache has every cell that the lookups need, the tap is not called, or a newer
-- generation was seen.
abbrev pub IsWarmCall : {E : Type 0} → ℕ → Lookups → Call → Result ℕ E → Type 0
IsWarmCall file r c result = IfSome c.old.pass.latest (λ known. IsWarm file r c.old.pass known
    → AnswersWarm file known.generation (sight_before c) (sight_after c) result)

-- One lookup: its values are those on the answered generation's bytes. An error has its cause, and
-- then no value was written.
pub record LooksUp {B : Type 0} (file : ℕ) (r : Lookups) (c : Call) (out_old out_new : List ℕ)
    (result : Result ℕ (CacheError B)) : Type 0 where
  pub value : IfOk result (Answers c.files file c.old.cache.gate.cut r
      c.old.pass.view c.new.pass.view out_new)
  pub cause : IfErr result (TextureCause c.files file c.old.cache.gate.cut
      (sight_before c) (sight_after c))
  pub err : OnErr result (out_new ≡ out_old)
  pub warm : IsWarmCall file r c result

-- Lookups of one file: the values of all are those on the answered generation's bytes. If one
-- fails, those before it are answered, and no other value was written.
pub record LooksUpAll {B : Type 0} (file : ℕ) (r : Lookups) (c : Call) (out_old out_new : List ℕ)
    (result : Result ℕ (Stopped (CacheError B))) : Type 0 where
  pub value : IfOk result (Answers c.files file c.old.cache.gate.cut r
      c.old.pass.view c.new.pass.view out_new)
  pub cause : IfErr (whole result) (TextureCause c.files file c.old.cache.gate.cut
      (sight_before c) (sight_after c))
  pub part : IfErr result (AnswersFirst c.files file c.old.cache.gate.cut r
      c.old.pass.view c.new.pass.view out_new)
  pub rest : IfErr result (λ s. KeepsOthers r s.done out_old out_new)
  pub warm : IsWarmCall file r c (whole result)

-- What lookups leave, also those that fail. The pass keeps the record that was looked up. Shards
-- were visited only to pin, unpin and count tiles. If only stored levels are visited, memory runs
-- out only while the file is opened.
pub record LeavesLookup {B : Type 0} (file : ℕ) (r : Lookups) (c : Call)
    (result : Result ℕ (CacheError B)) : Type 0 where
  pub cache : c.new.cache ≡ c.old.cache
  pub same : AfterLookup file c.old.pass c.new.pass
  pub kept : KeepsRecord c.files file c.old.cache.gate.cut r c.old.pass c.new.pass
      c.old.tap c.new.tap result
  pub unread : IfErr result (KeepsRecentAt c.old.pass c.new.pass)
  pub memory : MemoryCause r c.new.pass c.old.tap c.new.tap result
  pub tap : NoneFalls c.old.tap c.new.tap
  pub visits : PurgesNone c.old.cache.gate c.old.pass.pinned.seat c.new.pass.pinned.seat

-- A lookup from the microcache alone: it is answered if and only if the kept record is the newest
-- known one and no cell is missing. Otherwise no value was written.
pub record LooksUpLocally (files : Files) (file : ℕ) (cut : Cut) (r : Lookups) (old new : PassState)
    (out_old out_new : List ℕ) (result : Option ℕ) : Type 0 where
  pub some : IsSome result ↔ IsSomeAnd old.latest (ServesLocally file r old new)
  pub value : IfSome result (Answers files file cut r old.view new.view out_new)
  pub none : IsNone result → (out_new ≡ out_old) × KeepsAllBut the_view old new

-- What a lookup from the microcache alone leaves: the board was read once, and the record is
-- unchanged.
pub record LeavesLocally (files : Files) (file : ℕ) (cut : Cut) (r : Lookups) (old new : PassState)
    (result : Option ℕ) : Type 0 where
  pub same : AfterLookup file old new
  pub look : AfterStep file (slice_index new.view.seen file) old.view new.view
  pub kept : IfSome result (λ generation. IsSomeAnd new.latest
      (IsLookedUp files file cut r old new generation))
  pub latest : new.latest ≡ old.latest
