-- What an error leaves of microcache and counts if it comes before any cell is needed.
use Rattle.std.proofs.Common.{refl, ◌∙◌, Result, Ok, Err}
use Rattle.std.specs.Prelude.{IfErr}
use Rattle.tex_world.specs.World.{Files}
use Rattle.tex_world.specs.Tap.{TapState}
use Rattle.gen_board.specs.View.{ViewState}
use Rattle.file_table.specs.Record.{RecordState}
use Rattle.tile_source.specs.declared.error.CacheError.{CacheError}
use Rattle.tile_source.specs.declared.error.CacheError.TheVariants as refused
use Rattle.tile_source.specs.Pass.{PassState}
use Rattle.tile_source.specs.Pass.{KeepsAllBut, view_and_record}
use Rattle.image_cache.specs.Call.{KeepsRecent}
use Rattle.tile_source.specs.Cause.{FetchCause}
use Rattle.image_cache.specs.Cause.{KeepsRecentAt}

-- a call that leaves all but the record leaves them
pub recent_of : (old new : PassState) → KeepsAllBut view_and_record old new → KeepsRecent old new
recent_of old new kept = record { recent = kept.tiles.recent; counts = kept.counts }

pub recent_same : (pass : PassState) → KeepsRecent pass pass
recent_same pass = record { recent = refl; counts = record { needs = refl; hits = refl; apart = refl } }

chain : (a b c d : PassState) → KeepsRecent a b → KeepsRecent b c → KeepsRecent c d
    → KeepsRecent a d
chain a b c d first next last = record {
  recent = last.recent ∙ (next.recent ∙ first.recent);
  counts = record {
    needs = last.counts.needs ∙ (next.counts.needs ∙ first.counts.needs);
    hits = last.counts.hits ∙ (next.counts.hits ∙ first.counts.hits);
    apart = last.counts.apart ∙ (next.counts.apart ∙ first.counts.apart);
  };
}

module _ {B : Type 0} where
  -- microcache and counts are unchanged, for each error
  pub at_kept : (e : CacheError B) (old new : PassState) → KeepsRecent old new
      → KeepsRecentAt old new e
  at_kept (refused.Again from to) old new kept = tt
  at_kept refused.ReadFault old new kept = tt
  at_kept refused.NoMemory old new kept = tt
  at_kept (refused.Busy b) old new kept = tt
  at_kept (refused.BadFile generation fault) old new kept = kept
  at_kept (refused.TileTooLarge generation) old new kept = kept
  at_kept (refused.NoLevel generation levels) old new kept = kept
  at_kept (refused.Outside generation) old new kept = kept
  at_kept refused.RegionTooLarge old new kept = kept
  at_kept refused.HoldsFull old new kept = kept

  -- an error of a cell may change microcache and counts
  pub at_fetch : (e : CacheError B) (old new : PassState) (files : Files) (r : RecordState)
      (view : ViewState) (t u : TapState) → FetchCause files r view t u e
      → KeepsRecentAt old new e
  at_fetch (refused.Again from to) old new files r view t u cause = tt
  at_fetch refused.ReadFault old new files r view t u cause = tt
  at_fetch refused.NoMemory old new files r view t u cause = tt
  at_fetch (refused.Busy b) old new files r view t u cause = tt
  at_fetch (refused.BadFile generation fault) old new files r view t u none = absurd none
  at_fetch (refused.TileTooLarge generation) old new files r view t u none = absurd none
  at_fetch (refused.NoLevel generation levels) old new files r view t u none = absurd none
  at_fetch (refused.Outside generation) old new files r view t u none = absurd none
  at_fetch refused.RegionTooLarge old new files r view t u none = absurd none
  at_fetch refused.HoldsFull old new files r view t u none = absurd none

  -- if only the record changed before and after it
  pub at_between : (e : CacheError B) (a b c d : PassState) → KeepsRecent a b → KeepsRecent c d
      → KeepsRecentAt b c e → KeepsRecentAt a d e
  at_between (refused.Again from to) a b c d first last free = tt
  at_between refused.ReadFault a b c d first last free = tt
  at_between refused.NoMemory a b c d first last free = tt
  at_between (refused.Busy x) a b c d first last free = tt
  at_between (refused.BadFile generation fault) a b c d first last kept =
      chain a b c d first kept last
  at_between (refused.TileTooLarge generation) a b c d first last kept =
      chain a b c d first kept last
  at_between (refused.NoLevel generation levels) a b c d first last kept =
      chain a b c d first kept last
  at_between (refused.Outside generation) a b c d first last kept =
      chain a b c d first kept last
  at_between refused.RegionTooLarge a b c d first last kept = chain a b c d first kept last
  at_between refused.HoldsFull a b c d first last kept = chain a b c d first kept last

  -- ---- of an answer

  module _ {A : Type 0} (result : Result A (CacheError B)) where
    pub unread_kept : (old new : PassState) → KeepsRecent old new
        → IfErr result (KeepsRecentAt old new)
    unread_kept old new kept = by result
      where
        by : (r : Result A (CacheError B)) → IfErr r (KeepsRecentAt old new)
        by (Ok x) = tt
        by (Err e) = at_kept e old new kept

    pub unread_between : (a b c d : PassState) → KeepsRecent a b → KeepsRecent c d
        → IfErr result (KeepsRecentAt b c) → IfErr result (KeepsRecentAt a d)
    unread_between a b c d first last kept = by result kept
      where
        by : (r : Result A (CacheError B)) → IfErr r (KeepsRecentAt b c)
            → IfErr r (KeepsRecentAt a d)
        by (Ok x) kept = tt
        by (Err e) kept = at_between e a b c d first last kept
