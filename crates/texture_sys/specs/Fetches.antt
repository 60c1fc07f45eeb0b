-- What does a lookup from the microcache alone leave, texel by texel?
use Rattle.std.specs.Prelude.{◌≡◌, ℕ, true, false, Option, Some, IfOk}
use Rattle.file_table.specs.Record.{RecordState}
use Rattle.texel_filter.specs.Image.{Texel}
use Rattle.tile_source.specs.Pass.{PassState, counted}
use Rattle.tile_source.specs.Texel.{has_cell_at, cell_of}
use Rattle.image_cache.specs.Fetches.{at_of}

-- The state of such a lookup: the pass, how many texels were read, and the key of the last one's
-- cell.
pub record Walk : Type 0 where
  pub pass : PassState
  pub reads : ℕ
  pub latest : Option ℕ

abbrev pub walk_of : PassState → ℕ → Option ℕ → Walk
walk_of pass reads latest = record { pass = pass; reads = reads; latest = latest }

-- A texel was read from its cell in the microcache. The pass did not change.
pub record ShowsTexel (state : RecordState) (old : Walk) (texel : Texel) (new : Walk) : Type 0 where
  pub had : has_cell_at state (at_of texel) old.pass.pinned.recent ≡ true
  pub same : new.pass ≡ old.pass
  pub read : new.reads ≡ counted old.reads
  pub turned : IfOk state.layout (λ kept. new.latest
      ≡ Some (cell_of state.generation state.file state.cut kept (at_of texel)).key)

-- A texel was not read, because the microcache lacks its cell.
pub record LacksTexel {E : Type 0} (state : RecordState) (old : Walk) (texel : Texel) (e : E)
    (new : Walk) : Type 0 where
  pub lacks : has_cell_at state (at_of texel) old.pass.pinned.recent ≡ false
  pub same : new.pass ≡ old.pass
