-- What does a worker count for an answer, and what has it counted by its lines so far?
use Rattle.std.specs.Prelude.{◌≡◌, ℕ, ◌≤◌, min, IsTrue, List, [], Bool, true, false, length}
use Rattle.std.specs.Prelude.{count_by}
use Rattle.tex_world.specs.World.{Files}
use Rattle.tiff_format.specs.declared.cut.Cut.{Cut}
use Rattle.micro.specs.Items.{AreItems}
use Rattle.micro.specs.Recent.{AreRecent}
use Rattle.micro.specs.Runs.{AreAsked}
use Rattle.pinned_tiles.specs.Pinned.{key_in}
use Rattle.texel_values.specs.Region.{max_texels}
use Rattle.tile_source.specs.Pass.{max_count, counted_together}
use Rattle.request_lang.specs.declared.answer.Answer.{Answer}
use Rattle.request_lang.specs.Basis.{basis_of}
use Rattle.render_run.specs.declared.question.Task.{Task}
use Rattle.render_run.specs.Around.{Tally}
use Rattle.render_run.specs.Needed.{AreNeeded, empties, is_calm}
use Rattle.render_run.specs.Reply.{Line}
use Rattle.render_run.specs.Counted.{needs_by, hits_by, needed_by, AreCalm}

-- ---- for an answer

-- The counts are possible ones.
pub record IsLow (t : Tally) : Type 0 where
  pub needs : t.needs ≤ max_count
  pub hits : t.hits ≤ max_count

-- These cells were needed, one after another, and each one that the microcache had is a hit.
pub record Asks (keys : List ℕ) (old new : Tally) : Type 0 where
  pub answers : List Bool
  pub asked : AreAsked key_in old.recent keys answers new.recent
  pub needs : new.needs ≡ counted_together old.needs (length keys)
  pub hits : new.hits ≡ counted_together old.hits (count_by (λ hit. hit) answers)

-- The microcache was emptied, and nothing was counted.
pub record IsEmptied (old new : Tally) : Type 0 where
  pub recent : new.recent ≡ []
  pub needs : new.needs ≡ old.needs
  pub hits : new.hits ≡ old.hits

-- one of these: if the microcache was emptied, no cell was needed
abbrev pub TalliesAs : Bool → List ℕ → Tally → Tally → Type 0
TalliesAs true keys old new = (keys ≡ []) × IsEmptied old new
TalliesAs false keys old new = Asks keys old new

-- What a worker counts for an answer: the cells that it needed, which are at most as many as a
-- region may have texels. If it failed, or a need was uncached, at least these.
pub record TalliesAnswer (files : Files) (cut : Cut) (task : Task) (old new : Tally) (line : Answer)
    : Type 0 where
  pub needed : List ℕ
  pub are : AreNeeded files cut task line needed
  pub few : length needed ≤ max_texels
  pub least : counted_together old.needs (length needed) ≤ new.needs
  pub later : old.apart ≤ new.apart
  pub counts : IsTrue files.tells → IsTrue (is_calm (basis_of line)) → new.apart ≡ 0 → IsLow old
      → TalliesAs (empties line) needed old new

-- ---- by its lines

-- The counts are those that its lines show, or are at their greatest value. Its microcache has the
-- cells that it needed last.
pub record IsExactly (w : ℕ) (lines : List Line) (t : Tally) : Type 0 where
  pub needs : t.needs ≡ min (needs_by w lines) max_count
  pub hits : t.hits ≡ min (hits_by w lines) max_count
  pub items : AreItems key_in t.recent
  pub latest : AreRecent key_in (needed_by w lines).since t.recent

-- What a worker has counted in a modelled world: at least what its answers needed, and exactly what
-- its lines show if none of them failed and no need was uncached.
pub record IsTallied (files : Files) (w : ℕ) (lines : List Line) (t : Tally) : Type 0 where
  pub least : min (needs_by w lines) max_count ≤ t.needs
  pub exact : IsTrue files.tells → AreCalm w lines → t.apart ≡ 0 → IsExactly w lines t
