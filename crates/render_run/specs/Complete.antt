-- When is a list answered completely, and when does no line report a failure? (docs/REQUESTS.md,
-- "Statuses")
use Rattle.std.specs.Prelude.{◌≡◌, ◌⊎◌, ℕ, ◌<◌, ◌≤◌, IsSome, List, Option, Some, Ok}
use Rattle.tex_world.specs.Counts.{last_count}
use Rattle.tex_world.specs.World.{Files}
use Rattle.command_line.specs.Invocation.{Asked}
use Rattle.request_lang.specs.Grammar.{list_of}
use Rattle.request_lang.specs.declared.request.Request.{Request}
use Rattle.render_run.specs.Status as status
use Rattle.render_run.specs.Around.{Around, FeedState}
use Rattle.render_run.specs.Reply.{Line}
use Rattle.render_run.specs.Run.{IsAnswered, read_faults, agains}

-- the count has not risen, and is not at its greatest value
pub record StaysAt (old new : ℕ) : Type 0 where
  pub same : new ≡ old
  pub short : old < last_count

-- Neither the folder nor the feed nor the sink has failed, and no newer generation was met.
pub record IsCalm (old new : Around) : Type 0 where
  pub folder : StaysAt old.folder.faults new.folder.faults
  pub moves : StaysAt old.folder.moves new.folder.moves
  pub feed : StaysAt old.feed.faults new.feed.faults
  pub sink : StaysAt old.sink.faults new.sink.faults

-- The arguments are valid, and the bytes that the feed has left are a valid list.
pub record HasAList (asked : Option Asked) (feed : FeedState) : Type 0 where
  pub words : IsSome asked
  pub bytes : List ℕ
  pub left : feed.left ≡ Some bytes
  pub requests : List Request
  pub says : list_of bytes ≡ Ok requests

-- no line reports an I/O error or a newer generation
pub record NoneFails (lines : List Line) : Type 0 where
  pub faults : read_faults lines ≡ 0
  pub moves : agains lines ≡ 0

-- The list was answered and written completely, and no line reports a failure; or memory ran out.
abbrev pub Completes : Files → Option Asked → Around → Around → ℕ → Type 0
Completes files asked old new ends =
    ((ends ≤ status.with_refusals) × ((answered : IsAnswered files asked old new ends)
    × NoneFails answered.finishes.answers.lines))
    ⊎ (ends ≡ status.no_memory)
