-- How do contracts see the workers of a run, each with its pass, its tap and its answers of a
-- round?
use Rattle.std.specs.Prelude.{◌≡◌, ℕ, ◌*◌, ◌<◌, ◌≤◌, List, [], ◌∷◌, ◌++◌, map}
use Rattle.std.specs.Prelude.{vec_capacity, ⊤}
use Rattle.std.specs.List.{All, remove}
use Rattle.tex_world.specs.World.{Files, IsFile}
use Rattle.tex_world.specs.Tap.{TapState, IsNew}
use Rattle.tile_store.specs.Tile.{CachedTile}
use Rattle.tile_source.specs.Pass.{CacheState, PassState}
use Rattle.image_cache.specs.Caller.{CallerState}
use Rattle.request_lang.specs.declared.answer.Answer.{Answer}
use Rattle.render_run.specs.declared.question.Task.{Task}
use Rattle.render_run.specs.declared.question.Task.TheVariants.{Release}
use Rattle.render_run.specs.declared.round.Post.{Post}
use Rattle.request_lang.specs.declared.closing.Counts.{Counts}
use Rattle.render_run.specs.Around.{Sight, Progress, sight_of, terms_of, counts_of}
use Rattle.answer_page.specs.Page.{SinkState}
use Rattle.render_run.specs.Around.{progress_of, source_of_crew}
use Rattle.render_run.specs.Answering.{AnswersTask}
use Rattle.render_run.specs.Crew.{IsNewPost}

-- A worker may be asked about a file: the file belongs to its cache and to the world.
pub record MayAnswer (files : Files) (cache : CacheState) (file : ℕ) : Type 0 where
  pub few : file < cache.files.board.files
  pub real : IsFile files file

-- A worker that is to release a hold releases its oldest one, if it has any.
abbrev pub LetsGo : Task → List CachedTile → List CachedTile → Type 0
LetsGo Release old new = new ≡ remove old 0
LetsGo _ old new = ⊤

module _ {T : Type 0} (state : T → TapState) where
  -- the state of a worker, given by its caller of the cache
  abbrev pub sight : CallerState T → Sight
  sight caller = sight_of caller.pass (state caller.tap)

  -- A worker answered its task. Its cache is the same, and it released its oldest hold if it was to
  -- release one.
  pub record WorkerAnswers (files : Files) (task : Task) (old new : CallerState T) (line : Answer)
      : Type 0 where
    pub answer : AnswersTask files (terms_of old.cache.gate) task (sight old) (sight new) line
    pub cache : new.cache ≡ old.cache
    pub oldest : LetsGo task old.pass.pinned.holds new.pass.pinned.holds

-- ---- all workers

module _ {R T W H : Type 0} (state : T → TapState) where
  -- the state of each worker
  abbrev pub sights_of : List (Post R T W H) → List Sight
  sights_of posts = map (λ post. sight state post.caller) posts

  -- the state of answering: the source made of the workers' taps, and this sink
  abbrev pub progress_by : List (Post R T W H) → SinkState → Progress
  progress_by posts sink = progress_of (source_of_crew (sights_of posts)) sink

  -- Each worker is new: it has this cache, an empty pass, and a tap that has done nothing.
  abbrev pub AreNew : CacheState → List (Post R T W H) → Type 0
  AreNew cache posts = All (λ post. (post.caller.cache ≡ cache)
      × IsNewPost post.caller.pass (state post.caller.tap)) posts

  -- One worker was added at the end, with this cache, this pass and a new tap.
  pub record AddsPost (cache : CacheState) (pass : PassState) (old new : List (Post R T W H))
      : Type 0 where
    pub post : Post R T W H
    pub all : new ≡ old ++ post ∷ []
    pub of : post.caller.cache ≡ cache
    pub has : post.caller.pass ≡ pass
    pub unused : IsNew (state post.caller.tap)

module _ {R T W H : Type 0} where
  -- the answers of each worker in a round
  abbrev pub answers_of : List (Post R T W H) → List (List Answer)
  answers_of posts = map (λ post. post.answers.items) posts

  -- the counts of each worker
  abbrev pub all_counts : List (Post R T W H) → List Counts
  all_counts posts = map (λ post. counts_of post.caller.pass) posts

  -- each worker is a caller of this cache
  abbrev pub AreCallersOf : CacheState → List (Post R T W H) → Type 0
  AreCallersOf cache posts = All (λ post. post.caller.cache ≡ cache) posts

  -- If there is only one worker, it has the permits of this pass.
  abbrev pub HasPermitsAlone : ℕ → PassState → List (Post R T W H) → Type 0
  HasPermitsAlone workers pass posts = workers ≡ 1
      → All (λ post. post.caller.pass.pinned.seat.permits ≡ pass.pinned.seat.permits) posts

  -- Each worker has memory for its answers to this many requests, which n workers take in turn, and
  -- has none yet.
  abbrev pub HaveRoom : ℕ → ℕ → List (Post R T W H) → Type 0
  HaveRoom n count posts =
      All (λ post. (post.answers.items ≡ []) × (count ≤ n * vec_capacity post.answers)) posts
