-- What does a worker leave that asks nothing of the cache, or asks of the file of a tile?
use Rattle.std.proofs.Common.{◌≡◌, ◌+◌, ℕ, [], Some, None, inl, false, length, refl, ap, arith}
use Rattle.tex_world.specs.World.{Files}
use Rattle.tex_world.specs.Tap.{TapState}
use Rattle.image_cache.specs.Caller.{CallerState}
use Rattle.request_lang.specs.declared.answer.Answer.{Answer}
use Rattle.request_lang.specs.declared.answer.Answer.TheVariants.{NoSuchFile, Synced, NoMemory}
use Rattle.request_lang.specs.Basis.{basis_of}
use Rattle.render_run.specs.declared.question.Question.{Question}
use Rattle.render_run.specs.declared.question.Task.{Task}
use Rattle.render_run.specs.declared.question.Task.TheVariants.{Ask, Tile, Sync, Unnamed}
use Rattle.render_run.specs.Around.{Sight, tally_of, terms_of}
use Rattle.render_run.specs.Question.{file_in}
use Rattle.render_run.specs.Held.{one_if, is_hold, is_drop}
use Rattle.render_run.specs.Needed.{AreNeeded, empties}
use Rattle.render_run.specs.Pins.{shards_in}
use Rattle.render_run.specs.Reply.{MeetsTask}
use Rattle.render_run.specs.Answering.{AfterAnswer, HasCause}
use Rattle.render_run.specs.Posts.{LetsGo, WorkerAnswers, sight}
use Rattle.render_run.proofs.NeedLemmas.{keeps_tally, tile_tally}

-- nothing was seen and nothing held
idle_after : (line : Answer) (s : Sight) → is_drop line ≡ is_hold line
    → HasCause s.source s.source (basis_of line) → AfterAnswer None s s line
idle_after line s same cause = record {
  later = λ n. omega arith;
  permits = refl;
  fresh = λ n is. absurd cc;
  holds = ap (λ b. s.holds + one_if b) same;
  cause = cause;
  counts = record { faults = omega arith; moves = omega arith };
}

module _ {T : Type 0} (state : T → TapState) (files : Files) (w : CallerState T) where
  -- a task that asks nothing
  idle_answers : (task : Task) (line : Answer) → file_in task ≡ None
      → MeetsTask files (terms_of w.cache.gate) (length w.pass.pinned.holds) task line
      → is_drop line ≡ is_hold line
      → HasCause (sight state w).source (sight state w).source (basis_of line)
      → AreNeeded files w.cache.gate.cut task line [] → empties line ≡ false
      → LetsGo task w.pass.pinned.holds w.pass.pinned.holds → shards_in line ≡ None
      → WorkerAnswers state files task w w line
  idle_answers task line none meets same cause needed full oldest no_shards = record {
    answer = record {
      meets = meets;
      pins = λ shards is. absurd (cc (no_shards, is));
      after = rw none (idle_after line (sight state w) same cause);
      tallies = keeps_tally files w.cache.gate.cut task (tally_of w.pass) (tally_of w.pass) line
          needed refl refl refl refl full;
    };
    cache = refl;
    oldest = oldest;
  }

  -- a question to no file
  pub none_found : (q : Question) → WorkerAnswers state files (Ask None q) w w NoSuchFile
  none_found q = idle_answers (Ask None q) NoSuchFile refl refl refl tt refl refl tt refl

  -- no file for a UDIM tile
  pub no_tile_found : (q : Question) → WorkerAnswers state files (Tile None q) w w NoSuchFile
  no_tile_found q = idle_answers (Tile None q) NoSuchFile refl (inl refl) refl tt refl refl tt refl

  -- the end of a round
  pub synced : WorkerAnswers state files Sync w w Synced
  synced = idle_answers Sync Synced refl refl refl tt refl refl tt refl

  -- out of memory for the name of a UDIM tile
  pub unnamed : WorkerAnswers state files Unnamed w w NoMemory
  unnamed = idle_answers Unnamed NoMemory refl refl refl tt refl refl tt refl

-- a question to the file of a tile is one to any file
pub in_tile : {T : Type 0} (state : T → TapState) (files : Files) (n : ℕ) (q : Question)
    (old new : CallerState T) (line : Answer)
    → WorkerAnswers state files (Ask (Some n) q) old new line
    → WorkerAnswers state files (Tile (Some n) q) old new line
in_tile state files n q old new line a = record {
  answer = record {
    meets = a.answer.meets;
    pins = a.answer.pins;
    after = a.answer.after;
    tallies = tile_tally files old.cache.gate.cut n q (tally_of old.pass) (tally_of new.pass) line
        a.answer.tallies;
  };
  cache = a.cache;
  oldest = a.oldest;
}
