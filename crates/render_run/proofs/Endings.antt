-- What an ending whose text was written says of the top call.
use Rattle.std.proofs.Common.{◌≤◌, inl, inr, ℕ, Option, sym, arith}
use Rattle.command_line.specs.Invocation.{Asked}
use Rattle.std.specs.Prelude.{IsTrue}
use Rattle.tex_world.specs.World.{Files}
use Rattle.render_run.specs.declared.prepare.RunError.{RunError}
use Rattle.render_run.specs.declared.prepare.RunError.TheVariants.{BadWords, FolderFault}
use Rattle.render_run.specs.declared.prepare.RunError.TheVariants.{TooManyFiles, ListFault, NotAList}
use Rattle.render_run.specs.declared.prepare.RunError.TheVariants.{NoMemory}
use Rattle.render_run.specs.Status.{bad_words, input_fault}
use Rattle.render_run.specs.Around.{Around}
use Rattle.render_run.specs.RunError.{IsEnded, path_in, status_of, ending_text}
use Rattle.render_run.specs.Written.{StatusWritten, LacksMemory, EndedAs}
use Rattle.render_run.specs.Run.{inputs_in, GivesTapsBack, Runs}

module _ (files : Files) (asked : Option Asked) (old new : Around) (ends : ℕ)
    (taps : GivesTapsBack old.folder new.folder) where
  -- the text was written with its status, or the sink failed
  written : (ending : RunError) → IsEnded files (path_in asked) (inputs_in old) (inputs_in new) ending
      → bad_words ≤ status_of ending → status_of ending ≤ input_fault
      → StatusWritten (ending_text ending) (status_of ending) old.sink new.sink ends
      → Runs files asked old new ends
  written ending ended low high (inl text) = record {
    answered = λ few. absurd (omega (arith, text.as_wanted));
    stopped = λ least most. record {
      ending = ending;
      of_status = sym text.as_wanted;
      ended = ended;
      written = text.all;
    };
    cut = λ is. absurd (omega (arith, text.as_wanted));
    short = λ is. absurd (omega (arith, text.as_wanted));
    statuses = omega (arith, text.as_wanted);
    taps = taps;
  }
  written ending ended low high (inr failed) = record {
    answered = λ few. absurd (omega (arith, failed.as_failed));
    stopped = λ least most. absurd (omega (arith, failed.as_failed));
    cut = λ is. record {
      failed = failed.put.cause;
      part = inl (record { ending = ending; ended = ended; part = failed.put.part });
    };
    short = λ is. absurd (omega (arith, failed.as_failed));
    statuses = omega (arith, failed.as_failed);
    taps = taps;
  }

  -- out of memory, and nothing was written
  lacking : (IsTrue new.folder.over → IsTrue old.folder.over) → LacksMemory old.sink new.sink ends
      → Runs files asked old new ends
  lacking mark lacks = record {
    answered = λ few. absurd (omega (arith, lacks.as_lacking));
    stopped = λ least most. absurd (omega (arith, lacks.as_lacking));
    cut = λ is. absurd (omega (arith, lacks.as_lacking));
    short = λ is. inl (record { sink = lacks.same; mark = mark });
    statuses = omega (arith, lacks.as_lacking);
    taps = taps;
  }

  -- each ending
  pub ended_runs : (ending : RunError) → IsEnded files (path_in asked) (inputs_in old) (inputs_in new) ending
      → EndedAs ending old.sink new.sink ends → Runs files asked old new ends
  ended_runs NoMemory ended lacks = lacking ended.mark lacks
  ended_runs (NotAList bad) ended (inl text) =
      written (NotAList bad) ended (omega arith) (omega arith) text
  ended_runs (NotAList bad) ended (inr lacks) = lacking (λ over. absurd (ended.mark over)) lacks
  ended_runs BadWords ended text = written BadWords ended (omega arith) (omega arith) text
  ended_runs FolderFault ended text = written FolderFault ended (omega arith) (omega arith) text
  ended_runs TooManyFiles ended text = written TooManyFiles ended (omega arith) (omega arith) text
  ended_runs ListFault ended text = written ListFault ended (omega arith) (omega arith) text
