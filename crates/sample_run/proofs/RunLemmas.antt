-- What does the run of a made list leave?
use Rattle.std.proofs.Common.{◌≡◌, ℕ, ◌≤◌, true, List, []}
use Rattle.std.proofs.Common.{length, Some, refl, lit<}
use Rattle.std.specs.Prelude.{IsTrue}
use Rattle.tex_world.specs.Folder.{IsNewFolder}
use Rattle.sample_folder.specs.SampleFolder.{sample_folder}
use Rattle.sample_folder.specs.declared.sample_folder.SampleFolder.{SampleFolder}
use Rattle.command_line.specs.Invocation.{invocation_of}
use Rattle.request_lang.specs.Grammar.{max_list_bytes}
use Rattle.answer_page.specs.Page.{SinkState}
use Rattle.render_run.specs.Run.{Runs}
use Rattle.render_run.specs.Complete.{StaysAt, IsCalm, HasAList, Completes}
use Rattle.sample_run.specs.declared.size.Size.{Size}
use Rattle.sample_run.specs.Draw.{first_state}
use Rattle.sample_run.specs.MadeList as spec
use Rattle.sample_run.specs.Size.{IsInRange, run_words}
use Rattle.sample_run.specs.Sample.{sample_files, run_asked, sample_around, sink_with, RunsSample}
use Rattle.sample_run.proofs.ListLemmas.{requests_made, list_reads}
use Rattle.sample_run.proofs.WordsLemmas.{words_ask}

-- ---- the list

-- the words ask for a run, and the made list is a list
has_list : (s : Size) → IsInRange s → length (spec.made_list s.requests) ≤ max_list_bytes
    → HasAList (run_asked s.workers)
    (record { faults = 0; left = Some (spec.made_list s.requests) })
has_list s range short = record {
  words = words_ask s.workers range.workers.0 range.workers.1;
  bytes = spec.made_list s.requests;
  left = refl;
  requests = requests_made 0 first_state s.requests;
  says = list_reads s.requests range.requests short;
}

-- ---- the run

-- a count of 0
still : StaysAt 0 0
still = record { same = refl; short = lit< tt }

-- a sink that has failed so often
abbrev pub sink_of : ℕ → List ℕ → SinkState
sink_of faults bytes = record { faults = faults; holds = Some bytes }

-- nothing fails if the sink does not
calm : (old new : SampleFolder) (list left bytes : List ℕ)
    → IsCalm (sample_around old list (sink_with [])) (sample_around new left (sink_with bytes))
calm old new list left bytes =
    record { folder = still; moves = still; feed = still; sink = still }

-- the run of a made list over a new folder, into an empty sink that has not failed
pub ran : (s : Size) (words : List (List ℕ)) (old new : SampleFolder)
    (list left holds bytes : List ℕ)
    (before after ends : ℕ) → IsInRange s → length list ≤ max_list_bytes
    → words ≡ run_words s.workers → list ≡ spec.made_list s.requests → before ≡ 0 → holds ≡ []
    → after ≡ 0 → IsNewFolder (sample_folder old)
    → Runs sample_files (invocation_of words) (sample_around old list (sink_of before holds))
    (sample_around new left (sink_of after bytes)) ends
    → (IsTrue true → HasAList (invocation_of words) (record { faults = 0; left = Some list })
    → IsCalm (sample_around old list (sink_of before holds))
    (sample_around new left (sink_of after bytes))
    → Completes sample_files (invocation_of words) (sample_around old list (sink_of before holds))
    (sample_around new left (sink_of after bytes)) ends)
    → RunsSample s bytes ends
ran s words old new list left holds bytes before after ends range short as_words as_list none empty
    no_fault fresh runs complete =
    record {
      old = old;
      fresh = fresh;
      new = new;
      left = left;
      runs = rw (as_words, as_list, none, empty, no_fault) at runs;
      complete = (rw (as_words, as_list, none, empty, no_fault) at complete) refl
          (has_list s range (rw as_list at short))
          (calm old new (spec.made_list s.requests) left bytes);
    }
