-- What was answered through taps, in terms of the folder that they were given back to.
use Rattle.std.proofs.Common.{◌≡◌, ℕ, ◌+◌, ◌<◌, ◌≤◌, inr, Bool, true, false, List, Option}
use Rattle.std.proofs.Common.{[], Some, Result, Ok, Err, OnOk, length, refl, sym, ap, subst, ◌∙◌, arith}
use Rattle.std.specs.Prelude.{min, if◌then◌else◌}
use Rattle.std.proofs.lemmas.List.{append-nil}
use Rattle.tex_world.specs.Counts.{RisesByAtLeast, last_count}
use Rattle.tex_world.specs.World.{Files}
use Rattle.tex_world.specs.Folder.{FolderState}
use Rattle.command_line.specs.declared.options.RunOptions.{RunOptions}
use Rattle.command_line.specs.Invocation.{Asked}
use Rattle.request_lang.specs.declared.request.Request.{Request}
use Rattle.render_run.specs.declared.answering.Unfinished.{Unfinished}
use Rattle.render_run.specs.declared.answering.Unfinished.TheVariants.{NotWritten}
use Rattle.render_run.specs.declared.answering.Unfinished.TheVariants as unfinished
use Rattle.render_run.specs.Status as status
use Rattle.render_run.specs.Around.{SourceState, Terms, Setup, FeedState}
use Rattle.answer_page.specs.Page.{SinkState}
use Rattle.render_run.specs.Around.{source_of_folder, setup_of, progress_of, terms_for}
use Rattle.render_run.specs.Around.{around_of, inputs_of, no_sight}
use Rattle.render_run.specs.Crew.{MakesMore, TakesBack}
use Rattle.render_run.specs.RunError.{HasOptions, IsPrepared, path_in}
use Rattle.render_run.specs.Run.{Answers, Runs, MakesTaps, GivesTapsBack, IsListed}
use Rattle.render_run.specs.Written.{KeepsTaps, Leaves, LeavesTaps, list_status}

-- a count that has risen since rises at least as much from a lower one on
rises_since : (n a b c : ℕ) → a ≤ b → RisesByAtLeast n b c → RisesByAtLeast n a c
rises_since n a b c low rises = record {
  later = omega (arith, low, rises.later);
  by_n = λ below. let here = rises.by_n below in omega (arith, here);
}

-- a count of taps, taken over by their folder
rises_over : (n t1 f0 f1 : ℕ) → f0 ≤ f1 → min (f0 + t1) last_count ≤ f1
    → RisesByAtLeast n 0 t1 → RisesByAtLeast n f0 f1
rises_over n t1 f0 f1 later over rises = record {
  later = later;
  by_n = λ below.
      let short : t1 < last_count = omega (arith, over) in
      let risen = rises.by_n short in omega (arith, risen, over);
}

-- ---- what was written, in terms of another source

module _ (setup : Setup) (requests : List Request) (c0 c1 d0 d1 : SourceState)
    (faults : (n : ℕ) → RisesByAtLeast n c0.faults c1.faults
    → RisesByAtLeast n d0.faults d1.faults)
    (moves : (n : ℕ) → RisesByAtLeast n c0.moves c1.moves → RisesByAtLeast n d0.moves d1.moves)
    (s0 s1 : SinkState) where
  abbrev over : (count : ℕ) → Answers setup requests count c0 c1 → Answers setup requests count d0 d1
  over count answers = record {
    lines = answers.lines;
    met = answers.met;
    places = answers.places;
    counted = answers.counted;
    fresh = answers.fresh;
    faults = faults _ answers.faults;
    moves = moves _ answers.moves;
  }

  pub leaves_over : (r : Result Bool Unfinished)
      → Leaves setup requests (progress_of c0 s0) (progress_of c1 s1) r
      → Leaves setup requests (progress_of d0 s0) (progress_of d1 s1) r
  leaves_over (Ok refused) all = record {
    answers = over (length requests) all.answers;
    closing = all.closing;
    closes = all.closes;
    written = all.written;
    refusal = all.refusal;
  }
  leaves_over (Err NotWritten) part = record {
    count = part.count;
    answers = over part.count part.answers;
    closing = part.closing;
    closes = part.closes;
    put = part.put;
  }
  leaves_over (Err unfinished.NoMemory) rounds = record {
    count = rounds.count;
    answers = over rounds.count rounds.answers;
    whole = rounds.whole;
    written = rounds.written;
  }

-- ---- taps that came back

module _ (files : Files) (terms used : Terms) (m n workers : ℕ) (requests : List Request)
    (c0 c1 : SourceState) (f0 f1 f2 : FolderState) (none : c0 ≡ no_sight.source)
    (makes : MakesMore workers f0 f1) (back : TakesBack m c1 f1 f2) (same : terms ≡ used)
    (count : n ≡ workers) where
  -- what it is answered over
  setups : setup_of files f1 terms n ≡ setup_of files f2 used workers
  setups = rw (same, count, ← back.files.number_of) refl

  pub leaves_through : (s0 s1 : SinkState) (r : Result Bool Unfinished)
      → Leaves (setup_of files f1 terms n) requests (progress_of c0 s0) (progress_of c1 s1) r
      → Leaves (setup_of files f2 used workers) requests (progress_of (source_of_folder f0) s0)
      (progress_of (source_of_folder f2) s1) r
  leaves_through s0 s1 r leaves =
      leaves_over (setup_of files f2 used workers) requests no_sight.source c1
      (source_of_folder f0) (source_of_folder f2)
      (λ n. rises_over n c1.faults f0.faults f2.faults
      (omega (arith, makes.faults, back.faults_later))
      (omega (arith, makes.faults, back.faults)))
      (λ n. rises_over n c1.moves f0.moves f2.moves
      (omega (arith, makes.moves, back.moves_later))
      (omega (arith, makes.moves, back.moves))) s0 s1 r
      (subst (λ (c : SourceState). Leaves (setup_of files f2 used workers) requests
      (progress_of c s0) (progress_of c1 s1) r) none
      (subst (λ (s : Setup). Leaves s requests (progress_of c0 s0) (progress_of c1 s1) r) setups
      leaves))

-- as many taps were made as there are workers
pub taps_made : {A E : Type 0} (m workers : ℕ) (source : SourceState) (f0 f1 f2 : FolderState)
    → MakesMore workers f0 f1 → TakesBack m source f1 f2 → (r : Result A E)
    → OnOk r (MakesTaps workers f0 f2)
taps_made m workers source f0 f1 f2 makes back (Ok a) = record {
  later = omega (arith, makes.made.later, back.made);
  by_n = λ below. let rose = makes.made.by_n (omega (arith, back.made)) in
      omega (arith, rose, back.made);
}
taps_made m workers source f0 f1 f2 makes back (Err e) = tt

-- ---- no list was begun

-- no round was written
pub no_rounds : (setup : Setup) (requests : List Request) (f0 f1 : FolderState) (s : SinkState)
    → f0.faults ≤ f1.faults → f0.moves ≤ f1.moves
    → Leaves setup requests (progress_of (source_of_folder f0) s)
    (progress_of (source_of_folder f1) s) (Err unfinished.NoMemory)
no_rounds setup requests f0 f1 s faults moves = record {
  count = 0;
  answers = record {
    lines = [];
    met = tt;
    places = refl;
    counted = tt;
    fresh = λ i j d lt below. absurd (omega arith);
    faults = record { later = faults; by_n = λ below. omega (arith, faults) };
    moves = record { later = moves; by_n = λ below. omega (arith, moves) };
  };
  whole = record {
    rounds = 0;
    before = λ k d lt. absurd (omega arith);
    behind = λ k d lt. omega arith;
  };
  written = λ held is. is ∙ ap Some (sym (append-nil held));
}

-- a folder that made no tap
pub no_taps : (folder : FolderState) → LeavesTaps folder folder
no_taps folder = record {
  folder = record { entered = refl; mark = refl; faults = omega arith; moves = omega arith };
  back = record {
    made = omega arith;
    returned = omega arith;
    alike = λ below under. refl;
  };
}

-- ---- the top call

module _ (files : Files) (asked : Option Asked) (options : RunOptions) (f0 f1 f2 : FolderState)
    (i0 i1 : FeedState) (s0 s1 : SinkState) (requests : List Request)
    (has : HasOptions asked options)
    (prepared : IsPrepared (path_in asked) (inputs_of f0 i0) (inputs_of f1 i1) requests)
    (kept : KeepsTaps f0 f1) (taps : LeavesTaps f1 f2) where
  -- the list was prepared within the whole call
  abbrev listed : IsListed asked (around_of f0 i0 s0) (around_of f2 i1 s1)
  listed = record {
    options = options;
    asked_for = has;
    requests = requests;
    prepared = record {
      folder = record {
        has_path = prepared.folder.has_path;
        of_path = taps.folder.entered ∙ prepared.folder.of_path;
      };
      mark = λ over. prepared.mark (rw (← taps.folder.mark) over);
      listed = prepared.listed;
    };
  }

  abbrev setup : Setup
  setup = setup_of files f2 (terms_for options) options.workers

  -- what it left over the whole call
  over_all : (r : Result Bool Unfinished)
      → Leaves setup requests (progress_of (source_of_folder f1) s0)
      (progress_of (source_of_folder f2) s1) r
      → Leaves setup requests (progress_of (source_of_folder f0) s0)
      (progress_of (source_of_folder f2) s1) r
  over_all r leaves =
      leaves_over setup requests (source_of_folder f1) (source_of_folder f2)
      (source_of_folder f0) (source_of_folder f2)
      (λ n. rises_since n f0.faults f1.faults f2.faults kept.faults)
      (λ n. rises_since n f0.moves f1.moves f2.moves (omega (arith, kept.moves))) s0 s1 r leaves

  back : GivesTapsBack f0 f2
  back = record {
    made = omega (arith, taps.back.made, kept.made);
    returned = omega (arith, taps.back.returned, kept.returned);
    alike = λ below under. let alike = taps.back.alike below under in
        omega (arith, alike, kept.made, kept.returned);
  }

  -- by its answer
  pub answered_runs : (r : Result Bool Unfinished)
      → Leaves setup requests (progress_of (source_of_folder f1) s0)
      (progress_of (source_of_folder f2) s1) r
      → OnOk r (MakesTaps options.workers f1 f2)
      → (ends : ℕ) → ends ≡ list_status r
      → Runs files asked (around_of f0 i0 s0) (around_of f2 i1 s1) ends
  answered_runs (Ok refused) leaves made ends is =
      let few = status_low refused ends is in
      record {
        answered = λ low. record {
          list = listed;
          refused = refused;
          finishes = over_all (Ok refused) leaves;
          of_status = is;
          made = rw (← kept.made) made;
        };
        stopped = λ low high. absurd (omega (arith, few, low));
        cut = λ at. absurd (omega (arith, few, at));
        short = λ at. absurd (omega (arith, few, at));
        statuses = omega (arith, few);
        taps = back;
      }
    where
      status_low : (b : Bool) (ends : ℕ)
          → ends ≡ (if b then status.with_refusals else status.all_answered) → ends ≤ 1
      status_low true ends is = omega (arith, is)
      status_low false ends is = omega (arith, is)
  answered_runs (Err NotWritten) leaves made ends is =
      let part = over_all (Err NotWritten) leaves in
      record {
        answered = λ low. absurd (omega (arith, is, low));
        stopped = λ low high. absurd (omega (arith, is, high));
        cut = λ at. record {
          failed = part.put.cause;
          part = inr (record { list = listed; part = part });
        };
        short = λ at. absurd (omega (arith, is, at));
        statuses = omega (arith, is);
        taps = back;
      }
  answered_runs (Err unfinished.NoMemory) leaves made ends is = record {
    answered = λ low. absurd (omega (arith, is, low));
    stopped = λ low high. absurd (omega (arith, is, high));
    cut = λ at. absurd (omega (arith, is, at));
    short = λ at. inr (record {
      list = listed;
      rounds = over_all (Err unfinished.NoMemory) leaves;
    });
    statuses = omega (arith, is);
    taps = back;
  }
