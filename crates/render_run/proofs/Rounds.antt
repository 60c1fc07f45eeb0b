-- One round more is answered and written.
use Rattle.std.proofs.Common.{◌≡◌, ℕ, ◌+◌, ◌*◌, ◌%◌, ◌<◌, ◌≤◌, min, Bool, true, false, List, [], ◌∷◌, ◌++◌}
use Rattle.std.proofs.Common.{eqb, nat_lt, inl, inr, length, map, take, drop, get_or, Some, refl, sym, ap}
use Rattle.std.proofs.Common.{subst, ◌∙◌, append_assoc, count_by, if◌then◌else◌, arith}
use Rattle.std.specs.List.{All, flat_map}
use Rattle.std.proofs.Math.Seq.{take-add, take-append_seam, drop-append_seam}
use Rattle.std.proofs.lemmas.List.{append-nil, map-append, length-map, length-append, length-take}
use Rattle.std.proofs.lemmas.List.{length-drop, drop-drop}
use Rattle.std.proofs.lemmas.List.Concat.{flat_map-append}
use Rattle.std.proofs.lemmas.List.Elements.{All-append, All-map}
use Rattle.std.proofs.lemmas.List.FromFn.{length-map-range_with_len}
use Rattle.std.proofs.lemmas.List.Folds.{flat_map-map}
use Rattle.std.proofs.lemmas.List.{get_or-map}
use Rattle.std.proofs.lemmas.List.Sums.{sum_by_push, sum_by-append, sum_by-cons, sum_by-le, sum_by-le-sum_by}
use Rattle.tex_world.specs.Tap.{TapState}
use Rattle.texel_values.specs.Region.{max_texels}
use Rattle.tile_source.specs.Pass.{max_count}
use Rattle.request_lang.specs.declared.closing.Counts.{Counts}
use Rattle.request_lang.specs.Closing.{closing_lines}
use Rattle.request_lang.specs.Grammar.{max_requests}
use Rattle.request_lang.specs.declared.request.Request.{Request}
use Rattle.request_lang.specs.declared.answer.Answer.{Answer}
use Rattle.request_lang.specs.Basis.{is_refusal}
use Rattle.request_lang.specs.Line.{line_of}
use Rattle.tex_world.specs.Stream.{Appends}
use Rattle.tex_world.specs.World.{Files}
use Rattle.tex_world.specs.Folder.{FolderState}
use Rattle.render_run.specs.declared.round.Post.{Post}
use Rattle.render_run.specs.Around.{SourceState, Sight, Progress, Setup, Terms}
use Rattle.answer_page.specs.Page.{SinkState, Passes, PutsPart, outgoing_of}
use Rattle.render_run.specs.Around.{progress_of, setup_of, source_of_crew, sight_at, no_sight}
use Rattle.render_run.specs.Around.{counts_of}
use Rattle.render_run.specs.Crew.{AnswersRound, AreIdle, SeeNoLess}
use Rattle.render_run.specs.Posts.{all_counts, progress_by, sight, sights_of}
use Rattle.render_run.specs.Dealing.{Place, place, fresh_round, places_from, places_of}
use Rattle.render_run.specs.Dealing.{round_places, IsRound, AreWholeRounds}
use Rattle.render_run.specs.Reply.{Line}
use Rattle.render_run.specs.Held.{one_if}
use Rattle.render_run.specs.Counted.{needs_by, hits_by, AreCountsOf, no_counts}
use Rattle.render_run.specs.Run.{Answers, Closes, Finishes, PartWritten, RoundsWritten}
use Rattle.render_run.specs.Run.{lines_text, refusals}
use Rattle.render_run.specs.Answering.{AreInTurn, HasAllAlone, SoFar, answers_text, in_turn}
use Rattle.render_run.proofs.DealingLemmas.{later_rounds}
use Rattle.answer_page.proofs.Passing.{none_passed, passes_more, passes_part, rest_part}
use Rattle.render_run.proofs.TallyLemmas.{none_tallied}
use Rattle.render_run.proofs.CrewLemmas.{one_of}
use Rattle.render_run.proofs.OneMore.{placed, round_more, placed_places, placed_answers}
use Rattle.render_run.proofs.OneMore.{placed_rounds, Turns, lines_carried, lines_kept, lines_own}

-- before the first round
pub none_yet : (setup : Setup) (requests : List Request) (crew : List Sight) (old : Progress)
    → length crew ≡ setup.workers → AreIdle crew → HasAllAlone setup.terms.passes crew
    → source_of_crew crew ≡ old.source → SoFar setup requests 0 crew old old [] 0
none_yet setup requests crew old count idle alone from = record {
  lines = [];
  round = 0;
  so_far = record {
    met = tt;
    fresh = λ i j d lt below. absurd (omega arith);
    counted = tt;
    workers = count;
    permits = alone;
    holds = λ w low. rw (idle w).holds refl;
    tallied = λ w low. none_tallied setup.files w (sight_at crew w).tally (idle w).tally;
    pins = λ w low tells none. tt;
    of_crew = λ k d lt. absurd (omega arith);
    few = λ k d lt. absurd (omega arith);
    faults = record {
      later = omega (arith, ap (λ (s : SourceState). s.faults) from);
      by_n = λ below. omega (arith, ap (λ (s : SourceState). s.faults) from);
    };
    moves = record {
      later = omega (arith, ap (λ (s : SourceState). s.moves) from);
      by_n = λ below. omega (arith, ap (λ (s : SourceState). s.moves) from);
    };
    seen = λ k d lt. absurd (omega arith);
  };
  places = refl;
  rounds = λ k d lt. absurd (omega arith);
  count = refl;
  written = none_passed (outgoing_of [] old.sink);
  refusal = refl;
}

-- the text of answers with one more
pub text_more : (front : List Answer) (a : Answer)
    → answers_text (front ++ a ∷ []) ≡ answers_text front ++ line_of a
text_more front a =
    flat_map-append line_of front (a ∷ [])
    ∙ ap (λ (t : List ℕ). answers_text front ++ t) (append-nil (line_of a))

-- the number of refusals, with one more answer
pub count_more : (front : List Answer) (a : Answer)
    → count_by is_refusal (front ++ a ∷ []) ≡ count_by is_refusal front + one_if (is_refusal a)
count_more front a = sum_by_push (λ (x : Answer). one_if (is_refusal x)) front a

-- a count of what a function gives
count_map : {X Y : Type 0} (p : Y → Bool) (f : X → Y) (xs : List X)
    → count_by (λ x. p (f x)) xs ≡ count_by p (map f xs)
count_map p f [] = refl
count_map p f (x ∷ xs) =
    omega (
      arith,
      sum_by-cons (λ y. one_if (p (f y))) x xs,
      sum_by-cons (λ y. one_if (p y)) (f x) (map f xs),
      count_map p f xs,
    )

module _ (setup : Setup) (round : ℕ) (rs : List Request) (answers : List Answer)
    (before after : List Sight) (turns : Turns setup round 0 rs answers before after) where
  -- the text of the lines of a round
  more_text : lines_text (placed setup round 0 rs answers before after turns) ≡ answers_text answers
  more_text =
      sym (flat_map-map line_of (λ (l : Line). l.answer) (placed setup round 0 rs answers before after turns))
      ∙ ap (flat_map line_of) (placed_answers setup round 0 rs answers before after turns)

  -- the number of refusals among these lines
  more_refused : refusals (placed setup round 0 rs answers before after turns) ≡ count_by is_refusal answers
  more_refused =
      count_map is_refusal (λ (l : Line). l.answer) (placed setup round 0 rs answers before after turns)
      ∙ ap (count_by is_refusal) (placed_answers setup round 0 rs answers before after turns)

  -- how many there are
  more_count : length (placed setup round 0 rs answers before after turns) ≡ length rs
  more_count =
      sym (length-map (placed setup round 0 rs answers before after turns) (λ (l : Line). l.place))
      ∙ ap length (placed_places setup round 0 rs answers before after turns)
      ∙ length-map-range_with_len (λ k. place round (k % setup.workers)) 0 (length rs)

-- a fact of a round with these numbers of workers and requests
pub round_at : (files : Files) (folder : FolderState) (terms : Terms) (m n a count : ℕ)
    (requests : List Request) (lists : List (List Answer)) (known after : List Sight) → m ≡ n
    → a ≡ count
    → AnswersRound (setup_of files folder terms m) (take a requests) lists known after
    → AnswersRound (setup_of files folder terms n) (take count requests) lists known after
round_at files folder terms m n a count requests lists known after crew size round =
    subst (λ (k : ℕ). AnswersRound (setup_of files folder terms k) (take count requests) lists
    known after) crew
    (subst (λ (k : ℕ). AnswersRound (setup_of files folder terms m) (take k requests) lists known
    after) size round)

-- the number of requests in a round
round_long : (done count : ℕ) (requests : List Request) → done + count ≤ length requests
    → length (take count (drop done requests)) ≡ count
round_long done count requests within =
    omega (arith, length-take count (drop done requests), length-drop done requests, within)

-- each answer of a round is there
pub there_at : (setup : Setup) (done count n : ℕ) (requests : List Request)
    (lists : List (List Answer)) (known after : List Sight) → done + count ≤ length requests
    → n ≡ setup.workers
    → AnswersRound setup (take count (drop done requests)) lists known after
    → AreInTurn n count lists
there_at setup done count n requests lists known after within crew round =
    rw crew (subst (λ (k : ℕ). AreInTurn setup.workers k lists)
    (round_long done count requests within) round.there)

module _ (setup : Setup) (requests : List Request) (done count n : ℕ) (known after : List Sight)
    (old mid new : Progress) (p1 p2 : List ℕ) (refused said both : ℕ)
    (lists : List (List Answer)) (some : 0 < setup.workers) (crew : n ≡ setup.workers)
    (round_is : AnswersRound setup (take count (drop done requests)) lists known after) where
  -- one round more
  pub rounds_more : SoFar setup requests done known old mid p1 refused
      → IsRound (drop done requests) count → done + count ≤ length requests
      → Passes (answers_text (in_turn n 0 count lists)) (outgoing_of p1 mid.sink)
      (outgoing_of p2 new.sink)
      → said ≡ count_by is_refusal (in_turn n 0 count lists) → both ≡ refused + said
      → SoFar setup requests (done + count) after old new p2 both
  rounds_more so_far is_round within passes told either =
      let rs = take count (drop done requests) in
      let long : length rs ≡ count = round_long done count requests within in
      let before = round_is.before in
      let answers = in_turn n 0 count lists in
      let same : in_turn setup.workers 0 (length rs) lists ≡ answers = rw (crew, long) refl in
      let turns : Turns setup so_far.round 0 rs answers before after =
      subst (λ (xs : List Answer). Turns setup so_far.round 0 rs xs before after) same
      round_is.turns in
      let lines = so_far.lines in
      let round = so_far.round in
      let more = placed setup round 0 rs answers before after turns in
      let w = setup.workers in
      let next = fresh_round (round + 1) in
      let total : length lines ≡ done = so_far.count in
      record {
        lines = lines ++ more;
        round = round + 1;
        so_far =
            rw (take-add done count requests)
            (lines_own setup (take done requests ++ rs) old.source round after (lines ++ more)
            (round_more setup round old.source (take done requests) lines 0 rs answers before
            after some (lines_carried setup (take done requests) old.source lines known before
            round so_far.so_far round_is.carried) turns));
        places =
            so_far.places
            ∙ ap (λ (ps : List Place). map (λ (l : Line). l.place) lines ++ ps)
            (is_round w round
            ∙ ap (λ (ps : List Place). ps ++ places_from w next (drop count (drop done requests)))
            (ap (λ (n : ℕ). round_places w round n) (sym long)
            ∙ sym (placed_places setup round 0 rs answers before after turns))
            ∙ ap (λ (left : List Request).
            map (λ (l : Line). l.place) more ++ places_from w next left)
            (drop-drop count done requests))
            ∙ sym (append_assoc (map (λ (l : Line). l.place) lines)
            (map (λ (l : Line). l.place) more)
            (places_from w next (drop (done + count) requests)))
            ∙ ap (λ (ps : List Place). ps ++ places_from w next (drop (done + count) requests))
            (sym (map-append (λ (l : Line). l.place) lines more));
        rounds =
            All-append (λ (l : Line). l.place.round < round + 1) lines more
            (λ k d lt. let below = so_far.rounds k d lt in omega (arith, below))
            (placed_rounds setup round 0 rs answers before after turns);
        count =
            omega (
              arith,
              length-append lines more,
              total,
              more_count setup round rs answers before after turns,
              long,
            );
        written =
            rw (
              flat_map-append (λ (l : Line). line_of l.answer) lines more,
              more_text setup round rs answers before after turns,
            )
            (passes_more (lines_text lines) (answers_text answers) (outgoing_of [] old.sink)
            (outgoing_of p1 mid.sink) (outgoing_of p2 new.sink) so_far.written passes);
        refusal =
            either ∙ rw (so_far.refusal, told)
            (sym (sum_by-append (λ (l : Line). one_if (is_refusal l.answer)) lines more
            ∙ ap (λ (n : ℕ). refusals lines + n)
            (more_refused setup round rs answers before after turns)));
      }

-- ---- the state after the round

module _ (setup : Setup) (requests : List Request) (done : ℕ) (crew : List Sight)
    (old new : Progress) (page : List ℕ) (refused : ℕ)
    (so_far : SoFar setup requests done crew old new page refused) where
  -- the places of the lines, and those of the rest
  pub front_places : map (λ (l : Line). l.place) so_far.lines ≡ take done (places_of setup.workers requests)
  front_places =
      let here = map (λ (l : Line). l.place) so_far.lines in
      let rest = places_from setup.workers (fresh_round so_far.round) (drop done requests) in
      let long : length here ≡ done =
      length-map so_far.lines (λ (l : Line). l.place) ∙ so_far.count in
      sym (ap (take done) so_far.places
      ∙ ap (λ (n : ℕ). take n (here ++ rest)) (sym long)
      ∙ take-append_seam here rest)

  pub rest_places : places_from setup.workers (fresh_round so_far.round) (drop done requests)
      ≡ drop done (places_of setup.workers requests)
  rest_places =
      let here = map (λ (l : Line). l.place) so_far.lines in
      let rest = places_from setup.workers (fresh_round so_far.round) (drop done requests) in
      let long : length here ≡ done =
      length-map so_far.lines (λ (l : Line). l.place) ∙ so_far.count in
      sym (ap (drop done) so_far.places
      ∙ ap (λ (n : ℕ). drop n (here ++ rest)) (sym long)
      ∙ drop-append_seam here rest)

  -- this many requests are answered
  abbrev pub answered_so_far : Answers setup requests done old.source (source_of_crew crew)
  answered_so_far = record {
    lines = so_far.lines;
    met = so_far.so_far.met;
    counted = so_far.so_far.counted;
    places = front_places;
    fresh = so_far.so_far.fresh;
    faults = so_far.so_far.faults;
    moves = so_far.so_far.moves;
  }

  -- the requests answered so far make up whole rounds
  pub whole_so_far : AreWholeRounds (places_of setup.workers requests) done
  whole_so_far = record {
    rounds = so_far.round;
    before =
        subst (λ (ps : List Place). All (λ p. p.round < so_far.round) ps) front_places
        (All-map (λ (p : Place). p.round < so_far.round) (λ (l : Line). l.place) so_far.lines
        so_far.rounds);
    behind =
        subst (λ (ps : List Place). All (λ p. so_far.round ≤ p.round) ps) rest_places
        (later_rounds setup.workers so_far.round (fresh_round so_far.round)
        (drop done requests) (omega arith));
  }

-- a text that was passed on from an empty page to an empty one was put
pub all_put : (text : List ℕ) (old new : SinkState)
    → Passes text (outgoing_of [] old) (outgoing_of [] new) → Appends text old.holds new.holds
all_put text old new passes =
    let all : passes.put ≡ text = sym (append-nil passes.put) ∙ passes.all in
    subst (λ (put : List ℕ). Appends put old.holds new.holds) all passes.appended

-- what was on the page was followed by it
pub put_behind_all : (text : List ℕ) (s0 s1 s2 : SinkState) (p1 p2 : List ℕ)
    → Passes text (outgoing_of [] s0) (outgoing_of p1 s1)
    → Passes [] (outgoing_of p1 s1) (outgoing_of p2 s2) → p2 ≡ []
    → Appends text s0.holds s2.holds
put_behind_all text s0 s1 s2 p1 p2 first second empty =
    let both = passes_more text [] (outgoing_of [] s0) (outgoing_of p1 s1) (outgoing_of p2 s2)
    first second in
    all_put text s0 s2 (rw (empty, append-nil text) at both)

-- lines of a round wait, as if they were passed on
waiting : (text page : List ℕ) (sink : SinkState)
    → Passes text (outgoing_of page sink) (outgoing_of (page ++ text) sink)
waiting text page sink = record {
  put = [];
  all = refl;
  appended = λ held is. is ∙ ap Some (sym (append-nil held));
  faults = omega arith;
}

module _ (setup : Setup) (requests : List Request) (done count n : ℕ) (known after : List Sight)
    (old mid : Progress) (last : SinkState) (page : List ℕ) (refused : ℕ)
    (lists : List (List Answer)) (some : 0 < setup.workers) (crew : n ≡ setup.workers)
    (round_is : AnswersRound setup (take count (drop done requests)) lists known after) where
  -- a first part of the lines of one round more
  pub rounds_part : SoFar setup requests done known old mid page refused
      → IsRound (drop done requests) count → done + count ≤ length requests
      → PutsPart (page ++ answers_text (in_turn n 0 count lists)) mid.sink last
      → PartWritten setup requests old (progress_of (source_of_crew after) last)
  rounds_part so_far is_round within part =
      let answers = in_turn n 0 count lists in
      let said = count_by is_refusal answers in
      let waits = page ++ answers_text answers in
      let more = rounds_more setup requests done count n known after old mid mid page waits refused
      said (refused + said) lists some crew round_is so_far is_round within
      (waiting (answers_text answers) page mid.sink) refl refl in
      record {
        count = done + count;
        answers = answered_so_far setup requests (done + count) after old mid waits
            (refused + said) more;
        closing = [];
        closes = inl refl;
        put = rw (append-nil (lines_text more.lines)) (rest_part (lines_text more.lines)
            (outgoing_of [] old.sink) (outgoing_of waits mid.sink) last more.written part);
      }

module _ (setup : Setup) (requests : List Request) (done : ℕ) (crew : List Sight) (old mid : Progress)
    (last : SinkState) (page : List ℕ) (refused : ℕ)
    (so_far : SoFar setup requests done crew old mid page refused) where
  -- what waited was put
  pub rounds_written : (p2 : List ℕ)
      → Passes [] (outgoing_of page mid.sink) (outgoing_of p2 last) → p2 ≡ []
      → Appends (lines_text so_far.lines) old.sink.holds last.holds
  rounds_written p2 passes empty =
      put_behind_all (lines_text so_far.lines) old.sink mid.sink last page p2 so_far.written passes
      empty

  -- the lines of whole rounds
  pub rounds_put : (p2 : List ℕ) → Passes [] (outgoing_of page mid.sink) (outgoing_of p2 last)
      → p2 ≡ [] → RoundsWritten setup requests old (progress_of (source_of_crew crew) last)
  rounds_put p2 passes empty = record {
    count = done;
    answers = answered_so_far setup requests done crew old mid page refused so_far;
    whole = whole_so_far setup requests done crew old mid page refused so_far;
    written = rounds_written p2 passes empty;
  }

  -- a first part of them
  pub rounds_cut : PutsPart page mid.sink last
      → PartWritten setup requests old (progress_of (source_of_crew crew) last)
  rounds_cut part = record {
    count = done;
    answers = answered_so_far setup requests done crew old mid page refused so_far;
    closing = [];
    closes = inl refl;
    put = rw (append-nil (lines_text so_far.lines)) (rest_part (lines_text so_far.lines)
        (outgoing_of [] old.sink) (outgoing_of page mid.sink) last so_far.written part);
  }

-- ---- the lines that close a run

-- counts below their greatest value
short_least : (m n s : ℕ) → n ≤ m → min n m ≤ s → n ≤ s
short_least m n s short least = omega (arith, short, least)

short_exact : (m n s : ℕ) → n ≤ m → s ≡ min n m → s ≡ n
short_exact m n s short is = omega (arith, short, is)

short_hits : (m h s n : ℕ) → s ≤ n → n < m → s ≡ min h m → s ≡ h
short_hits m h s n few short is = omega (arith, few, short, is)

module _ (setup : Setup) (requests : List Request) (crew : List Sight) (old mid : Progress)
    (page : List ℕ) (refused : ℕ)
    (so_far : SoFar setup requests (length requests) crew old mid page refused)
    (short : length requests ≤ max_requests) where
  -- at most this many cells were needed
  needs_short : (w : ℕ) → needs_by w so_far.lines ≤ max_requests * max_texels
  needs_short w =
      let part = sum_by-le-sum_by
      (λ (l : Line). if eqb l.place.worker w then length l.needed else 0)
      (λ (l : Line). length l.needed) so_far.lines
      (λ l. own_or_none (eqb l.place.worker w) (length l.needed)) in
      let all = sum_by-le (λ (l : Line). length l.needed) max_texels so_far.lines so_far.so_far.few in
      let long : length so_far.lines * max_texels ≤ max_requests * max_texels =
      omega (arith, so_far.count, short) in
      omega (arith, part, all, long)
    where
      own_or_none : (b : Bool) (n : ℕ) → (if b then n else 0) ≤ n
      own_or_none true n = omega arith
      own_or_none false n = omega arith

  -- the counts of a worker are those of its lines
  counts_told : (w : ℕ) → w < setup.workers → (counts : Counts) → counts.hits ≤ counts.needs
      → counts.needs ≡ (sight_at crew w).tally.needs → counts.hits ≡ (sight_at crew w).tally.hits
      → counts.apart ≡ (sight_at crew w).tally.apart
      → AreCountsOf setup.files.tells w so_far.lines counts
  counts_told w low counts few needs hits apart =
      let told = so_far.so_far.tallied w low in
      let below : needs_by w so_far.lines < max_count = omega (arith, needs_short w) in
      record {
        few = few;
        least = λ tells. short_least max_count (needs_by w so_far.lines) counts.needs
            (omega (arith, below)) (rw needs told.least);
        exact = λ tells calm none.
            let exact = told.exact tells calm (sym apart ∙ none) in
            let all : counts.needs ≡ needs_by w so_far.lines =
            short_exact max_count (needs_by w so_far.lines) counts.needs (omega (arith, below))
            (needs ∙ exact.needs) in
            record {
              needs = all;
              hits = short_hits max_count (hits_by w so_far.lines) counts.hits counts.needs few
                  (omega (arith, all, below)) (hits ∙ exact.hits);
            };
      }

module _ {R T W H : Type 0} (state : T → TapState) (posts : List (Post R T W H)) (setup : Setup)
    (requests : List Request) (old mid : Progress) (page : List ℕ) (refused : ℕ)
    (some : 0 < length posts)
    (so_far : SoFar setup requests (length requests) (sights_of state posts) old mid page refused)
    (short : length requests ≤ max_requests)
    (few : All (λ p. p.caller.pass.hits ≤ p.caller.pass.needs) posts) where
  -- the text of the lines that close the run
  abbrev text : List ℕ
  text = closing_lines (all_counts posts) (length requests) refused

  count : length posts ≡ setup.workers
  count = sym (length-map posts (λ p. sight state p.caller)) ∙ so_far.so_far.workers

  closes_so_far : Closes setup.files setup.workers so_far.lines text
  closes_so_far = record {
    counts = all_counts posts;
    each = length-map posts (λ p. counts_of p.caller.pass) ∙ count;
    counted = λ w low.
        let d = one_of posts some in
        let here : w < length posts = omega (arith, low, count) in
        let sight_is = get_or-map (λ p. sight state p.caller) posts w d no_sight here in
        rw (get_or-map (λ p. counts_of p.caller.pass) posts w d no_counts here)
        (counts_told setup requests (sights_of state posts) old mid page refused so_far short w low
        (counts_of (get_or posts w d).caller.pass) (few w d here)
        (sym (ap (λ (s : Sight). s.tally.needs) sight_is))
        (sym (ap (λ (s : Sight). s.tally.hits) sight_is))
        (sym (ap (λ (s : Sight). s.tally.apart) sight_is)));
    pins = λ w low tells none.
        let d = one_of posts some in
        let here : w < length posts = omega (arith, low, count) in
        let sight_is = get_or-map (λ p. sight state p.caller) posts w d no_sight here in
        let counts_is = get_or-map (λ p. counts_of p.caller.pass) posts w d no_counts here in
        so_far.so_far.pins w low tells (ap (λ (s : Sight). s.tally.apart) sight_is
        ∙ sym (ap (λ (c : Counts). c.apart) counts_is) ∙ none);
    tells = rw (so_far.count, ← so_far.refusal) refl;
  }

  module _ (last : SinkState) where
    -- all of a list was answered
    pub rounds_finish : (p2 : List ℕ) → Passes text (outgoing_of page mid.sink) (outgoing_of p2 last)
        → p2 ≡ [] → Finishes setup requests old (progress_by state posts last) (nat_lt 0 refused)
    rounds_finish p2 passes empty = record {
      answers = answered_so_far setup requests (length requests) _ old mid page refused so_far;
      closing = text;
      closes = closes_so_far;
      written =
          all_put (lines_text so_far.lines ++ text) old.sink last
          (subst (λ (p : List ℕ). Passes (lines_text so_far.lines ++ text) (outgoing_of [] old.sink)
          (outgoing_of p last)) empty
          (passes_more (lines_text so_far.lines) text (outgoing_of [] old.sink)
          (outgoing_of page mid.sink) (outgoing_of p2 last) so_far.written passes));
      refusal = ap (nat_lt 0) so_far.refusal;
    }

    -- a first part of the lines that close it
    pub close_cut : PutsPart (page ++ text) mid.sink last
        → PartWritten setup requests old (progress_by state posts last)
    close_cut part = record {
      count = length requests;
      answers = answered_so_far setup requests (length requests) _ old mid page refused so_far;
      closing = text;
      closes = inr (refl, closes_so_far);
      put = passes_part (lines_text so_far.lines) text (outgoing_of [] old.sink)
          (outgoing_of page mid.sink) last so_far.written part;
    }

-- no further round was begun, although the workers exchanged what they had seen
pub rounds_kept : (setup : Setup) (requests : List Request) (done : ℕ) (known crew : List Sight)
    (old new : Progress) (source : SourceState) (page : List ℕ) (refused : ℕ)
    → SoFar setup requests done known old new page refused → SeeNoLess known crew
    → SoFar setup requests done crew old (progress_of source new.sink) page refused
rounds_kept setup requests done known crew old new source page refused so_far kept = record {
  lines = so_far.lines;
  round = so_far.round;
  so_far = lines_kept setup (take done requests) old.source so_far.lines known crew so_far.so_far
      kept;
  places = so_far.places;
  rounds = so_far.rounds;
  count = so_far.count;
  written = so_far.written;
  refusal = so_far.refusal;
}
