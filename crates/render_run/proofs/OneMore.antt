-- One line more, and the lines of one round more.
use Rattle.std.proofs.Common.{◌≡◌, ◌≢◌, inl, inr, ℕ, ◌+◌, ◌%◌, ◌<◌, ◌≤◌, List, [], ◌∷◌, ◌++◌, eqb}
use Rattle.std.proofs.Common.{Bool, IsTrue, set, ◌&&◌}
use Rattle.std.proofs.Common.{map, length, get_or, slice_index, refl, sym, ap, subst, ◌∙◌}
use Rattle.std.proofs.Common.{append_assoc, arith}
use Rattle.std.specs.List.{All, count_by, range_with_len}
use Rattle.std.proofs.lemmas.List.{append-nil}
use Rattle.std.proofs.lemmas.List.Sums.{sum_by_push}
use Rattle.std.proofs.lemmas.List.Elements.{All-push, All-nil, All-cons}
use Rattle.std.proofs.lemmas.List.Quantifiers.{all_pairs_push}
use Rattle.request_lang.specs.declared.request.Request.{Request}
use Rattle.request_lang.specs.declared.answer.Answer.{Answer}
use Rattle.request_lang.specs.Basis.{basis_of, is_fault, is_move}
use Rattle.tex_world.specs.World.{Files}
use Rattle.render_run.specs.declared.question.Task.{Task}
use Rattle.render_run.specs.Around.{SourceState, Sight, Tally, Terms, Setup, sight_at}
use Rattle.render_run.specs.Around.{source_of_crew}
use Rattle.render_run.specs.Question.{task_of, file_in}
use Rattle.render_run.specs.Dealing.{Place, place}
use Rattle.render_run.specs.Reply.{Line, Meets, MeetsAll}
use Rattle.render_run.specs.Fresh.{IsFresher, IsBefore}
use Rattle.tex_world.specs.Counts.{RisesByAtLeast}
use Rattle.render_run.specs.Run.{read_faults, agains}
use Rattle.render_run.specs.Held.{one_if, is_hold, is_drop, holds_by, drops_by, IsCounted, AreCounted}
use Rattle.render_run.specs.Crew.{AreCarried, SeeNoLess}
use Rattle.render_run.specs.Answering.{AnswersTask, AnswersEach, AnswersInTurn, IsSeenOf, IsKnownTo}
use Rattle.render_run.specs.Answering.{AreLinesSoFar, HasAllAlone}
use Rattle.micro.specs.Recent.{recent}
use Rattle.pinned_tiles.specs.Pinned.{key_in}
use Rattle.render_run.specs.Pins.{TellsPins}
use Rattle.render_run.specs.Counted.{TellsItsPins, TellTheirPins, needed_by, tiles_by}
use Rattle.render_run.proofs.Sums.{at_same, at_other, crew_on, crew_cause}
use Rattle.render_run.proofs.CrewLemmas.{crew_source}
use Rattle.std.proofs.Math.Nat.{mod-lt}
use Rattle.std.proofs.lemmas.Bool.{eq-eqb, ne_eqb}
use Rattle.std.proofs.lemmas.List.{length-map, length-set}
use mathlib.Core.Logic.{dite}
use native.Mathlib.Decide.{ℕ_discrete}
use Rattle.render_run.proofs.Counting.{faults_more, moves_more}
use Rattle.texel_values.specs.Region.{max_texels}
use Rattle.render_run.specs.Tallied.{IsExactly, IsTallied}
use Rattle.render_run.proofs.TallyLemmas.{tally_own, tally_other}

-- a line more meets a request more
pub meets_push : (setup : Setup) (rs : List Request) (lines : List Line) (r : Request)
    (line : Line) → MeetsAll setup rs lines → Meets setup r line
    → MeetsAll setup (rs ++ r ∷ []) (lines ++ line ∷ [])
meets_push setup [] [] r line met meets = (meets, tt)
meets_push setup [] (l ∷ lines) r line met meets = absurd met
meets_push setup (s ∷ rs) [] r line met meets = absurd met
meets_push setup (s ∷ rs) (l ∷ lines) r line met meets =
    (met.0, meets_push setup rs lines r line met.1 meets)

-- ---- what earlier lines say about each line

-- one line more is counted
counted_push : (before lines : List Line) (line : Line) → AreCounted before lines
    → IsCounted (before ++ lines) line → AreCounted before (lines ++ line ∷ [])
counted_push before [] line counted here = (rw append-nil at here, tt)
counted_push before (l ∷ lines) line counted here = (
  counted.0,
  counted_push (before ++ l ∷ []) lines line counted.1
      (subst (λ (ls : List Line). IsCounted ls line) (sym (append_assoc before (l ∷ []) lines)) here),
)

-- ---- the pins in lines

-- the pins of equally many tiles, for a worker that is alone if the other is
pins_as : (a b : ℕ) (P Q : Type 0) (line : Answer) → a ≡ b → (Q → P) → TellsPins a P line
    → TellsPins b Q line
pins_as a b P Q line same alone tells shards is = record {
  own = omega (arith, (tells shards is).own, same);
  alone = λ q. (tells shards is).alone (alone q) ∙ same;
}

-- one more line about pins
pins_push : (workers w : ℕ) (before lines : List Line) (line : Line)
    → TellTheirPins workers w before lines → TellsItsPins workers w (before ++ lines) line
    → TellTheirPins workers w before (lines ++ line ∷ [])
pins_push workers w before [] line told here = (rw append-nil at here, tt)
pins_push workers w before (l ∷ lines) line told here = (
  told.0,
  pins_push workers w (before ++ l ∷ []) lines line told.1
      (subst (λ (ls : List Line). TellsItsPins workers w ls line)
      (sym (append_assoc before (l ∷ []) lines)) here),
)

-- ---- what workers hold

-- what a worker holds by its lines, with one more of its own
module _ (w : ℕ) (lines : List Line) (line : Line) where
  own_more : (p : Answer → Bool) → line.place.worker ≡ w
      → count_by (λ (l : Line). eqb l.place.worker w && p l.answer) (lines ++ line ∷ [])
      ≡ count_by (λ (l : Line). eqb l.place.worker w && p l.answer) lines + one_if (p line.answer)
  own_more p own =
      sum_by_push (λ (l : Line). one_if (eqb l.place.worker w && p l.answer)) lines line
      ∙ ap (λ (b : Bool). count_by (λ (l : Line). eqb l.place.worker w && p l.answer) lines
      + one_if (b && p line.answer)) (eq-eqb line.place.worker w own)

  -- one more line of another worker
  other_more : (p : Answer → Bool) → line.place.worker ≢ w
      → count_by (λ (l : Line). eqb l.place.worker w && p l.answer) (lines ++ line ∷ [])
      ≡ count_by (λ (l : Line). eqb l.place.worker w && p l.answer) lines
  other_more p other =
      sum_by_push (λ (l : Line). one_if (eqb l.place.worker w && p l.answer)) lines line
      ∙ ap (λ (b : Bool). count_by (λ (l : Line). eqb l.place.worker w && p l.answer) lines
      + one_if (b && p line.answer)) (ne_eqb line.place.worker w other)
      ∙ omega arith

  holds_more : (before after : Sight) → line.place.worker ≡ w
      → after.holds + one_if (is_drop line.answer) ≡ before.holds + one_if (is_hold line.answer)
      → before.holds + drops_by w lines ≡ holds_by w lines
      → after.holds + drops_by w (lines ++ line ∷ []) ≡ holds_by w (lines ++ line ∷ [])
  holds_more before after own one so_far =
      omega (arith, own_more is_drop own, own_more is_hold own, one, so_far)

  holds_other : (sight : Sight) → line.place.worker ≢ w
      → sight.holds + drops_by w lines ≡ holds_by w lines
      → sight.holds + drops_by w (lines ++ line ∷ []) ≡ holds_by w (lines ++ line ∷ [])
  holds_other sight other so_far =
      omega (arith, other_more is_drop other, other_more is_hold other, so_far)

-- ---- one line more

module _ (setup : Setup) (old : SourceState) (round : ℕ) where
  -- what the lines say, with one more line of worker w
  module _ (front : List Request) (lines : List Line) (r : Request) (w : ℕ) (answer : Answer)
      (crew : List Sight) (after : Sight)
      (told : AreLinesSoFar setup front old round crew lines) (low : w < setup.workers)
      (one : AnswersTask setup.files setup.terms (task_of setup.number_of r) (sight_at crew w) after
      answer) where
    abbrev line : Line
    line = record {
      place = place round w;
      file = file_in (task_of setup.number_of r);
      held = (sight_at crew w).holds;
      needed = one.tallies.needed;
      answer = answer;
    }

    here : w < length crew
    here = omega (arith, told.workers, low)

    -- whom a line before it is known to
    known_before : (l : Line) → IsBefore l.place line.place → IsKnownTo round w l
    known_before l (inl earlier) = inl earlier
    known_before l (inr same) = inr same.1

    -- what is seen then
    seen_later : (v : ℕ) (l : Line) → IsSeenOf (sight_at crew v).seen l
        → IsSeenOf (sight_at (set crew w after) v).seen l
    seen_later v l seen = dite (ℕ_discrete v w)
        (λ (e : v ≡ w). λ n is g late.
        let known : g ≤ slice_index (sight_at crew w).seen n =
        subst (λ (u : ℕ). g ≤ slice_index (sight_at crew u).seen n) e (seen n is g late) in
        rw (e, at_same crew w after here) (omega (arith, known, one.after.later n)))
        (λ (ne : v ≢ w). rw (at_other crew w v after ne) seen)

    seen_own : (v : ℕ) → IsKnownTo round v line → IsSeenOf (sight_at (set crew w after) v).seen line
    seen_own v (inl earlier) = absurd (omega arith)
    seen_own v (inr own) =
        rw (← own, at_same crew w after here) (λ n is. (one.after.fresh n is).late)

    holds_then : (v : ℕ) → v < setup.workers
        → (sight_at (set crew w after) v).holds + drops_by v (lines ++ line ∷ [])
        ≡ holds_by v (lines ++ line ∷ [])
    holds_then v few = dite (ℕ_discrete v w)
        (λ (e : v ≡ w). rw (e, at_same crew w after here)
        (holds_more w lines line (sight_at crew w) after refl one.after.holds (told.holds w low)))
        (λ (ne : v ≢ w). rw (at_other crew w v after ne)
        (holds_other v lines line (sight_at crew v) (λ e. ne (sym e)) (told.holds v few)))

    -- the tiles of its worker, by the lines before it
    same_tiles : IsExactly w lines (sight_at crew w).tally
        → (sight_at crew w).holds + length (sight_at crew w).tally.recent ≡ tiles_by w lines line
    same_tiles exact =
        let long : length (sight_at crew w).tally.recent ≡ length (recent (needed_by w lines).since) =
        sym (length-map (sight_at crew w).tally.recent key_in) ∙ ap length exact.latest in
        omega (arith, long)

    -- a worker that is alone is this one
    all_alone : setup.workers ≡ 1 → (sight_at crew w).permits ≡ setup.terms.passes
    all_alone single =
        let first : 0 ≡ w = omega (arith, single, low) in
        subst (λ (u : ℕ). (sight_at crew u).permits ≡ setup.terms.passes) first
        (told.permits (told.workers ∙ single))

    pins_own : IsTrue setup.files.tells → after.tally.apart ≡ 0
        → TellTheirPins setup.workers w [] (lines ++ line ∷ [])
    pins_own tells none =
        let before : (sight_at crew w).tally.apart ≡ 0 = omega (arith, one.tallies.later, none) in
        pins_push setup.workers w [] lines line (told.pins w low tells before)
        (λ own calm. pins_as _ _ _ _ answer
        (same_tiles ((told.tallied w low).exact tells calm before)) all_alone one.pins)

    pins_then : (v : ℕ) → v < setup.workers → IsTrue setup.files.tells
        → (sight_at (set crew w after) v).tally.apart ≡ 0
        → TellTheirPins setup.workers v [] (lines ++ line ∷ [])
    pins_then v few tells none = dite (ℕ_discrete v w)
        (λ (e : v ≡ w). rw e (pins_own tells (rw (e, at_same crew w after here) at none)))
        (λ (ne : v ≢ w). pins_push setup.workers v [] lines line
        (told.pins v few tells (rw (at_other crew w v after ne) at none))
        (λ own calm. absurd (ne (sym own))))

    permits_then : HasAllAlone setup.terms.passes (set crew w after)
    permits_then single =
        let alone : length crew ≡ 1 = sym (length-set crew w after) ∙ single in
        let first : 0 ≡ w = omega (arith, alone, here) in
        let now : sight_at (set crew w after) 0 ≡ after =
        subst (λ (u : ℕ). sight_at (set crew w after) u ≡ after) (sym first)
        (at_same crew w after here) in
        ap (λ (s : Sight). s.permits) now ∙ one.after.permits
        ∙ all_alone (sym told.workers ∙ alone)

    tallied_then : (v : ℕ) → v < setup.workers
        → IsTallied setup.files v (lines ++ line ∷ []) (sight_at (set crew w after) v).tally
    tallied_then v few = dite (ℕ_discrete v w)
        (λ (e : v ≡ w). rw (e, at_same crew w after here)
        (tally_own w lines line setup.files (sight_at crew w).tally (told.tallied w low)
        after.tally refl one.tallies refl))
        (λ (ne : v ≢ w). rw (at_other crew w v after ne)
        (tally_other v lines line setup.files (sight_at crew v).tally (told.tallied v few)
        (λ e. ne (sym e))))

    pub lines_more : AreLinesSoFar setup (front ++ r ∷ []) old round (set crew w after)
        (lines ++ line ∷ [])
    lines_more = record {
      met = meets_push setup front lines r line told.met (record {
        file = refl;
        answer = one.meets;
        needed = one.tallies.are;
      });
      fresh = all_pairs_push IsFresher lines line told.fresh
          (λ k d lt placed n first second g late h early.
          let known = told.seen k d lt w low (known_before (get_or lines k d) placed) n first g late in
          let newer = (one.after.fresh n second).early h early in
          omega (arith, known, newer));
      counted = counted_push [] lines line told.counted (told.holds w low);
      faults =
          rw (sum_by_push (λ (l : Line). one_if (is_fault (basis_of l.answer))) lines line)
          (faults_more _ old (source_of_crew crew) (source_of_crew (set crew w after))
          (crew_on crew w after here one.after.counts) (basis_of answer)
          (crew_cause crew w after here (basis_of answer) one.after.cause) told.faults);
      moves =
          rw (sum_by_push (λ (l : Line). one_if (is_move (basis_of l.answer))) lines line)
          (moves_more _ old (source_of_crew crew) (source_of_crew (set crew w after))
          (crew_on crew w after here one.after.counts) (basis_of answer)
          (crew_cause crew w after here (basis_of answer) one.after.cause) told.moves);
      workers = length-set crew w after ∙ told.workers;
      permits = permits_then;
      holds = holds_then;
      tallied = tallied_then;
      pins = pins_then;
      of_crew = All-push (λ (l : Line). l.place.worker < setup.workers) lines line told.of_crew low;
      few = All-push (λ (l : Line). length l.needed ≤ max_texels) lines line told.few
          one.tallies.few;
      seen = All-push (λ (l : Line). (v : ℕ) → v < setup.workers → IsKnownTo round v l
          → IsSeenOf (sight_at (set crew w after) v).seen l) lines line
          (λ k d lt v few known. seen_later v (get_or lines k d) (told.seen k d lt v few known))
          (λ v few known. seen_own v known);
    }

-- ---- the lines of a round

module _ (setup : Setup) (round : ℕ) where
  -- the answers of the requests of a round from the i-th on
  abbrev pub Turns : ℕ → List Request → List Answer → List Sight → List Sight → Type 0
  Turns i rs answers before after = AnswersInTurn setup.files setup.terms setup.workers i
      (map (task_of setup.number_of) rs) answers before after

  -- the lines of the answers of a round, the first of which is its i-th
  unfoldable pub placed : (i : ℕ) (rs : List Request) (answers : List Answer)
      (before after : List Sight) → Turns i rs answers before after → List Line
  placed i [] [] before after turns = []
  placed i [] (a ∷ answers) before after turns = absurd turns
  placed i (r ∷ rs) [] before after turns = absurd turns
  placed i (r ∷ rs) (a ∷ answers) before after turns = record {
    place = place round (i % setup.workers);
    file = file_in (task_of setup.number_of r);
    held = (sight_at before (i % setup.workers)).holds;
    needed = turns.1.tallies.needed;
    answer = a;
  } ∷ placed (i + 1) rs answers (set before (i % setup.workers) turns.0) after turns.2

  -- what the lines say, with those of one more round
  pub round_more : (old : SourceState) (front : List Request) (lines : List Line) (i : ℕ)
      (rs : List Request) (answers : List Answer) (before after : List Sight)
      → 0 < setup.workers → AreLinesSoFar setup front old round before lines
      → (turns : Turns i rs answers before after)
      → AreLinesSoFar setup (front ++ rs) old round after
      (lines ++ placed i rs answers before after turns)
  unfolding placed
  round_more old front lines i [] [] before after some told turns =
      rw (append-nil front, append-nil lines, turns) told
  round_more old front lines i [] (a ∷ answers) before after some told turns = absurd turns
  round_more old front lines i (r ∷ rs) [] before after some told turns = absurd turns
  round_more old front lines i (r ∷ rs) (a ∷ answers) before after some told turns =
      let w = i % setup.workers in
      let low : w < setup.workers = mod-lt i some in
      let one : Line = record {
        place = place round w;
        file = file_in (task_of setup.number_of r);
        held = (sight_at before w).holds;
        needed = turns.1.tallies.needed;
        answer = a;
      } in
      let later = placed (i + 1) rs answers (set before w turns.0) after turns.2 in
      let rest = round_more old (front ++ r ∷ []) (lines ++ one ∷ []) (i + 1) rs answers
      (set before w turns.0) after some
      (lines_more setup old round front lines r w a before turns.0 told low turns.1) turns.2 in
      subst (λ (requests : List Request). AreLinesSoFar setup requests old round after
      (lines ++ (one ∷ later))) (append_assoc front (r ∷ []) rs)
      (subst (λ (all : List Line).
      AreLinesSoFar setup ((front ++ r ∷ []) ++ rs) old round after all)
      (append_assoc lines (one ∷ []) later) rest)

  -- the places of these lines
  pub placed_places : (i : ℕ) (rs : List Request) (answers : List Answer)
      (before after : List Sight) (turns : Turns i rs answers before after)
      → map (λ (l : Line). l.place) (placed i rs answers before after turns)
      ≡ map (λ k. place round (k % setup.workers)) (range_with_len i (length rs))
  unfolding placed
  placed_places i [] [] before after turns = refl
  placed_places i [] (a ∷ answers) before after turns = absurd turns
  placed_places i (r ∷ rs) [] before after turns = absurd turns
  placed_places i (r ∷ rs) (a ∷ answers) before after turns =
      ap (λ (rest : List Place). place round (i % setup.workers) ∷ rest)
      (placed_places (i + 1) rs answers (set before (i % setup.workers) turns.0) after turns.2)

  -- the answers in these lines
  pub placed_answers : (i : ℕ) (rs : List Request) (answers : List Answer)
      (before after : List Sight) (turns : Turns i rs answers before after)
      → map (λ (l : Line). l.answer) (placed i rs answers before after turns) ≡ answers
  unfolding placed
  placed_answers i [] [] before after turns = refl
  placed_answers i [] (a ∷ answers) before after turns = absurd turns
  placed_answers i (r ∷ rs) [] before after turns = absurd turns
  placed_answers i (r ∷ rs) (a ∷ answers) before after turns =
      ap (λ (rest : List Answer). a ∷ rest)
      (placed_answers (i + 1) rs answers (set before (i % setup.workers) turns.0) after turns.2)

  -- these lines belong to the round
  pub placed_rounds : (i : ℕ) (rs : List Request) (answers : List Answer)
      (before after : List Sight) (turns : Turns i rs answers before after)
      → All (λ l. l.place.round < round + 1) (placed i rs answers before after turns)
  unfolding placed
  placed_rounds i [] [] before after turns = All-nil (λ (l : Line). l.place.round < round + 1)
  placed_rounds i [] (a ∷ answers) before after turns = absurd turns
  placed_rounds i (r ∷ rs) [] before after turns = absurd turns
  placed_rounds i (r ∷ rs) (a ∷ answers) before after turns =
      All-cons (λ (l : Line). l.place.round < round + 1) _ _ (omega arith)
      (placed_rounds (i + 1) rs answers (set before (i % setup.workers) turns.0) after turns.2)

-- ---- between rounds

module _ (setup : Setup) (front : List Request) (old : SourceState) (lines : List Line)
    (before after : List Sight) where
  -- no worker sees less than before, and who knows a line has seen it
  lines_then : (round : ℕ) → AreLinesSoFar setup front old 0 before lines → SeeNoLess before after
      → All (λ line. (w : ℕ) → w < setup.workers → IsKnownTo round w line
      → IsSeenOf (sight_at after w).seen line) lines → AreLinesSoFar setup front old round after lines
  lines_then round told kept seen = record {
    met = told.met;
    fresh = told.fresh;
    counted = told.counted;
    faults = subst (λ (s : SourceState). RisesByAtLeast (read_faults lines) old.faults s.faults)
        (sym (crew_source before after kept)) told.faults;
    moves = subst (λ (s : SourceState). RisesByAtLeast (agains lines) old.moves s.moves)
        (sym (crew_source before after kept)) told.moves;
    workers = kept.count ∙ told.workers;
    permits = λ single.
        let some : 0 < length before = omega (arith, kept.count, single) in
        (kept.each 0 some).permits ∙ told.permits (sym kept.count ∙ single);
    holds = λ w low. rw ((kept.each w (omega (arith, told.workers))).holds) (told.holds w low);
    tallied = λ w low. rw ((kept.each w (omega (arith, told.workers))).tally) (told.tallied w low);
    pins = λ w low tells none. told.pins w low tells
        (sym (ap (λ (t : Tally). t.apart) (kept.each w (omega (arith, told.workers))).tally) ∙ none);
    of_crew = told.of_crew;
    few = told.few;
    seen = seen;
  }

  -- the rounds so far are known to all, once what each has seen was carried to every other
  pub lines_carried : (round : ℕ) → AreLinesSoFar setup front old 0 before lines
      → AreCarried before after → AreLinesSoFar setup front old round after lines
  lines_carried round told carried = lines_then round told carried.kept
      (λ k d lt w low known n is g late.
      let own = told.of_crew k d lt in
      let saw = told.seen k d lt (get_or lines k d).place.worker own (inr refl) n is g late in
      omega (
        arith,
        saw,
        carried.carried (get_or lines k d).place.worker w (omega (arith, told.workers))
            (omega (arith, told.workers)) n,
      ))

  pub lines_kept : AreLinesSoFar setup front old 0 before lines → SeeNoLess before after
      → AreLinesSoFar setup front old 0 after lines
  lines_kept told kept = lines_then 0 told kept
      (λ k d lt w low known n is g late.
      let saw = told.seen k d lt w low known n is g late in
      omega (arith, saw, (kept.each w (omega (arith, told.workers))).seen n))

-- each worker knows its own lines
pub lines_own : (setup : Setup) (front : List Request) (old : SourceState) (round : ℕ)
    (crew : List Sight) (lines : List Line) → AreLinesSoFar setup front old round crew lines
    → AreLinesSoFar setup front old 0 crew lines
lines_own setup front old round crew lines told = record {
  met = told.met;
  fresh = told.fresh;
  counted = told.counted;
  faults = told.faults;
  moves = told.moves;
  workers = told.workers;
  permits = told.permits;
  holds = told.holds;
  tallied = told.tallied;
  pins = told.pins;
  of_crew = told.of_crew;
  few = told.few;
  seen = λ k d lt w low known. told.seen k d lt w low (own_only (get_or lines k d) w known);
}
  where
    own_only : (l : Line) (w : ℕ) → IsKnownTo 0 w l → IsKnownTo round w l
    own_only l w (inl earlier) = absurd (omega arith)
    own_only l w (inr own) = inr own

-- ---- one answer more of a round

-- a worker answered one request more
pub each_push : (files : Files) (terms : Terms) (tasks : List Task) (answers : List Answer)
    (old mid new : Sight) (task : Task) (answer : Answer)
    → AnswersEach files terms tasks answers old mid → AnswersTask files terms task mid new answer
    → AnswersEach files terms (tasks ++ task ∷ []) (answers ++ answer ∷ []) old new
each_push files terms [] [] old mid new task answer each one =
    (new, subst (λ (s : Sight). AnswersTask files terms task s new answer) each one, refl)
each_push files terms [] (a ∷ answers) old mid new task answer each one = absurd each
each_push files terms (t ∷ tasks) [] old mid new task answer each one = absurd each
each_push files terms (t ∷ tasks) (a ∷ answers) old mid new task answer each one =
    (each.0, each.1, each_push files terms tasks answers each.0 mid new task answer each.2 one)
