-- What a worker has counted, with a line more.
use Rattle.std.proofs.Common.{◌≡◌, ◌≢◌, ℕ, ◌+◌, ◌≤◌, min, Bool, true, false, List, [], ◌∷◌, ◌++◌}
use Rattle.std.proofs.Common.{length, map, count_by, refl, sym, ap, subst, ◌∙◌, IsTrue, Some, eqb, nat_eq, arith}
use Rattle.std.specs.Prelude.{if◌then◌else◌}
use Rattle.std.specs.List.{list_any}
use Rattle.std.proofs.lemmas.Bool.{eq-eqb, ne_eqb}
use Rattle.std.proofs.lemmas.List.Sums.{sum_by_push, sum_by-append, fold_push}
use Rattle.std.proofs.lemmas.List.Elements.{All-pop}
use Rattle.tex_world.specs.World.{Files}
use Rattle.tiff_format.specs.declared.cut.Cut.{Cut}
use Rattle.micro.specs.Items.{AreItems}
use Rattle.micro.specs.Recent.{hits, hit_count}
use Rattle.micro.specs.Runs.{AreAsked, IsAsked}
use Rattle.micro.proofs.HitLemmas.{hit_count-none, any_from_Contains, none_from_absent}
use Rattle.micro.proofs.ItemLemmas.{no_items, recent_none, first_found, placed_new}
use Rattle.micro.proofs.RunLemmas.{is_run}
use Rattle.tile_store.specs.Tile.{CachedTile}
use Rattle.pinned_tiles.specs.Pinned.{key_in}
use Rattle.tile_source.specs.Pass.{max_count}
use Rattle.request_lang.specs.Basis.{basis_of}
use Rattle.render_run.specs.declared.question.Task.{Task}
use Rattle.render_run.specs.Around.{Tally, no_tally}
use Rattle.render_run.specs.Needed.{empties, is_calm}
use Rattle.render_run.specs.Reply.{Line}
use Rattle.render_run.specs.Counted.{Needed, needs_by, hits_by, needed_by, none_needed, hits_in}
use Rattle.render_run.specs.Counted.{with_own, with_line, AreCalm}
use Rattle.render_run.specs.Tallied.{IsLow, TalliesAs, TalliesAnswer}
use Rattle.render_run.specs.Tallied.{IsExactly, IsTallied}

-- the items that are left are such as a microcache has: of one key, and of a run
asked_items : (old : List CachedTile) (key : ℕ) (answer : Bool) (new : List CachedTile)
    → AreItems key_in old → IsAsked key_in old key answer new → AreItems key_in new
asked_items old key true new are asked =
    rw asked.1 (first_found key_in key old are
    (any_from_Contains (map key_in old) key asked.0)).are
asked_items old key false new are asked =
    let p = asked.1.0 in
    let absent = ap (λ (k : ℕ). list_any (nat_eq k) (map key_in old)) asked.1.1
    ∙ none_from_absent (map key_in old) key asked.0 in
    rw asked.1.2 (placed_new key_in p old absent).are

run_items : (old : List CachedTile) (keys : List ℕ) (answers : List Bool) (new : List CachedTile)
    → AreItems key_in old → AreAsked key_in old keys answers new → AreItems key_in new
run_items old [] [] new are run = rw run are
run_items old [] (answer ∷ answers) new are run = absurd run
run_items old (key ∷ keys) [] new are run = absurd run
run_items old (key ∷ keys) (answer ∷ answers) new are run =
    run_items run.0 keys answers new (asked_items old key answer run.0 are run.1) run.2

-- as many hits more as a run answers
run_hits : (before keys : List ℕ) (answers : List Bool) → hits (before ++ keys) ≡ hits before ++ answers
    → hit_count (before ++ keys) ≡ hit_count before + count_by (λ (hit : Bool). hit) answers
unfolding hit_count
run_hits before keys answers are =
    ap (count_by (λ (hit : Bool). hit)) are
    ∙ sum_by-append (λ (hit : Bool). if hit then 1 else 0) (hits before) answers

-- counts at their greatest value
min_more : (m a b c old new : ℕ) → old ≡ min a m → new ≡ min (old + b) m → c ≡ a + b → new ≡ min c m
min_more m a b c old new is more all = omega (arith, is, more, all)

min_least : (m a b c old new : ℕ) → min a m ≤ old → min (old + b) m ≤ new → c ≡ a + b → min c m ≤ new
min_least m a b c old new is more all = omega (arith, is, more, all)

min_low : (m a old : ℕ) → old ≡ min a m → old ≤ m
min_low m a old is = omega (arith, is)

no_hits : (h : ℕ) → h ≡ 0 → 0 ≡ min (0 + h) max_count
no_hits h none = omega (arith, none)

-- before the first line
pub none_tallied : (files : Files) (w : ℕ) (t : Tally) → t ≡ no_tally → IsTallied files w [] t
none_tallied files w t none = record {
  least = omega arith;
  exact = λ tells calm apart. record {
    needs = ap (λ (u : Tally). u.needs) none ∙ omega arith;
    hits = ap (λ (u : Tally). u.hits) none ∙ no_hits (hit_count []) hit_count-none;
    items = rw none (no_items key_in);
    latest = rw none (recent_none key_in);
  };
}

module _ (w : ℕ) (lines : List Line) (line : Line) where
  -- a line more, of the worker or of another
  needs_own : line.place.worker ≡ w
      → needs_by w (lines ++ line ∷ []) ≡ needs_by w lines + length line.needed
  needs_own own =
      sum_by_push (λ (l : Line). if eqb l.place.worker w then length l.needed else 0) lines line
      ∙ ap (λ (b : Bool). needs_by w lines + (if b then length line.needed else 0))
      (eq-eqb line.place.worker w own)

  needs_other : line.place.worker ≢ w → needs_by w (lines ++ line ∷ []) ≡ needs_by w lines
  needs_other other =
      sum_by_push (λ (l : Line). if eqb l.place.worker w then length l.needed else 0) lines line
      ∙ ap (λ (b : Bool). needs_by w lines + (if b then length line.needed else 0))
      (ne_eqb line.place.worker w other)
      ∙ omega arith

  needed_own : line.place.worker ≡ w
      → needed_by w (lines ++ line ∷ []) ≡ with_own (needed_by w lines) line
  needed_own own =
      fold_push (with_line w) none_needed lines line
      ∙ ap (λ (b : Bool). if b then with_own (needed_by w lines) line else needed_by w lines)
      (eq-eqb line.place.worker w own)

  needed_other : line.place.worker ≢ w
      → needed_by w (lines ++ line ∷ []) ≡ needed_by w lines
  needed_other other =
      fold_push (with_line w) none_needed lines line
      ∙ ap (λ (b : Bool). if b then with_own (needed_by w lines) line else needed_by w lines)
      (ne_eqb line.place.worker w other)

  -- the lines before it are calm, and it is itself
  calm_front : AreCalm w (lines ++ line ∷ []) → AreCalm w lines
  calm_front calm =
      (All-pop (λ (l : Line). l.place.worker ≡ w → IsTrue (is_calm (basis_of l.answer)))
      (lines ++ line ∷ []) lines (Some line) refl calm).0

  calm_last : AreCalm w (lines ++ line ∷ []) → line.place.worker ≡ w
      → IsTrue (is_calm (basis_of line.answer))
  calm_last calm =
      (All-pop (λ (l : Line). l.place.worker ≡ w → IsTrue (is_calm (basis_of l.answer)))
      (lines ++ line ∷ []) lines (Some line) refl calm).1

  module _ (files : Files) (old : Tally) (told : IsTallied files w lines old) where
    -- a line of another worker
    pub tally_other : line.place.worker ≢ w → IsTallied files w (lines ++ line ∷ []) old
    tally_other other = record {
      least = omega (arith, told.least, needs_other other);
      exact = λ tells calm apart. let so_far = told.exact tells (calm_front calm) apart in record {
        needs = so_far.needs ∙ ap (λ (n : ℕ). min n max_count) (sym (needs_other other));
        hits = so_far.hits
            ∙ ap (λ (n : Needed). min (hits_in n) max_count) (sym (needed_other other));
        items = so_far.items;
        latest = rw (needed_other other) so_far.latest;
      };
    }

    module _ (new : Tally) (own : line.place.worker ≡ w) where
      -- a line of the worker itself
      exact_as : (b : Bool) → empties line.answer ≡ b → TalliesAs b line.needed old new
          → IsExactly w lines old → IsExactly w (lines ++ line ∷ []) new
      exact_as true is emptied so_far =
          let after : needed_by w (lines ++ line ∷ [])
          ≡ record { hits = hits_in (needed_by w lines); since = [] } =
          needed_own own ∙ ap (λ (b : Bool). if b
          then record { hits = hits_in (needed_by w lines); since = [] }
          else record {
            hits = (needed_by w lines).hits;
            since = (needed_by w lines).since ++ line.needed;
          }) is in
          let none : length line.needed ≡ 0 = ap length emptied.0 in
          let all : hits_by w (lines ++ line ∷ []) ≡ hits_by w lines + hit_count [] =
          ap hits_in after in
          record {
            needs = emptied.1.needs ∙ so_far.needs
                ∙ ap (λ (n : ℕ). min n max_count) (omega (arith, needs_own own, none));
            hits = emptied.1.hits ∙ so_far.hits
                ∙ ap (λ (n : ℕ). min n max_count) (omega (arith, all, hit_count-none));
            items = rw emptied.1.recent (no_items key_in);
            latest = rw (after, emptied.1.recent) (recent_none key_in);
          }
      exact_as false is asks so_far =
          let before = (needed_by w lines).since in
          let after : needed_by w (lines ++ line ∷ [])
          ≡ record { hits = (needed_by w lines).hits; since = before ++ line.needed } =
          needed_own own ∙ ap (λ (b : Bool). if b
          then record { hits = hits_in (needed_by w lines); since = [] }
          else record { hits = (needed_by w lines).hits; since = before ++ line.needed }) is in
          let run = is_run key_in before old.recent line.needed asks.answers new.recent so_far.items
          so_far.latest asks.asked in
          let more = run_hits before line.needed asks.answers run.answers_are in
          let all : hits_by w (lines ++ line ∷ [])
          ≡ (needed_by w lines).hits + hit_count (before ++ line.needed) = ap hits_in after in
          record {
            needs = min_more max_count (needs_by w lines) (length line.needed) _ old.needs new.needs
                so_far.needs asks.needs (needs_own own);
            hits = min_more max_count (hits_by w lines) (count_by (λ (hit : Bool). hit) asks.answers)
                _ old.hits new.hits so_far.hits asks.hits (omega (arith, all, more));
            items = run_items old.recent line.needed asks.answers new.recent so_far.items asks.asked;
            latest = rw after run.latest;
          }

      pub tally_own : {cut : Cut} {task : Task} → (one : TalliesAnswer files cut task old new line.answer)
          → line.needed ≡ one.needed → IsTallied files w (lines ++ line ∷ []) new
      tally_own one same = record {
        least = min_least max_count (needs_by w lines) (length line.needed) _ old.needs new.needs
            told.least (rw same one.least) (needs_own own);
        exact = λ tells calm apart.
            let so_far = told.exact tells (calm_front calm) (omega (arith, one.later, apart)) in
            let low : IsLow old = record {
              needs = min_low max_count (needs_by w lines) old.needs so_far.needs;
              hits = min_low max_count (hits_by w lines) old.hits so_far.hits;
            } in
            exact_as (empties line.answer) refl
            (subst (λ (keys : List ℕ). TalliesAs (empties line.answer) keys old new) (sym same)
            (one.counts tells (calm_last calm own) apart low)) so_far;
      }
