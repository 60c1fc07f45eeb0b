-- Each kind of step keeps the rule of the board, whatever the words and the other seats are then.
use Rattle.std.proofs.Common.{◌≡◌, ◌≢◌, ℕ, ◌<◌, ◌≤◌, max, List, [], replicate, set, refl, subst}
use Rattle.std.proofs.Common.{sym, ◌∙◌, ⊎_elim, inl, inr, le_refl, le_trans, zero-le, arith}
use Rattle.std.specs.Prelude.{slice_index}
use Rattle.std.proofs.lemmas.List.{length-replicate, length-set, get_or-set_same}
use mathlib.Core.Option.{some, none, some-ne-none}
use lib.ListN.{get_elem?}
use Rattle.atomic_table.specs.Table.{State, Me, keeps, step, opening, Allows, Splits, Joins}
use Rattle.atomic_table.proofs.Lists.{at_set, at_snoc}
use Rattle.tex_world.specs.World.{Files, IsReal}
use Rattle.tex_world.specs.Tap.{IsLeast}
use Rattle.gen_board.specs.declared.sight.Sight.{Sight}
use Rattle.gen_board.specs.Rule.{IsBoard, IsSeen, word_count, first_sight, spent_sight}
use Rattle.gen_board.specs.Rule.{stepped_sight, looked_sight, both_sights, Looked, Raised}
use Rattle.gen_board.proofs.ListLemmas.{set_keeps, max_keeps, later_keeps, zero_at}

module _ (world : Files) (files : ℕ) where
  -- what each seat has seen
  abbrev pub EachSeen : List ℕ → List Sight → Type 0
  EachSeen words views = (seat : ℕ) (sight : Sight) → get_elem? views seat ≡ some sight
      → (file : ℕ) → IsSeen world words file (slice_index sight.seen file)

  -- If one seat's new view is right, all views stay right.
  pub one_view : (words : List ℕ) (views : List Sight) (id : ℕ) (new : Sight) → EachSeen words views
      → ((file : ℕ) → IsSeen world words file (slice_index new.seen file))
      → EachSeen words (set views id new)
  one_view words views id new each right seat sight at file = ⊎_elim
      (λ (t : (seat ≡ id) × (new ≡ sight)).
      subst (λ (s : Sight). IsSeen world words file (slice_index s.seen file)) t.1 (right file))
      (λ (t : (seat ≢ id) × (get_elem? views seat ≡ some sight)). each seat sight t.1 file)
      (at_set views id seat new sight at)

  -- A word that does not fall leaves at each seat what it has seen.
  words_rise : (words : List ℕ) (views : List Sight) (i m : ℕ) → slice_index words i ≤ m
      → EachSeen words views → EachSeen (set words i m) views
  words_rise words views i m up each seat sight at file = (
    (each seat sight at file).0,
    le_trans (each seat sight at file).1
        (set_keeps (λ k n. slice_index words k ≤ n) words i m (λ k. le_refl (slice_index words k))
        up file),
  )

  -- A step that raises a word to a real generation, which its seat has then seen.
  steps : (s : State (Unit {0}) Sight) (id i m : ℕ) (old new : Sight) → IsBoard world files s
      → get_elem? s.views id ≡ some old → new.seen ≡ set old.seen i m → i < word_count files
      → slice_index s.words i ≤ m → IsLeast world i m
      → IsBoard world files (record {
        words = set s.words i m;
        homes = s.homes;
        views = set s.views id new;
      })
  steps s id i m old new kept at sees inside up real =
      let each = words_rise s.words s.views i m up kept.views in
      let there : slice_index (set s.words i m) i ≡ m =
      get_or-set_same s.words i m 0 (subst (λ (n : ℕ). i < n) (sym kept.count) inside) in
      record {
        count = length-set s.words i m ∙ kept.count;
        words = set_keeps (IsLeast world) s.words i m kept.words real;
        views = one_view (set s.words i m) s.views id new each
            (subst (λ (seen : List ℕ). (file : ℕ)
            → IsSeen world (set s.words i m) file (slice_index seen file)) (sym sees)
            (set_keeps (IsSeen world (set s.words i m)) old.seen i m (each id old at)
            (real, subst (λ (n : ℕ). m ≤ n) (sym there) (le_refl m))));
      }

  pub looks : (slots id : ℕ) (me : Me (Unit {0}) Sight) (i : ℕ) → i < word_count files
      → Allows (IsBoard world files) slots id me i (λ n. n)
      (Looked world (step slots i 0 0 none) me)
  looks slots id me i inside s kept homes at fits =
      let n : ℕ = slice_index s.words i in (
        looked_sight me.0 i n,
        keeps,
        tt,
        steps s id i n me.0 (looked_sight me.0 i n) kept at refl inside (le_refl n) (kept.words i),
        record {
          real = kept.words i;
          newer = (kept.views id me.0 at i).1;
          sight = refl;
          slots = refl;
        },
      )

  pub raises : (slots id : ℕ) (me : Me (Unit {0}) Sight) (i g : ℕ) → i < word_count files
      → IsReal world i g
      → Allows (IsBoard world files) slots id me i (λ n. max n g)
      (Raised world (step slots i g 0 none) me)
  raises slots id me i g inside real s kept homes at fits =
      let n : ℕ = slice_index s.words i in (
        stepped_sight me.0 i (max n g),
        keeps,
        tt,
        steps s id i (max n g) me.0 (stepped_sight me.0 i (max n g)) kept at refl inside
            (omega arith)
            (max_keeps (IsLeast world i) n g (kept.words i) (inr real)),
        record {
          real = kept.words i;
          newer = (kept.views id me.0 at i).1;
          sight = refl;
          slots = refl;
        },
      )

  pub splits : (id : ℕ) (v : Sight) → Splits (IsBoard world files) id v v v
  splits id v s kept at = record {
    count = kept.count;
    words = kept.words;
    views = λ seat sight there file. ⊎_elim
        (λ (e : get_elem? (set s.views id v) seat ≡ some sight).
        one_view s.words s.views id v kept.views (kept.views id v at) seat sight e file)
        (λ (e : v ≡ sight).
        subst (λ (u : Sight). IsSeen world s.words file (slice_index u.seen file)) e
        (kept.views id v at file))
        (at_snoc (set s.views id v) v sight seat there);
  }

  pub joins : (id : ℕ) (v : Sight) (other : ℕ) (w : Sight)
      → Joins (IsBoard world files) id v other w (both_sights v w) spent_sight
  joins id v other w s kept at apart there =
      let theirs : get_elem? s.views other ≡ some w = ⊎_elim
      (λ (t : (other ≡ id) × (both_sights v w ≡ w)). absurd (apart t.0))
      (λ (t : (other ≢ id) × (get_elem? s.views other ≡ some w)). t.1)
      (at_set s.views id other (both_sights v w) w there) in
      record {
        count = kept.count;
        words = kept.words;
        views = one_view s.words (set s.views id (both_sights v w)) other spent_sight
            (one_view s.words s.views id (both_sights v w) kept.views
            (later_keeps (IsSeen world s.words) v.seen w.seen (kept.views id v at)
            (kept.views other w theirs)))
            (λ file. (inl refl, zero-le));
      }

  pub opens : IsBoard world files (opening (replicate (word_count files) 0) [] (first_sight files))
  opens = record {
    count = length-replicate (word_count files) 0;
    words = λ file. inl (zero_at (word_count files) file);
    views = λ seat sight at file. ⊎_elim
        (λ (e : get_elem? [] seat ≡ some sight). absurd (some-ne-none sight (sym e)))
        (λ (e : first_sight files ≡ sight).
        let words = replicate (word_count files) 0 in
        subst (λ (u : Sight). IsSeen world words file (slice_index u.seen file)) e
        (inl (zero_at files file), omega (arith, zero_at files file)))
        (at_snoc [] (first_sight files) sight seat at);
  }
