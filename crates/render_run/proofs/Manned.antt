-- What becomes of the workers as they are made, and as their taps are given back?
use Rattle.std.proofs.Common.{◌≡◌, ℕ, zero, suc, ◌+◌, List, [], ◌∷◌, ◌++◌, length, map, set, take, drop, refl, sym, ap, subst, ◌∙◌, arith}
use Rattle.std.specs.List.{All, sum_by}
use Rattle.std.proofs.Math.Seq.{take-append_seam}
use Rattle.std.proofs.lemmas.List.{length-append, length-map, map-append}
use Rattle.std.proofs.lemmas.List.Elements.{All-push, All-set, All-map}
use Rattle.std.proofs.lemmas.List.Sums.{sum_by_push, sum_by-cons}
use Rattle.tex_world.specs.Tap.{TapState}
use Rattle.tex_world.specs.Folder.{FolderState, KeepsFiles, AfterBack}
use Rattle.tile_source.specs.Pass.{CacheState, PassState}
use Rattle.image_cache.specs.Pass.{IsFresh}
use Rattle.render_run.specs.declared.round.Post.{Post}
use Rattle.render_run.specs.Around.{Sight, SourceState, source_of_crew, no_sight}
use Rattle.render_run.specs.Around.{tally_of, no_tally}
use Rattle.render_run.specs.Crew.{IsNewPost, MakesMore, TakesBack, GivesMore, AreIdle}
use Rattle.render_run.specs.Answering.{HasAllAlone}
use Rattle.render_run.specs.Posts.{AddsPost, AreNew, AreCallersOf, HasPermitsAlone, sight, sights_of}
use Rattle.render_run.specs.Written.{LeavesTaps}

-- ---- made

module _ {R T W H : Type 0} (state : T → TapState) (cache : CacheState) where
  -- one more
  module _ (pass : PassState) (posts new : List (Post R T W H))
      (adds : AddsPost state cache pass posts new) where
    pub posts_longer : length new ≡ length posts + 1
    posts_longer = ap length adds.all ∙ length-append posts (adds.post ∷ [])

    -- one more new worker
    pub posts_more : IsFresh pass → AreNew state cache posts → AreNew state cache new
    posts_more fresh all =
        rw adds.all
        (All-push (λ (p : Post R T W H). (p.caller.cache ≡ cache)
        × IsNewPost p.caller.pass (state p.caller.tap)) posts adds.post all
        (adds.of, record { fresh = subst IsFresh (sym adds.has) fresh; unused = adds.unused }))

  -- the first is as new as before
  pub posts_split : (posts : List (Post R T W H)) (post : Post R T W H)
      → post.caller.cache ≡ cache → IsNewPost post.caller.pass (state post.caller.tap)
      → AreNew state cache posts → AreNew state cache (set posts 0 post)
  posts_split posts post of one all =
      All-set (λ (p : Post R T W H). (p.caller.cache ≡ cache)
      × IsNewPost p.caller.pass (state p.caller.tap)) posts 0 post (of, one) all

-- the files stay over two calls
files_kept : (f0 f1 f2 : FolderState) → KeepsFiles f0 f1 → KeepsFiles f1 f2 → KeepsFiles f0 f2
files_kept f0 f1 f2 first second = record {
  over = second.over ∙ first.over;
  entered = second.entered ∙ first.entered;
  size = second.size ∙ first.size;
  number_of = second.number_of ∙ first.number_of;
}

-- taps were made, and then others
pub makes_both : (a b n : ℕ) (f0 f1 f2 : FolderState) → n ≡ a + b → MakesMore a f0 f1
    → MakesMore b f1 f2 → MakesMore n f0 f2
makes_both a b n f0 f1 f2 all first second = record {
  made = record {
    later = omega (arith, first.made.later, second.made.later);
    by_n = λ below.
        let late = second.made.by_n below in
        let early = first.made.by_n (omega (arith, second.made.later)) in
        omega (arith, late, early, all);
  };
  returned = second.returned ∙ first.returned;
  faults = omega (arith, first.faults, second.faults);
  moves = second.moves ∙ first.moves;
  files = files_kept f0 f1 f2 first.files second.files;
}

-- ---- what they see at first

-- a sum of nothings
sum_none : (f : Sight → ℕ) (xs : List Sight) → All (λ s. f s ≡ 0) xs → sum_by f xs ≡ 0
sum_none f [] all = refl
sum_none f (x ∷ xs) all =
    omega (
      arith,
      sum_by-cons f x xs,
      all 0 x (omega arith),
      sum_none f xs (λ k d lt. all (suc k) d (omega arith)),
    )

-- a fresh pass has counted nothing
same_tally : (pass : PassState) → IsFresh pass → tally_of pass ≡ no_tally
same_tally pass fresh = rw (fresh.recent, fresh.needs, fresh.hits, fresh.apart) refl

module _ {R T W H : Type 0} (state : T → TapState) (cache : CacheState) where
  -- the taps of new workers have done nothing
  pub crew_none : (posts : List (Post R T W H)) → AreNew state cache posts
      → source_of_crew (sights_of state posts) ≡ no_sight.source
  crew_none posts all =
      rw (
        sum_none (λ (s : Sight). s.source.faults) (sights_of state posts)
            (All-map (λ (s : Sight). s.source.faults ≡ 0) (λ (p : Post R T W H). sight state p.caller) posts
            (λ k d lt. (all k d lt).1.unused.faults)),
        sum_none (λ (s : Sight). s.source.moves) (sights_of state posts)
            (All-map (λ (s : Sight). s.source.moves ≡ 0) (λ (p : Post R T W H). sight state p.caller) posts
            (λ k d lt. (all k d lt).1.unused.moves)),
      ) refl

  -- new workers hold nothing and have counted nothing
  pub crew_idle : (posts : List (Post R T W H)) → AreNew state cache posts
      → AreIdle (sights_of state posts)
  crew_idle [] all w = record { holds = refl; tally = refl }
  crew_idle (p ∷ ps) all zero = record {
    holds = ap length (all 0 p (omega arith)).1.fresh.holds;
    tally = same_tally p.caller.pass (all 0 p (omega arith)).1.fresh;
  }
  crew_idle (p ∷ ps) all (suc w) = crew_idle ps (λ k d lt. all (suc k) d (omega arith)) w

  -- one alone has all permits
  pub crew_alone : (workers passes : ℕ) (pass : PassState) (posts : List (Post R T W H))
      → length posts ≡ workers → pass.pinned.seat.permits ≡ passes
      → HasPermitsAlone workers pass posts → HasAllAlone passes (sights_of state posts)
  crew_alone workers passes pass [] long all has single = absurd (cc single)
  crew_alone workers passes pass (p ∷ ps) long all has single =
      let count : workers ≡ 1 = sym long
      ∙ sym (length-map (p ∷ ps) (λ q. sight state q.caller)) ∙ single in
      has count 0 p (omega arith) ∙ all

  -- each is a caller of the cache
  pub crew_passes : (posts : List (Post R T W H)) → AreNew state cache posts
      → AreCallersOf cache posts
  crew_passes posts all = λ k d lt. (all k d lt).0

-- what is written back past the end is dropped
pub written_back : {A : Type 0} (m : ℕ) (new old : List A) → m ≡ length new
    → take m (new ++ drop (length new) old) ≡ new
written_back m new old is =
    ap (λ (k : ℕ). take k (new ++ drop (length new) old)) is
    ∙ take-append_seam new (drop (length new) old)

-- ---- given back

module _ {A : Type 0} (sight : A → Sight) (all : ℕ) (whole : SourceState) (before after : List A)
    (post : A) (tap : TapState) (f0 f1 f2 : FolderState) (is : before ≡ after ++ post ∷ [])
    (faults : (sight post).source.faults ≡ tap.faults)
    (moves : (sight post).source.moves ≡ tap.moves) where
  -- a sum over the workers before, by those after
  one_less : (f : Sight → ℕ) → sum_by f (map sight before) ≡ sum_by f (map sight after) + f (sight post)
  one_less f =
      ap (λ (l : List A). sum_by f (map sight l)) is
      ∙ ap (sum_by f) (map-append sight after (post ∷ []))
      ∙ sum_by_push f (map sight after) (sight post)

  -- one tap more
  pub gives_one : GivesMore all whole (length before) (source_of_crew (map sight before)) f0 f1
      → AfterBack tap f1 f2
      → GivesMore all whole (length after) (source_of_crew (map sight after)) f0 f2
  gives_one so_far one =
      let count : length before ≡ length after + 1 = ap length is ∙ length-append after (post ∷ []) in
      record {
        few = omega (arith, so_far.few, count);
        made = one.made ∙ so_far.made;
        later = omega (arith, so_far.later, one.returned.later);
        returned = λ below.
            let early = so_far.returned (omega (arith, one.returned.later)) in
            let late = one.returned.by_one (omega (arith, one.returned.later)) in
            omega (arith, early, late, count);
        faults_later = omega (arith, so_far.faults_later, one.faults_later);
        faults =
            omega (
              arith,
              so_far.faults,
              one.faults,
              one_less (λ (s : Sight). s.source.faults),
              faults,
            );
        moves_later = omega (arith, so_far.moves_later, one.moves_later);
        moves =
            omega (
              arith,
              so_far.moves,
              one.moves,
              one_less (λ (s : Sight). s.source.moves),
              moves,
            );
        files = files_kept f0 f1 f2 so_far.files one.files;
      }

-- as many taps came back as were made, and the rest of the folder is unchanged
pub taps_back : (n : ℕ) (source : SourceState) (f0 f1 f2 : FolderState) → MakesMore n f0 f1
    → TakesBack n source f1 f2 → LeavesTaps f0 f2
taps_back n source f0 f1 f2 makes back = record {
  folder = record {
    entered = back.files.entered ∙ makes.files.entered;
    mark = back.files.over ∙ makes.files.over;
    faults = omega (arith, makes.faults, back.faults_later);
    moves = omega (arith, makes.moves, back.moves_later);
  };
  back = record {
    made = omega (arith, makes.made.later, back.made);
    returned = omega (arith, back.returned.later, makes.returned);
    alike = λ below under.
        let rose = makes.made.by_n (omega (arith, back.made)) in
        let fell = back.returned.by_n under in
        omega (arith, rose, fell, back.made, makes.returned);
  };
}
