-- What each worker answers of its share is what all answer in turn.
use Rattle.std.proofs.Common.{◌≡◌, ◌≢◌, ℕ, zero, suc, ◌+◌, ◌-◌, ◌*◌, ◌/◌, ◌%◌, ◌<◌, ◌≤◌}
use Rattle.std.proofs.Common.{Bool, true, false, ltb, List, [], ◌∷◌, ◌++◌, length, drop, get_or, set, refl, sym, ap, subst, ◌∙◌, add-one, add-zero, zero-add, map, arith}
use Rattle.std.proofs.Math.Nat.{mod-add-div', div-add-mod, mod-lt, lt_of_mul-lt-mul_right, add-mul}
use Rattle.std.proofs.Math.Nat.{mul-add, mul-le-mul_left}
use Rattle.std.proofs.lemmas.Nat.{div-mul-add, mod-mul-add}
use Rattle.std.proofs.lemmas.List.{get_or-drop, get_or-set_same, get_or-set_other, length-set}
use Rattle.std.proofs.lemmas.List.{get_or-map, length-map}
use Rattle.std.proofs.lemmas.List.{same_lists, get_or_default, drop-drop, drop_all, drop_more}
use Rattle.std.proofs.lemmas.Bool.{ltb-true, ltb-false}
use Rattle.tex_world.specs.World.{Files}
use Rattle.request_lang.specs.declared.answer.Answer.{Answer}
use Rattle.request_lang.specs.declared.answer.Answer.TheVariants.{Synced}
use Rattle.render_run.specs.declared.question.Task.{Task}
use Rattle.render_run.specs.Around.{Sight, Terms, sight_at, no_sight}
use Rattle.render_run.specs.Answering.{AnswersTask, AnswersEach, AnswersInTurn, AreInTurn, share_of, in_turn}
use Rattle.render_run.specs.Crew.{AnswersShares, answers_at}

-- ---- numbers

-- one time more
pub suc_mul : (p n : ℕ) → suc p * n ≡ p * n + n
suc_mul p n =
    ap (λ (x : ℕ). x * n) (sym (add-one p)) ∙ (add-mul p 1 n ∙ one_time)
  where
    one_time : p * n + 1 * n ≡ p * n + n
    one_time = omega arith

-- the place of a number among n in turn
pub place_of : (i w n p : ℕ) → i ≡ w + p * n → w < n → (i % n ≡ w) × (i / n ≡ p)
place_of i w n p is low =
    let turned : i ≡ p * n + w = omega (arith, is) in (
      ap (λ (x : ℕ). x % n) turned ∙ mod-mul-add p n w low,
      ap (λ (x : ℕ). x / n) turned ∙ div-mul-add p n w low,
    )

-- this much memory for each worker is enough
pub room_enough : (n count room : ℕ) → 0 < n → count / n + 1 ≤ room → count ≤ n * room
room_enough n count room some low =
    let whole : n * (count / n) + count % n ≡ count = div-add-mod count n in
    let more : n * (count / n + 1) ≡ n * (count / n) + n * 1 = mul-add n (count / n) 1 in
    let one : n * 1 ≡ n = omega arith in
    let least : n * (count / n + 1) ≤ n * room = mul-le-mul_left n low in
    omega (arith, whole, more, one, least, mod-lt count some)

-- ---- answers in turn

-- the i-th answer
abbrev pub answer_in : ℕ → ℕ → List (List Answer) → Answer
answer_in n i lists = get_or (get_or lists (i % n) []) (i / n) Synced

-- some, and then some more
pub in_turn_append : (n i a b : ℕ) (lists : List (List Answer))
    → in_turn n i (a + b) lists ≡ in_turn n i a lists ++ in_turn n (i + a) b lists
in_turn_append n i zero b lists =
    ap (λ (m : ℕ). in_turn n i m lists) (zero-add b)
    ∙ ap (λ (m : ℕ). in_turn n m b lists) (sym (add-zero i))
in_turn_append n i (suc a) b lists =
    ap (λ (m : ℕ). in_turn n i m lists) (suc_front a b)
    ∙ ap (λ (xs : List Answer). answer_in n i lists ∷ xs)
    (in_turn_append n (i + 1) a b lists
    ∙ ap (λ (m : ℕ). in_turn n (i + 1) a lists ++ in_turn n m b lists) (next_front i a))
  where
    suc_front : (a b : ℕ) → suc a + b ≡ suc (a + b)
    suc_front a b = omega arith

    next_front : (i a : ℕ) → i + 1 + a ≡ i + suc a
    next_front i a = omega arith

-- one more
pub in_turn_push : (n i : ℕ) (lists : List (List Answer))
    → in_turn n 0 (i + 1) lists ≡ in_turn n 0 i lists ++ answer_in n i lists ∷ []
in_turn_push n i lists =
    in_turn_append n 0 i 1 lists
    ∙ ap (λ (m : ℕ). in_turn n 0 i lists ++ answer_in n m lists ∷ []) (zero-add i)

-- an answer, as it is in the list of the worker that gave it
pub answer_is : {A : Type 0} (answers_of : A → List Answer) (posts : List A) (n i : ℕ) (d : A)
    (e : Answer) → i % n < length posts → i / n < length (answers_of (get_or posts (i % n) d))
    → get_or (answers_of (get_or posts (i % n) d)) (i / n) e ≡ answer_in n i (map answers_of posts)
answer_is answers_of posts n i d e there low =
    get_or_default (answers_of (get_or posts (i % n) d)) (i / n) e Synced low
    ∙ ap (λ (xs : List Answer). get_or xs (i / n) Synced)
    (sym (get_or-map answers_of posts (i % n) d [] there))

-- ---- shares

-- the share that begins at a later place
pub share_drop : {A : Type 0} → (n d : ℕ) (xs : List A) → share_of n d xs ≡ share_of n 0 (drop d xs)
share_drop n zero [] = refl
share_drop n (suc d) [] = refl
share_drop n zero (x ∷ xs) = refl
share_drop n (suc d) (x ∷ xs) = share_drop n d xs

-- a worker's share has every n-th request
pub share_has : {A : Type 0} → (n : ℕ) → 0 < n → (xs : List A) (d p : ℕ) → d + p * n < length xs
    → p < length (share_of n d xs)
share_has n some [] d p low = absurd (omega arith)
share_has n some (x ∷ xs) zero zero low = omega arith
share_has n some (x ∷ xs) zero (suc p) low =
    let more : suc p * n ≡ p * n + n = suc_mul p n in
    let rest = share_has n some xs (n - 1) p (omega (arith, more, low)) in
    omega (arith, rest)
share_has n some (x ∷ xs) (suc d) p low = share_has n some xs d p (omega arith)

module _ (files : Files) (terms : Terms) where
  -- as many answers as requests
  pub each_length : (tasks : List Task) (answers : List Answer) (old new : Sight)
      → AnswersEach files terms tasks answers old new → length answers ≡ length tasks
  each_length [] [] old new each = refl
  each_length [] (a ∷ answers) old new each = absurd each
  each_length (t ∷ tasks) [] old new each = absurd each
  each_length (t ∷ tasks) (a ∷ answers) old new each =
      ap suc (each_length tasks answers each.0 new each.2)

  -- nothing was asked
  none_asked : (answers : List Answer) (old new : Sight) → AnswersEach files terms [] answers old new
      → new ≡ old
  none_asked [] old new each = each
  none_asked (a ∷ answers) old new each = absurd each

  -- the first request was answered, and then the others
  record First (task : Task) (rest : List Task) (answers : List Answer) (old new : Sight)
      : Type 0 where
    answer : Answer
    later : List Answer
    mid : Sight
    are : answers ≡ answer ∷ later
    one : AnswersTask files terms task old mid answer
    each : AnswersEach files terms rest later mid new

  first_of : (task : Task) (rest : List Task) (answers : List Answer) (old new : Sight)
      → AnswersEach files terms (task ∷ rest) answers old new → First task rest answers old new
  first_of task rest [] old new each = absurd each
  first_of task rest (a ∷ answers) old new each = record {
    answer = a;
    later = answers;
    mid = each.0;
    are = refl;
    one = each.1;
    each = each.2;
  }

  module _ (n : ℕ) (some : 0 < n) (lists : List (List Answer)) where
    -- Each worker has answered what falls to it from the i-th request on, which for worker w is d
    -- places later, and the p-th of its own.
    abbrev Remain : ℕ → List Task → List Sight → List Sight → Type 0
    Remain i tasks old new = (w d p : ℕ) → w < n → d < n → i + d ≡ w + p * n
        → AnswersEach files terms (share_of n d tasks) (drop p (answers_at lists w))
        (sight_at old w) (sight_at new w)

    -- the place of the i-th request
    here_is : (i : ℕ) → i + 0 ≡ i % n + i / n * n
    here_is i = omega (arith, mod-add-div' i n)

    -- what remains after one task
    remain_more : (i : ℕ) (t : Task) (tasks : List Task) (old new : List Sight)
        → length old ≡ n → Remain i (t ∷ tasks) old new
        → (f : First t (share_of n (n - 1) tasks) (drop (i / n) (answers_at lists (i % n)))
        (sight_at old (i % n)) (sight_at new (i % n)))
        → Remain (i + 1) tasks (set old (i % n) f.mid) new
    remain_more i t tasks old new count remain f w d p low small at = by_end (n - (d + 1)) refl
      where
        k : ℕ
        k = i % n

        -- another worker, whose next request is one place nearer
        other : d + 1 < n → AnswersEach files terms (share_of n d tasks)
            (drop p (answers_at lists w)) (sight_at (set old (i % n) f.mid) w) (sight_at new w)
        other short =
            let before = remain w (suc d) p low (omega arith) (omega (arith, at)) in
            let ne : w ≢ i % n = λ same. absurd (no_turn same) in
            subst (λ (s : Sight). AnswersEach files terms (share_of n d tasks)
            (drop p (answers_at lists w)) s (sight_at new w))
            (sym (get_or-set_other old (i % n) w f.mid no_sight ne)) before
          where
            no_turn : w ≡ i % n → ⊥
            no_turn same =
                let split = place_of i w n (i / n) (omega (arith, here_is i, same)) low in
                let turned : p * n ≡ i / n * n + suc d = omega (arith, at, here_is i, same) in
                let more : suc (i / n) * n ≡ i / n * n + n = suc_mul (i / n) n in
                let up : i / n < p =
                lt_of_mul-lt-mul_right n {m = i / n} {n = p} (omega (arith, turned)) in
                let down : p < suc (i / n) =
                lt_of_mul-lt-mul_right n {m = p} {n = suc (i / n)} (omega (arith, turned, more)) in
                omega (arith, up, down)

        -- the worker itself
        own : d + 1 ≡ n → AnswersEach files terms (share_of n d tasks)
            (drop p (answers_at lists w)) (sight_at (set old (i % n) f.mid) w) (sight_at new w)
        own last = by_p p at
          where
            by_p : (q : ℕ) → i + 1 + d ≡ w + q * n → AnswersEach files terms (share_of n d tasks)
                (drop q (answers_at lists w)) (sight_at (set old (i % n) f.mid) w)
                (sight_at new w)
            by_p zero is = absurd (omega (arith, is, last, low))
            by_p (suc q) is =
                let more : suc q * n ≡ q * n + n = suc_mul q n in
                let split = place_of i w n q (omega (arith, is, more, last)) low in
                let there : drop (suc q) (answers_at lists w) ≡ f.later =
                ap (λ (m : ℕ). drop m (answers_at lists w)) (sym (add-one q))
                ∙ sym (drop-drop 1 q (answers_at lists w))
                ∙ ap (λ (m : ℕ). drop 1 (drop m (answers_at lists w))) (sym split.1)
                ∙ ap (λ (v : ℕ). drop 1 (drop (i / n) (answers_at lists v))) (sym split.0)
                ∙ ap (drop 1) f.are in
                let behind : d ≡ n - 1 = omega arith in
                let seen : sight_at (set old (i % n) f.mid) w ≡ f.mid =
                ap (λ (v : ℕ). sight_at (set old (i % n) f.mid) v) (sym split.0)
                ∙ get_or-set_same old (i % n) f.mid no_sight
                (omega (arith, count, mod-lt i some)) in
                rw (there, behind, seen, ← split.0) f.each

        by_end : (e : ℕ) → n - (d + 1) ≡ e → AnswersEach files terms (share_of n d tasks)
            (drop p (answers_at lists w)) (sight_at (set old (i % n) f.mid) w) (sight_at new w)
        by_end zero is = own (omega arith)
        by_end (suc e) is = other (omega arith)

    -- the requests from the i-th on were answered in turn
    in_turn_from : (i : ℕ) (tasks : List Task) (old new : List Sight) → length old ≡ n
        → length new ≡ n → Remain i tasks old new
        → AnswersInTurn files terms n i tasks (in_turn n i (length tasks) lists) old new
    in_turn_from i [] old new count same remain =
        same_sights old new (same ∙ sym count) (λ w low. last w (omega (arith, low, same)))
      where
        last : (w : ℕ) → w < n → sight_at new w ≡ sight_at old w
        last w low = by_test (ltb w (i % n)) refl
          where
            by_test : (t : Bool) → ltb w (i % n) ≡ t → sight_at new w ≡ sight_at old w
            by_test true is =
                let short : w < i % n = ltb-true w (i % n) is in
                let more : suc (i / n) * n ≡ i / n * n + n = suc_mul (i / n) n in
                none_asked (drop (suc (i / n)) (answers_at lists w)) (sight_at old w) (sight_at new w)
                (remain w (w + n - i % n) (suc (i / n)) low (omega (arith, mod-lt i some))
                (omega (arith, here_is i, more, mod-lt i some)))
            by_test false is =
                let long : i % n ≤ w = ltb-false w (i % n) is in
                none_asked (drop (i / n) (answers_at lists w)) (sight_at old w) (sight_at new w)
                (remain w (w - i % n) (i / n) low (omega arith) (omega (arith, here_is i)))

        same_sights : (old new : List Sight) → length new ≡ length old
            → ((w : ℕ) → w < length new → sight_at new w ≡ sight_at old w) → new ≡ old
        same_sights old new len at = same_lists new old len (λ k d lt.
            get_or_default new k d no_sight lt ∙ at k lt
            ∙ get_or_default old k no_sight d (omega (arith, len)))
    in_turn_from i (t ∷ tasks) old new count same remain =
        let low : i % n < n = mod-lt i some in
        let f = first_of t (share_of n (n - 1) tasks) (drop (i / n) (answers_at lists (i % n)))
        (sight_at old (i % n)) (sight_at new (i % n))
        (remain (i % n) 0 (i / n) low some (here_is i)) in
        let told : get_or (answers_at lists (i % n)) (i / n) Synced ≡ f.answer =
        ap (λ (m : ℕ). get_or (answers_at lists (i % n)) m Synced) (omega arith)
        ∙ sym (get_or-drop (i / n) (answers_at lists (i % n)) 0 Synced)
        ∙ ap (λ (xs : List Answer). get_or xs 0 Synced) f.are in
        let rest = in_turn_from (i + 1) tasks (set old (i % n) f.mid) new
        (length-set old (i % n) f.mid ∙ count) same
        (remain_more i t tasks old new count remain f) in (
          f.mid,
          subst (λ (a : Answer). AnswersTask files terms t (sight_at old (i % n)) f.mid a)
              (sym told) f.one,
          rest,
        )

  -- The shares of all workers make up all requests of a round.
  pub shares_in_turn : (tasks : List Task) (lists : List (List Answer)) (old new : List Sight)
      → 0 < length old → AnswersShares files terms tasks lists old new
      → AnswersInTurn files terms (length old) 0 tasks
      (in_turn (length old) 0 (length tasks) lists) old new
  shares_in_turn tasks lists old new some shares =
      in_turn_from (length old) some lists 0 tasks old new refl shares.count
      (λ w d p low small at. by_p w d low small p at)
    where
      by_p : (w d : ℕ) → w < length old → d < length old → (p : ℕ) → 0 + d ≡ w + p * length old
          → AnswersEach files terms (share_of (length old) d tasks) (drop p (answers_at lists w))
          (sight_at old w) (sight_at new w)
      by_p w d low small zero at =
          let same : d ≡ w = omega (arith, at) in
          rw same (shares.each w low)
      by_p w d low small (suc p) at =
          let more : suc p * length old ≡ p * length old + length old =
          suc_mul p (length old) in
          absurd (omega (arith, at, more, small))

  -- Each answer is there.
  pub shares_there : (tasks : List Task) (lists : List (List Answer)) (old new : List Sight)
      → 0 < length old → AnswersShares files terms tasks lists old new
      → AreInTurn (length old) (length tasks) lists
  shares_there tasks lists old new some shares i low =
      let n = length old in
      let k = i % n in
      let turn : k < n = mod-lt i some in
      let has = share_has n some tasks k (i / n)
      (let whole = mod-add-div' i n in omega (arith, whole, low)) in
      omega (
        arith,
        has,
        each_length (share_of n k tasks) (answers_at lists k) (sight_at old k)
            (sight_at new k) (shares.each k turn),
      )

  -- ---- one worker's share

  -- nothing is left of it
  pub share_end : (n k : ℕ) (tasks : List Task) (s : Sight) → length tasks ≤ k
      → AnswersEach files terms (share_of n 0 (drop k tasks)) [] s s
  share_end n k tasks s long = rw (drop_all k tasks long) refl

  -- one request of it, and then what comes in turn
  pub share_next : (n k : ℕ) (tasks : List Task) (t : Task) (answer : Answer)
      (rest : List Answer) (old mid new : Sight) → 0 < n → k < length tasks → get_or tasks k t ≡ t
      → AnswersTask files terms t old mid answer
      → AnswersEach files terms (share_of n 0 (drop (k + n) tasks)) rest mid new
      → AnswersEach files terms (share_of n 0 (drop k tasks)) (answer ∷ rest) old new
  share_next n k tasks t answer rest old mid new some low is one each =
      let there : drop k tasks ≡ t ∷ drop (k + 1) tasks =
      drop_more tasks k t low ∙ ap (λ (x : Task). x ∷ drop (k + 1) tasks) is in
      let later : share_of n (n - 1) (drop (k + 1) tasks) ≡ share_of n 0 (drop (k + n) tasks) =
      share_drop n (n - 1) (drop (k + 1) tasks)
      ∙ ap (share_of n 0) (drop-drop (n - 1) (k + 1) tasks
      ∙ ap (λ (m : ℕ). drop m tasks) (omega arith)) in
      rw there (mid, one, rw later each)

-- ---- of workers that have their answers with them

module _ {A : Type 0} (sight : A → Sight) (answers_of : A → List Answer) (files : Files) (terms : Terms)
    (tasks : List Task) (before after : List A) (same : length after ≡ length before) where
  -- one worker's share, as it is among all
  pub share_is : (w : ℕ) (a b d : A) → w < length before → a ≡ get_or before w d
      → b ≡ get_or after w d
      → AnswersEach files terms (share_of (length before) w tasks) (answers_of b) (sight a) (sight b)
      → AnswersEach files terms (share_of (length (map sight before)) w tasks)
      (answers_at (map answers_of after) w) (sight_at (map sight before) w)
      (sight_at (map sight after) w)
  share_is w a b d low a_is b_is each =
      rw (
        length-map before sight,
        get_or-map answers_of after w d [] (omega (arith, low, same)),
        get_or-map sight before w d no_sight low,
        get_or-map sight after w d no_sight (omega (arith, low, same)),
        ← a_is,
        ← b_is,
      ) each

module _ {A : Type 0} (sight : A → Sight) (files : Files) (terms : Terms) (tasks : List Task)
    (lists : List (List Answer)) (n count : ℕ) (before after : List A) (many : length before ≡ n)
    (some : 0 < n) (size : length tasks ≡ count)
    (shares : AnswersShares files terms tasks lists (map sight before) (map sight after)) where
  crew : length (map sight before) ≡ n
  crew = length-map before sight ∙ many

  crew_some : 0 < length (map sight before)
  crew_some = omega (arith, crew, some)

  -- the workers answered in turn
  pub turns_taken : AnswersInTurn files terms n 0 tasks (in_turn n 0 count lists)
      (map sight before) (map sight after)
  turns_taken =
      subst (λ (m : ℕ). AnswersInTurn files terms n 0 tasks (in_turn n 0 m lists)
      (map sight before) (map sight after)) size
      (subst (λ (m : ℕ). AnswersInTurn files terms m 0 tasks (in_turn m 0 (length tasks) lists)
      (map sight before) (map sight after)) crew
      (shares_in_turn files terms tasks lists (map sight before) (map sight after) crew_some
      shares))

  -- each answer is there
  pub turns_there : AreInTurn n count lists
  turns_there =
      subst (λ (m : ℕ). AreInTurn n m lists) size
      (subst (λ (m : ℕ). AreInTurn m (length tasks) lists) crew
      (shares_there files terms tasks lists (map sight before) (map sight after) crew_some shares))
