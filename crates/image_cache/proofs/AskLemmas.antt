-- How often is the newest generation asked for, file by file?
use mathlib.Core.Logic.{dite}
use native.Mathlib.Decide.{ℕ_discrete}
use Rattle.std.proofs.Common.{◌≡◌, ◌≢◌, ◌⊎◌, inl, inr, ℕ, zero, suc, ◌+◌, ◌<◌, ◌≤◌, ltb, cond}
use Rattle.std.proofs.Common.{slice_index, refl, ap, ◌∙◌, add-one, arith}
use Rattle.std.proofs.lemmas.Bool.{lt-ltb}
use Rattle.tex_world.specs.Counts.{RisesByOne, last_count}
use Rattle.gen_board.specs.View.{ViewState}
use Rattle.tex_world.specs.Tap.{TapState}
use Rattle.file_table.specs.Calls.{KeepsView}
use Rattle.image_cache.specs.Invalid.{RisesBy, AsksIfKnown, seen_count}

-- the count is the same if the same is seen of these files
same_count : (a b : ViewState) (n : ℕ)
    → ((f : ℕ) → f < n → slice_index b.seen f ≡ slice_index a.seen f)
    → seen_count b n ≡ seen_count a n
unfolding seen_count
same_count a b zero same = refl
same_count a b (suc n) same =
    rw (same n (omega arith)) (ap (λ (m : ℕ). m + cond (ltb 0 (slice_index a.seen n)) 1 0)
    (same_count a b n (λ f low. same f (omega arith))))

-- one more that is not known
one_unknown : (b : ViewState) (n : ℕ) → slice_index b.seen n ≡ 0
    → seen_count b (n + 1) ≡ seen_count b n
unfolding seen_count
one_unknown b n none = rw (add-one, none) (omega arith)

-- one more that is
one_known : (b : ViewState) (n : ℕ) → 0 < slice_index b.seen n
    → seen_count b (n + 1) ≡ seen_count b n + 1
unfolding seen_count
one_known b n some = rw (add-one, lt-ltb 0 (slice_index b.seen n) some) refl

-- before the first file
pub asks_first : (a : ViewState) (t : ℕ) → RisesBy (seen_count a 0) t t
unfolding seen_count
asks_first a t = record { later = omega arith; by_n = λ below. omega arith }

-- one file more
pub asks_more : (n : ℕ) (a b : ViewState) (t0 t1 t2 : TapState) → KeepsView n a b
    → AsksIfKnown n a b t1 t2 → RisesBy (seen_count a n) t0.asks t1.asks
    → RisesBy (seen_count b (n + 1)) t0.asks t2.asks
asks_more n a b t0 t1 t2 keeps asks so_far = by_case asks.asks
  where
    same : seen_count b n ≡ seen_count a n
    same = same_count a b n (λ f low. keeps.seen_others f (λ is. absurd (omega arith)))

    by_case : ((slice_index b.seen n ≡ 0) × (t2.asks ≡ t1.asks))
        ⊎ ((0 < slice_index b.seen n) × RisesByOne t1.asks t2.asks)
        → RisesBy (seen_count b (n + 1)) t0.asks t2.asks
    by_case (inl none) =
        let count : seen_count b (n + 1) ≡ seen_count a n = one_unknown b n none.0 ∙ same in
        rw (count, none.1) so_far
    by_case (inr one) =
        let count : seen_count b (n + 1) ≡ seen_count a n + 1 =
        one_known b n one.0 ∙ ap (λ (m : ℕ). m + 1) same in
        rw count (record {
          later = omega (arith, so_far.later, one.1.later);
          by_n = λ below.
              let short : t1.asks < last_count = omega (arith, one.1.later) in
              omega (arith, so_far.by_n short, one.1.by_one short);
        })

-- no file's word is stepped on less often
pub steps_later : (n : ℕ) (a b : ViewState) → KeepsView n a b
    → slice_index a.steps n < slice_index b.steps n
    → (f : ℕ) → slice_index a.steps f ≤ slice_index b.steps f
steps_later n a b keeps more f = dite (ℕ_discrete f n)
    (λ (e : f ≡ n). rw e (omega (arith, more)))
    (λ (ne : f ≢ n). omega (arith, keeps.steps_others f ne))

-- the words so far, and one more
pub steps_more : (n : ℕ) (z a b : ViewState) → KeepsView n a b
    → slice_index a.steps n < slice_index b.steps n
    → ((f : ℕ) → slice_index z.steps f ≤ slice_index a.steps f)
    → ((f : ℕ) → f < n → slice_index z.steps f < slice_index a.steps f)
    → (f : ℕ) → f < n + 1 → slice_index z.steps f < slice_index b.steps f
steps_more n z a b keeps more least so_far f low = dite (ℕ_discrete f n)
    (λ (e : f ≡ n). rw e (omega (arith, more, least n)))
    (λ (ne : f ≢ n). omega (arith, keeps.steps_others f ne, so_far f (omega arith)))
