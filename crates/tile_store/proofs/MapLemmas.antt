-- What removing an entry and writing its value leave of a list of entries.
use Rattle.std.proofs.Common.{◌≡◌, ℕ, zero, suc, ◌+◌, ◌-◌, ◌<◌, Bool, true, false, cond, List, [], ◌∷◌, ◌++◌, length, take, drop}
use Rattle.std.proofs.Common.{slice_get, Some, None, length-append, refl, ap, ◌∙◌, subst, arith}
use Rattle.std.specs.List.{All}
use Rattle.std.proofs.lemmas.List.Elements.{All-cons, All-head, All-tail}
use Rattle.std.specs.Map.{lookup, lookup_entry, remove_entry, set_value}

module _ {K X : Type 0} (test : K → Bool) where
  pub length-remove_entry : (es : List (K × X)) (v : X) → lookup test es ≡ Some v
      → length (remove_entry test es) + 1 ≡ length es
  length-remove_entry [] v h = absurd cc
  length-remove_entry (e ∷ es) v h =
      (elim (test e.0) as (λ b. cond b (Some e.1) (lookup test es) ≡ Some v
      → length (cond b es (e ∷ remove_entry test es)) + 1 ≡ length (e ∷ es)) [
        | true ↦ λ s. omega arith
        | false ↦ λ s. omega (arith, length-remove_entry es v s)
      ]) h

  pub All-remove_entry : (P : K × X → Type 0) (es : List (K × X)) → All P es → All P (remove_entry test es)
  All-remove_entry P [] all = all
  All-remove_entry P (e ∷ es) all =
      elim (test e.0) as (λ b. All P (cond b es (e ∷ remove_entry test es))) [
        | true ↦ All-tail P e es all
        | false ↦ All-cons P e (remove_entry test es) (All-head P e es all)
            (All-remove_entry P es (All-tail P e es all))
      ]

  -- the value that is written has what the one had that a look-up finds
  pub All-set_value : (P : K × X → Type 0) (es : List (K × X)) (v w : X) → lookup test es ≡ Some v
      → ((k : K) → P (k, v) → P (k, w)) → All P es → All P (set_value test es w)
  All-set_value P [] v w h more all = all
  All-set_value P (e ∷ es) v w h more all =
      (elim (test e.0) as (λ b. cond b (Some e.1) (lookup test es) ≡ Some v
      → All P (cond b ((e.0, w) ∷ es) (e ∷ set_value test es w))) [
        | true ↦ λ s.
            let same : e.1 ≡ v = cc in
            let had : P (e.0, v) = subst (λ u. P (e.0, u)) same (All-head P e es all) in
            All-cons P (e.0, w) es (more e.0 had) (All-tail P e es all)
        | false ↦ λ s. All-cons P e (set_value test es w) (All-head P e es all)
            (All-set_value P es v w s more (All-tail P e es all))
      ]) h

  -- a look-up then finds it
  pub lookup-set_value_same : (es : List (K × X)) (v w : X) → lookup test es ≡ Some v
      → lookup test (set_value test es w) ≡ Some w
  lookup-set_value_same [] v w h = absurd cc
  lookup-set_value_same (e ∷ es) v w h =
      (elim (test e.0) as (λ b. test e.0 ≡ b → cond b (Some e.1) (lookup test es) ≡ Some v
      → lookup test (cond b ((e.0, w) ∷ es) (e ∷ set_value test es w)) ≡ Some w) [
        | true ↦ λ t s. rw t refl
        | false ↦ λ t s. rw t (lookup-set_value_same es v w s)
      ]) refl h

  -- ---- what a look-up finds

  -- if the search finds no entry, none exists to remove
  pub remove_entry-none : (es : List (K × X)) → lookup test es ≡ None → remove_entry test es ≡ es
  remove_entry-none [] h = refl
  remove_entry-none (e ∷ es) h =
      (elim (test e.0) as (λ b. cond b (Some e.1) (lookup test es) ≡ None
      → cond b es (e ∷ remove_entry test es) ≡ e ∷ es) [
        | true ↦ λ s. absurd cc
        | false ↦ λ s. ap (λ l. e ∷ l) (remove_entry-none es s)
      ]) h

  pub lookup_entry-none : (es : List (K × X)) → lookup test es ≡ None → lookup_entry test es ≡ None
  lookup_entry-none [] h = refl
  lookup_entry-none (e ∷ es) h =
      (elim (test e.0) as (λ b. cond b (Some e.1) (lookup test es) ≡ None
      → cond b (Some e) (lookup_entry test es) ≡ None) [
        | true ↦ λ s. absurd cc
        | false ↦ λ s. lookup_entry-none es s
      ]) h

  -- the entry that is found is the value under a key that passes
  pub record Found (P : K × X → Type 0) (es : List (K × X)) (v : X) : Type 0 where
    pub key : K
    pub entry : lookup_entry test es ≡ Some (key, v)
    pub passes : test key ≡ true
    pub so : P (key, v)

  pub found : (P : K × X → Type 0) (es : List (K × X)) (v : X) → lookup test es ≡ Some v → All P es
      → Found P es v
  found P [] v h all = absurd cc
  found P (e ∷ es) v h all =
      (elim (test e.0) as (λ b. test e.0 ≡ b → cond b (Some e.1) (lookup test es) ≡ Some v → Found P (e ∷ es) v) [
        | true ↦ λ t s.
            let same : e.1 ≡ v = cc in
            record {
              key = e.0;
              entry = rw t (ap (λ w. Some (e.0, w)) same);
              passes = t;
              so = subst (λ w. P (e.0, w)) same (All-head P e es all);
            }
        | false ↦ λ t s.
            let on = found P es v s (All-tail P e es all) in
            record {
              key = on.key;
              entry = rw t on.entry;
              passes = on.passes;
              so = on.so;
            }
      ]) refl h

module _ {X : Type 0} where
  -- ---- a list, cut

  slice_get-cut : (xs : List X) (x : X) (ys : List X) → slice_get (xs ++ x ∷ ys) (length xs) ≡ Some x
  slice_get-cut [] x ys = refl
  slice_get-cut (z ∷ xs) x ys =
      let more : length (z ∷ xs) ≡ suc (length xs) = omega arith in
      ap (slice_get (z ∷ xs ++ x ∷ ys)) more ∙ slice_get-cut xs x ys

  take-cut : (xs ys : List X) → take (length xs) (xs ++ ys) ≡ xs
  take-cut [] ys = refl
  take-cut (z ∷ xs) ys =
      let more : length (z ∷ xs) ≡ suc (length xs) = omega arith in
      ap (λ n. take n (z ∷ xs ++ ys)) more ∙ ap (λ l. z ∷ l) (take-cut xs ys)

  -- at an index within it
  pub cut_at : (xs : List X) (i : ℕ) → i < length xs
      → (us : List X) × (x : X) × (vs : List X) × (xs ≡ us ++ x ∷ vs) × (length us ≡ i) × (drop i xs ≡ x ∷ vs)
  cut_at [] i h = absurd (omega arith)
  cut_at (x ∷ xs) zero h = ([], x, xs, refl, refl, refl)
  cut_at (x ∷ xs) (suc i) h =
      let on = cut_at xs i (omega arith) in
      let long = on.4 in
      (x ∷ on.0, on.1, on.2, ap (λ l. x ∷ l) on.3, omega arith, on.5)

  -- before its last
  pub cut_end : (xs : List X) → 0 < length xs → (us : List X) × (x : X) × (xs ≡ us ++ x ∷ [])
  cut_end [] h = absurd (omega arith)
  cut_end (x ∷ []) h = ([], x, refl)
  cut_end (x ∷ y ∷ xs) h =
      let on = cut_end (y ∷ xs) (omega arith) in
      (x ∷ on.0, on.1, ap (λ l. x ∷ l) on.2)

  pub last_of_push : (xs : List X) (x : X)
      → (slice_get (xs ++ x ∷ []) (length (xs ++ x ∷ []) - 1) ≡ Some x)
      × (take (length (xs ++ x ∷ []) - 1) (xs ++ x ∷ []) ≡ xs)
  last_of_push xs x =
      let less : length (xs ++ x ∷ []) - 1 ≡ length xs = omega (arith, length-append xs (x ∷ [])) in (
        ap (slice_get (xs ++ x ∷ [])) less ∙ slice_get-cut xs x [],
        ap (λ n. take n (xs ++ x ∷ [])) less ∙ take-cut xs (x ∷ []),
      )
