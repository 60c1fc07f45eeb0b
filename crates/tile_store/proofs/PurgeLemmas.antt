-- The entries of a shard as they are turned round, and the stale ones leave.
use Rattle.std.proofs.Common.{◌≡◌, ℕ, ◌+◌, ◌<◌, true, false, cond, not, nat_eq}
use Rattle.std.proofs.Common.{[], ◌∷◌, ◌++◌, length, take, drop, Some, refl, sym, ap, ◌∙◌, subst}
use Rattle.std.proofs.Common.{arith, append_assoc, append-nil, length-append}
use Rattle.std.specs.List.{IsDistinct}
use Rattle.std.specs.Map.{keys_of, values_of, lookup_entry, remove_entry}
use Rattle.std.proofs.Math.Seq.{take-append_seam, drop-append_seam, take-length, drop-length}
use Rattle.std.proofs.lemmas.List.{length-take}
use Rattle.std.proofs.lemmas.Bool.{eq-eqb}
use Rattle.std.proofs.lemmas.List.Sums.{sum_by-cons}
use Rattle.tile_store.specs.CachedTile.{EntryState, Entries, unpinned_bytes, loose_bytes}
use Rattle.tile_store.specs.Changes.{is_stale, without_stale}
use Rattle.tile_store.specs.Leaving.{last_entry, promoted, all_but_last, turned}
use Rattle.tile_store.proofs.MapLemmas.{cut_at, cut_end, last_of_push}
use Rattle.tile_store.proofs.EvictLemmas.{sum_at, remove_at, key_at, apart}

module _ (file below : ℕ) where
  -- the first k entries are still to be checked, and the others come before them
  abbrev pub turned_to : ℕ → Entries → Entries
  turned_to k es = without_stale file below (drop k es) ++ take k es

  turned-push : (xs : Entries) (x : ℕ × EntryState)
      → turned file below (xs ++ x ∷ []) ≡ cond (is_stale file below x) xs (x ∷ xs)
  turned-push xs x = let last = last_of_push xs x in rw (last.0, last.1) refl

  turned_at : (us : Entries) (x : ℕ × EntryState) (vs : Entries)
      → turned file below (turned_to (length us + 1) (us ++ x ∷ vs))
      ≡ turned_to (length us) (us ++ x ∷ vs)
  turned_at us x vs =
      let more : Entries = us ++ x ∷ [] in
      let long : length more ≡ length us + 1 = length-append us (x ∷ []) in
      let same : more ++ vs ≡ us ++ x ∷ vs = append_assoc us (x ∷ []) vs in
      let front : take (length us + 1) (us ++ x ∷ vs) ≡ more =
      ap (λ l. take (length us + 1) l) (sym same) ∙ ap (λ n. take n (more ++ vs)) (sym long)
      ∙ take-append_seam more vs in
      let back : drop (length us + 1) (us ++ x ∷ vs) ≡ vs =
      ap (λ l. drop (length us + 1) l) (sym same) ∙ ap (λ n. drop n (more ++ vs)) (sym long)
      ∙ drop-append_seam more vs in
      let kept : Entries = without_stale file below vs in
      let was : turned_to (length us + 1) (us ++ x ∷ vs) ≡ (kept ++ us) ++ x ∷ [] =
      rw (front, back) (sym (append_assoc kept us (x ∷ []))) in
      let is : turned_to (length us) (us ++ x ∷ vs) ≡ without_stale file below (x ∷ vs) ++ us =
      rw (take-append_seam us (x ∷ vs), drop-append_seam us (x ∷ vs)) refl in
      let step : cond (is_stale file below x) (kept ++ us) (x ∷ (kept ++ us))
      ≡ without_stale file below (x ∷ vs) ++ us =
      elim (is_stale file below x) as (λ b. cond b (kept ++ us) (x ∷ (kept ++ us))
      ≡ cond (not b) (x ∷ kept) kept ++ us) [ true ↦ refl | false ↦ refl ] in
      ap (turned file below) was ∙ turned-push (kept ++ us) x ∙ step ∙ sym is

  -- one more is turned
  pub turned-turned_to : (k : ℕ) (es : Entries) → k < length es
      → turned file below (turned_to (k + 1) es) ≡ turned_to k es
  turned-turned_to k es h =
      let cut = cut_at es k h in
      let at = turned_at cut.0 cut.1 cut.2 in
      let here : turned file below (turned_to (k + 1) (cut.0 ++ cut.1 ∷ cut.2))
      ≡ turned_to k (cut.0 ++ cut.1 ∷ cut.2) =
      subst (λ n. turned file below (turned_to (n + 1) (cut.0 ++ cut.1 ∷ cut.2))
      ≡ turned_to n (cut.0 ++ cut.1 ∷ cut.2)) cut.4 at in
      subst (λ l. turned file below (turned_to (k + 1) l) ≡ turned_to k l) (sym cut.3) here

-- ---- the last entry

-- what its taking and its promotion leave
pub record LastTurns (e : ℕ × EntryState) (es : Entries) : Type 0 where
  pub taken : loose_bytes (all_but_last es) + unpinned_bytes e.1 ≡ loose_bytes es
  pub removed_is : remove_entry (nat_eq e.0) es ≡ all_but_last es
  pub promoted_is : promoted e.0 es ≡ e ∷ all_but_last es
  pub turned_loose : loose_bytes (e ∷ all_but_last es) ≡ loose_bytes es

lookup_at : (front : Entries) (x : ℕ × EntryState) (back : Entries)
    → IsDistinct nat_eq (keys_of (front ++ x ∷ back))
    → lookup_entry (nat_eq x.0) (front ++ x ∷ back) ≡ Some x
unfolding IsDistinct
lookup_at [] x back distinct = rw (eq-eqb x.0 x.0 refl) refl
lookup_at (f ∷ front) x back distinct =
    let other : nat_eq f.0 x.0 ≡ false =
    key_at (λ k. nat_eq f.0 k ≡ false) front x back distinct.0 in
    rw (apart f.0 x.0 other) (lookup_at front x back distinct.1)

last_turns_at : (us : Entries) (x : ℕ × EntryState) → IsDistinct nat_eq (keys_of (us ++ x ∷ []))
    → LastTurns x (us ++ x ∷ [])
last_turns_at us x distinct =
    let front : all_but_last (us ++ x ∷ []) ≡ us = (last_of_push us x).1 in
    let removed : remove_entry (nat_eq x.0) (us ++ x ∷ []) ≡ us =
    remove_at us x [] distinct ∙ append-nil us in
    let sum : loose_bytes (us ++ x ∷ []) ≡ loose_bytes us + unpinned_bytes x.1 =
    sum_at unpinned_bytes us x [] ∙ ap (λ l. loose_bytes l + unpinned_bytes x.1) (append-nil us) in
    record {
      taken = ap (λ l. loose_bytes l + unpinned_bytes x.1) front ∙ sym sum;
      removed_is = removed ∙ sym front;
      promoted_is = rw (lookup_at us x [] distinct, removed, front) refl;
      turned_loose = ap (λ l. loose_bytes (x ∷ l)) front
          ∙ (omega (arith, sum, sum_by-cons unpinned_bytes x.1 (values_of us)));
    }

pub last_turns : (e : ℕ × EntryState) (es : Entries) → IsDistinct nat_eq (keys_of es)
    → last_entry es ≡ Some e → 0 < length es → LastTurns e es
last_turns e es distinct h some =
    let cut = cut_end es some in
    let last = last_of_push cut.0 cut.1 in
    let was : Some cut.1 ≡ Some e = sym last.0 ∙ ap last_entry (sym cut.2) ∙ h in
    let same : cut.1 ≡ e = cc in
    let at : LastTurns cut.1 (cut.0 ++ cut.1 ∷ []) =
    last_turns_at cut.0 cut.1 (subst (λ l. IsDistinct nat_eq (keys_of l)) cut.2 distinct) in
    subst (λ x. LastTurns x es) same (subst (LastTurns cut.1) (sym cut.2) at)

pub turned-last : (file below : ℕ) (e : ℕ × EntryState) (es : Entries) → last_entry es ≡ Some e
    → turned file below es ≡ cond (is_stale file below e) (all_but_last es) (e ∷ all_but_last es)
turned-last file below e es h = rw h refl

-- ---- the loop

-- k entries are still to be checked, and those that left had these bytes
pub record Turning (file below k bytes : ℕ) (was now : Entries) : Type 0 where
  pub entries : now ≡ turned_to file below k was
  pub bytes_are : loose_bytes now + bytes ≡ loose_bytes was

pub turned_to-all : (file below : ℕ) (es : Entries) → turned_to file below (length es) es ≡ es
turned_to-all file below es =
    rw (drop-length es, take-length es) refl

pub turned_to-none : (file below : ℕ) (es : Entries)
    → turned_to file below 0 es ≡ without_stale file below es
turned_to-none file below es = append-nil (without_stale file below es)

pub turned_to-some : (file below k : ℕ) (es : Entries) → k < length es
    → 0 < length (turned_to file below (k + 1) es)
turned_to-some file below k es h = omega (
  arith,
  length-append (without_stale file below (drop (k + 1) es)) (take (k + 1) es),
  length-take (k + 1) es,
)
