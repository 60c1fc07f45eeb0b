-- The levels that a file stores, one after the other.
use Rattle.std.proofs.Common.{◌≡◌, ℕ, zero, suc, ◌+◌, ◌<◌, Bool, true, false, List, [], ◌∷◌, ◌++◌}
use Rattle.std.proofs.Common.{Option, Some, None, refl, sym, ap, ◌∙◌, arith, add-zero, zero-add}
use Rattle.std.proofs.Common.{add-one, below_more, get_or, ◌≤◌}
use Rattle.std.specs.Option.{option_and_then, unwrap_or}
use Rattle.std.proofs.lemmas.Bool.{lt-leb}
use Rattle.std.proofs.lemmas.Option.{none-some}
use Rattle.std.proofs.lemmas.List.FromFn.{map-range_with_len_more, get_or-map-range_with_len}
use Rattle.tiff_format.specs.Form.{form_of, header_bytes}
use Rattle.tiff_format.specs.Directory.{lies_inside, next_directory, directory_place}
use Rattle.tiff_format.specs.Block.{Level}
use Rattle.tiff_format.specs.Level.{is_level, directory_level, level_place, leading, stored_levels}
use Rattle.tiff_format.specs.Level.{max_levels}
use Rattle.tiff_format.specs.DirectoryFault.{data_fault}
use Rattle.tiff_dirs.specs.NextLevel.{is_followed}
use Rattle.tiff_dirs.specs.Chain.{AreLevels, AreAll}
use Rattle.tiff_format.proofs.Sizes.{sizes}

-- ---- how many pass in a row

stop_at : (test : ℕ → Bool) (k t m : ℕ) → m < t → ((j : ℕ) → j < m → test (k + j) ≡ true)
    → test (k + m) ≡ false → leading test k t ≡ m
stop_at test k zero m lt each stop = absurd (omega arith)
stop_at test k (suc t) zero lt each stop =
    let e : test k ≡ false = rw add-zero at stop in rw e refl
stop_at test k (suc t) (suc m) lt each stop =
    let first : test k ≡ true = rw add-zero at (each 0 (omega arith)) in
    let end : suc k + m ≡ k + suc m = omega arith in
    let rest = stop_at test (suc k) t m (omega arith)
    (λ j below. let e : suc k + j ≡ k + suc j = omega arith in
    ap test e ∙ each (suc j) (omega arith)) (ap test end ∙ stop) in
    rw first (ap suc rest)

all_pass : (test : ℕ → Bool) (k t : ℕ) → ((j : ℕ) → j < t → test (k + j) ≡ true)
    → leading test k t ≡ t
all_pass test k zero each = refl
all_pass test k (suc t) each =
    let first : test k ≡ true = rw add-zero at (each 0 (omega arith)) in
    let rest = all_pass test (suc k) t
    (λ j below. let e : suc k + j ≡ k + suc j = omega arith in
    ap test e ∙ each (suc j) (omega arith)) in
    rw first (ap suc rest)

-- at least as many as pass
at_least : (test : ℕ → Bool) (k t m : ℕ) → m ≤ t → ((j : ℕ) → j < m → test (k + j) ≡ true)
    → m ≤ leading test k t
at_least test k t zero le each = omega arith
at_least test k zero (suc m) le each = absurd (omega arith)
at_least test k (suc t) (suc m) le each =
    let first : test k ≡ true = rw add-zero at (each 0 (omega arith)) in
    let rest = at_least test (suc k) t m (omega arith)
    (λ j below. let e : suc k + j ≡ k + suc j = omega arith in
    ap test e ∙ each (suc j) (omega arith)) in
    let more : suc m ≤ suc (leading test (suc k) t) = omega arith in
    rw first more

module _ (bytes : List ℕ) where
  -- ---- the levels so far

  pub one_level : (levels : List Level) → levels ≡ directory_level bytes 0 ∷ []
      → data_fault (form_of bytes) bytes 0 (directory_level bytes 0) ≡ None → AreLevels bytes 1 levels
  unfolding is_level
  one_level levels is good = record {
    blocks = λ k lt. let zero-is : k ≡ 0 = omega arith in
        rw zero-is good;
    each = λ k lt. let zero-is : k ≡ 0 = omega arith in
        ap (is_level bytes) zero-is;
    same = is;
  }

  pub more_levels : (n : ℕ) (levels : List Level) (level : Level) → AreLevels bytes n levels
      → is_level bytes n ≡ true → data_fault (form_of bytes) bytes n (directory_level bytes n) ≡ None
      → level ≡ directory_level bytes n
      → AreLevels bytes (n + 1) (levels ++ level ∷ [])
  more_levels n levels level are is good same = record {
    blocks = below_more _ _ are.blocks good;
    each = below_more _ _ are.each is;
    same = rw (are.same, same)
        (sym (map-range_with_len_more (directory_level bytes) 0 n n (zero-add n)));
  }

  -- level k of them
  pub level_of_all : (n k : ℕ) (levels : List Level) (d : Level) → AreLevels bytes n levels → k < n
      → get_or levels k d ≡ directory_level bytes k
  level_of_all n k levels d are lt =
      ap (λ (ls : List Level). get_or ls k d) are.same
      ∙ get_or-map-range_with_len (directory_level bytes) 0 n k k d lt (zero-add k)

  pub followed_is : (k : ℕ) (b : Bool) → is_level bytes k ≡ true
      → is_followed (form_of bytes) bytes (level_place bytes 0) (level_place bytes k) ≡ b
      → is_level bytes (k + 1) ≡ b
  unfolding is_level
  followed_is k b is followed = rw (add-one k, is) followed

  next_of_zero : next_directory (form_of bytes) bytes 0 ≡ None
  unfolding next_directory lies_inside
  next_of_zero =
      let low = lt-leb (header_bytes (form_of bytes)) 0
      (omega (arith, (sizes (form_of bytes)).low_header)) in
      rw low refl

  place_step : (place : Option ℕ) (next : ℕ)
      → next_directory (form_of bytes) bytes (unwrap_or place 0) ≡ Some next
      → unwrap_or (option_and_then (next_directory (form_of bytes) bytes) place) 0 ≡ next
  place_step None next h = absurd (none-some next (sym next_of_zero ∙ h))
  place_step (Some at) next h = rw h refl

  -- the place after a level's place
  pub place_more : (k next : ℕ)
      → next_directory (form_of bytes) bytes (level_place bytes k) ≡ Some next
      → level_place bytes (k + 1) ≡ next
  unfolding directory_place
  place_more k next h =
      rw (add-one k) (place_step (directory_place (form_of bytes) bytes k) next h)

  -- ---- all of them

  pub all_stored : (levels : List Level) (n : ℕ) → n < max_levels → AreLevels bytes n levels
      → is_level bytes n ≡ false → AreAll bytes levels
  unfolding stored_levels
  all_stored levels n lt are stop =
      let count = stop_at (is_level bytes) 0 max_levels n lt
      (λ j below. rw zero-add (are.each j below)) (rw zero-add stop) in
      rw count (are.same, stop)

  pub most_stored : (levels : List Level) → AreLevels bytes max_levels levels
      → is_level bytes max_levels ≡ false → AreAll bytes levels
  unfolding stored_levels
  most_stored levels are stop =
      let count = all_pass (is_level bytes) 0 max_levels
      (λ j below. rw zero-add (are.each j below)) in
      rw count (are.same, stop)

  -- the file stores the levels so far
  pub stored_so_far : (n : ℕ) → n ≤ max_levels → ((k : ℕ) → k < n → is_level bytes k ≡ true)
      → n ≤ stored_levels bytes
  unfolding stored_levels
  stored_so_far n le each =
      at_least (is_level bytes) 0 max_levels n le (λ j below. rw zero-add (each j below))
