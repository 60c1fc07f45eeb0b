-- What a change of the links leaves of the ring that they make.
use Rattle.std.proofs.Common.{◌≡◌, ◌≢◌, ℕ, zero, suc, ◌<◌, false, nat_eq}
use Rattle.std.proofs.Common.{List, [], ◌∷◌, ◌++◌, length, slice_index, slice_set}
use Rattle.std.proofs.Common.{refl, sym, ap, ◌∙◌}
use Rattle.std.proofs.lemmas.Bool.{or_parts}
use Rattle.std.proofs.lemmas.Grind.{get_or-set_at}
use Rattle.std.proofs.lemmas.List.{length-set, get_or-set_other}
use Rattle.tile_store.specs.Links.{is_in, walk, Path}
use Rattle.tile_store.proofs.PlaceLemmas.{differs}

-- ---- the ring

-- a walk along a path goes through its numbers
pub walk_is : (next prev : List ℕ) (at end : ℕ) (xs : List ℕ) → Path next prev at (xs ++ end ∷ [])
    → walk next (length xs) at ≡ xs
walk_is next prev at end [] path = refl
walk_is next prev at end (x ∷ xs) path =
    rw path.0 (ap (λ l. x ∷ l) (walk_is next prev x end xs path.2))

pub length-walk : (next : List ℕ) (count at : ℕ) → length (walk next count at) ≡ count
length-walk next zero at = refl
length-walk next (suc count) at = ap suc (length-walk next count (slice_index next at))

-- ---- a place leaves

module _ (next prev : List ℕ) (before after p : ℕ) (to : slice_index next before ≡ p) (from : slice_index prev after ≡ p) where
  -- a path on which the place is not stays as it is
  pub kept_path : (at : ℕ) (xs : List ℕ) → p ≢ at → is_in p xs ≡ false → Path next prev at xs
      → Path (slice_set next before after) (slice_set prev after before) at xs
  kept_path at [] other out path = tt
  kept_path at (x ∷ xs) other out path =
      let parts = or_parts (nat_eq p x) (is_in p xs) out in
      let apart : p ≢ x = differs p x parts.0 in
      let off : at ≢ before = λ e. apart (sym to ∙ ap (slice_index next) (sym e) ∙ path.0) in
      let away : x ≢ after = λ e. other (sym from ∙ ap (slice_index prev) (sym e) ∙ path.1) in (
        get_or-set_other next before at after 0 off ∙ path.0,
        get_or-set_other prev after x before 0 away ∙ path.1,
        kept_path x xs apart parts.1 path.2,
      )

  pub path_without : (at y : ℕ) (front back : List ℕ) → before < length next → after < length prev
      → slice_index prev p ≡ before → slice_index next p ≡ after
      → p ≢ at → is_in p front ≡ false → is_in p (y ∷ back) ≡ false
      → Path next prev at (front ++ p ∷ y ∷ back)
      → Path (slice_set next before after) (slice_set prev after before) at (front ++ y ∷ back)
  path_without at y [] back in_next in_prev is_before is_after other no_front out path =
      let parts = or_parts (nat_eq p y) (is_in p back) out in
      let here : at ≡ before = sym path.1 ∙ is_before in
      let there : y ≡ after = sym path.2.0 ∙ is_after in (
        get_or-set_at next before at after 0 here in_next ∙ sym there,
        get_or-set_at prev after y before 0 there in_prev ∙ sym here,
        kept_path y back (differs p y parts.0) parts.1 path.2.2,
      )
  path_without at y (x ∷ front) back in_next in_prev is_before is_after other no_front out path =
      let parts = or_parts (nat_eq p x) (is_in p front) no_front in
      let apart : p ≢ x = differs p x parts.0 in
      let off : at ≢ before = λ e. apart (sym to ∙ ap (slice_index next) (sym e) ∙ path.0) in
      let away : x ≢ after = λ e. other (sym from ∙ ap (slice_index prev) (sym e) ∙ path.1) in (
        get_or-set_other next before at after 0 off ∙ path.0,
        get_or-set_other prev after x before 0 away ∙ path.1,
        path_without x y front back in_next in_prev is_before is_after apart parts.1 out path.2,
      )

-- the place before a place links to it, and the place after it links back
pub named_by : (next prev : List ℕ) (at p y : ℕ) (front back : List ℕ)
    → Path next prev at (front ++ p ∷ y ∷ back)
    → (slice_index next (slice_index prev p) ≡ p) × (slice_index prev (slice_index next p) ≡ p)
named_by next prev at p y [] back path =
    (ap (slice_index next) path.1 ∙ path.0, ap (slice_index prev) path.2.0 ∙ path.2.1)
named_by next prev at p y (x ∷ front) back path = named_by next prev x p y front back path.2

-- ---- a place becomes the first

module _ (next prev : List ℕ) (root first p : ℕ) (to : slice_index next root ≡ first) where
  abbrev pub new_next : List ℕ
  new_next = slice_set (slice_set next root p) p first

  abbrev pub new_prev : List ℕ
  new_prev = slice_set (slice_set prev p root) first p

  pub path_behind : (at : ℕ) (xs : List ℕ) → p ≢ at → is_in p xs ≡ false → is_in first xs ≡ false
      → Path next prev at xs → Path new_next new_prev at xs
  path_behind at [] other out no_first path = tt
  path_behind at (x ∷ xs) other out no_first path =
      let parts = or_parts (nat_eq p x) (is_in p xs) out in
      let firsts = or_parts (nat_eq first x) (is_in first xs) no_first in
      let apart : p ≢ x = differs p x parts.0 in
      let behind : first ≢ x = differs first x firsts.0 in
      let off : at ≢ root = λ e. behind (sym to ∙ ap (slice_index next) (sym e) ∙ path.0) in (
        get_or-set_other (slice_set next root p) p at first 0 (λ e. other (sym e))
            ∙ get_or-set_other next root at p 0 off ∙ path.0,
        get_or-set_other (slice_set prev p root) first x p 0 (λ e. behind (sym e))
            ∙ get_or-set_other prev p x root 0 (λ e. apart (sym e)) ∙ path.1,
        path_behind x xs apart parts.1 firsts.1 path.2,
      )

  pub path_first : (xs : List ℕ) → root < length next → p < length next → p < length prev
      → first < length prev → p ≢ root → is_in p (first ∷ xs) ≡ false → is_in first xs ≡ false
      → Path next prev root (first ∷ xs) → Path new_next new_prev root (p ∷ first ∷ xs)
  path_first xs root_in in_next in_prev first_in other out no_first path =
      let parts = or_parts (nat_eq p first) (is_in p xs) out in
      let apart : p ≢ first = differs p first parts.0 in (
        get_or-set_other (slice_set next root p) p root first 0 (λ e. other (sym e))
            ∙ get_or-set_at next root root p 0 refl root_in,
        get_or-set_other (slice_set prev p root) first p p 0 apart
            ∙ get_or-set_at prev p p root 0 refl in_prev,
        (
          get_or-set_at (slice_set next root p) p p first 0 refl (rw (length-set next root p) in_next),
          get_or-set_at (slice_set prev p root) first first p 0 refl (rw (length-set prev p root) first_in),
          path_behind first xs apart parts.1 no_first path.2,
        ),
      )
