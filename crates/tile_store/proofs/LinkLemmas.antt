-- Links with a place less or more are links again.
use Rattle.std.proofs.Common.{◌≡◌, ◌≢◌, ℕ, zero, suc, ◌+◌, ◌-◌, ◌<◌, ◌≤◌, ◌^◌, true, false, nat_eq}
use Rattle.std.proofs.Common.{List, [], ◌∷◌, ◌++◌, length, slice_index, slice_set, get_or}
use Rattle.std.proofs.Common.{replicate, Some, None}
use Rattle.std.proofs.Common.{refl, sym, ap, ◌∙◌, subst, append_assoc, ⊎_elim, arith}
use Rattle.std.specs.List.{IsDistinct}
use Rattle.std.proofs.lemmas.Bool.{eq-eqb, eqb-true, ne_eqb, or_parts, or_from, false≢true}
use Rattle.std.proofs.lemmas.Bool.{or_left, or_right, or_cases}
use Rattle.std.proofs.lemmas.List.{length-set, get_or_default}
use Rattle.std.proofs.lemmas.List.{length-replicate, get_or-replicate}
use Rattle.std.proofs.lemmas.Map.Steps.{length-le_from_distinct_below}
use Rattle.tile_store.specs.Links.{is_in, without, last_of, walk, Path, AreLinks}
use Rattle.tile_store.proofs.PlaceLemmas.{Cut, apart_as, apart_from, cut, distinct-without, in-without, length-without}
use Rattle.tile_store.proofs.RingLemmas.{length-walk, named_by, path_first, path_without, walk_is}

-- ---- the whole

-- a list that ends has a first
pub record Headed (xs : List ℕ) : Type 0 where
  pub first : ℕ
  pub rest : List ℕ
  pub parts : xs ≡ first ∷ rest

pub headed : (xs : List ℕ) (end : ℕ) → Headed (xs ++ end ∷ [])
headed [] end = record { first = end; rest = []; parts = refl }
headed (x ∷ xs) end = record { first = x; rest = xs ++ end ∷ []; parts = refl }

pub is_in-end : (p : ℕ) (xs : List ℕ) (end : ℕ) → is_in p xs ≡ false → p ≢ end
    → is_in p (xs ++ end ∷ []) ≡ false
is_in-end p [] end out other = or_from (nat_eq p end) false (ne_eqb p end other) refl
is_in-end p (x ∷ xs) end out other =
    let parts = or_parts (nat_eq p x) (is_in p xs) out in
    or_from (nat_eq p x) (is_in p (xs ++ end ∷ [])) parts.0 (is_in-end p xs end parts.1 other)

-- a number that fits in place of another
pub inside_set : (xs : List ℕ) (i v root : ℕ) → ((j : ℕ) → slice_index xs j ≤ root) → v ≤ root
    → (j : ℕ) → slice_index (slice_set xs i v) j ≤ root
inside_set [] i v root all low j = all j
inside_set (x ∷ xs) zero v root all low zero = low
inside_set (x ∷ xs) zero v root all low (suc j) = all (suc j)
inside_set (x ∷ xs) (suc i) v root all low zero = all zero
inside_set (x ∷ xs) (suc i) v root all low (suc j) =
    inside_set xs i v root (λ k. all (suc k)) low j

-- links with one change each on both sides
pub record Relinked (next prev : List ℕ) (root len : ℕ) (order : List ℕ) : Type 0 where
  pub links : AreLinks next prev root len
  pub order_is : walk next len root ≡ order

-- a ring through an order makes the links of it
pub relinked : (next prev : List ℕ) (root len : ℕ) (order : List ℕ) → length next ≡ root + 1
    → length prev ≡ root + 1 → ((i : ℕ) → slice_index next i ≤ root)
    → ((i : ℕ) → slice_index prev i ≤ root) → root < 2 ^ 32
    → Path next prev root (order ++ root ∷ []) → ((p : ℕ) → is_in p order ≡ true → p < root)
    → IsDistinct nat_eq order → length order ≡ len → Relinked next prev root len order
relinked next prev root len order next_length prev_length next_in prev_in few ring below distinct size =
    let walks : walk next len root ≡ order =
    subst (λ n. walk next n root ≡ order) size (walk_is next prev root root order ring) in
    record {
      links = record {
        next_length = next_length;
        prev_length = prev_length;
        next_inside = next_in;
        prev_inside = prev_in;
        few = few;
        ring = subst (λ l. Path next prev root (l ++ root ∷ [])) (sym walks) ring;
        below = subst (λ l. (p : ℕ) → is_in p l ≡ true → p < root) (sym walks) below;
        distinct = subst (λ l. IsDistinct nat_eq l) (sym walks) distinct;
      };
      order_is = walks;
    }

module _ (next prev : List ℕ) (root len p before after : ℕ) (links : AreLinks next prev root len) where
  pub removed : before ≡ get_or prev p before → after ≡ get_or next p after
      → is_in p (walk next len root) ≡ true
      → Relinked (slice_set next before after) (slice_set prev after before) root (len - 1)
      (without p (walk next len root))
  removed before_got after_got has =
      let o : List ℕ = walk next len root in
      let low : p < root = links.below p has in
      let next_length = links.next_length in
      let prev_length = links.prev_length in
      let before_is : before ≡ slice_index prev p = before_got ∙ get_or_default prev p before 0 (omega arith) in
      let after_is : after ≡ slice_index next p = after_got ∙ get_or_default next p after 0 (omega arith) in
      let k : Cut p o = cut p o links.distinct has in
      let h : Headed (k.back ++ root ∷ []) = headed k.back root in
      let path : Path next prev root (k.front ++ p ∷ h.first ∷ h.rest) =
      subst (Path next prev root)
      (ap (λ l. l ++ root ∷ []) k.parts ∙ append_assoc k.front (p ∷ k.back) (root ∷ [])
      ∙ ap (λ l. k.front ++ p ∷ l) h.parts) links.ring in
      let names = named_by next prev root p h.first k.front h.rest path in
      let to : slice_index next before ≡ p = ap (slice_index next) before_is ∙ names.0 in
      let from : slice_index prev after ≡ p = ap (slice_index prev) after_is ∙ names.1 in
      let other : p ≢ root = λ (e : p ≡ root). omega arith in
      let clear : is_in p (h.first ∷ h.rest) ≡ false =
      subst (λ l. is_in p l ≡ false) h.parts (is_in-end p k.back root k.behind other) in
      let before_low : before ≤ root = subst (λ x. x ≤ root) (sym before_is) (links.prev_inside p) in
      let after_low : after ≤ root = subst (λ x. x ≤ root) (sym after_is) (links.next_inside p) in
      let new : Path (slice_set next before after) (slice_set prev after before) root
      (k.front ++ h.first ∷ h.rest) =
      path_without next prev before after p to from root h.first k.front h.rest
      (omega arith) (omega arith) (sym before_is) (sym after_is) other k.before clear path in
      let ring : Path (slice_set next before after) (slice_set prev after before) root
      (without p o ++ root ∷ []) =
      subst (Path (slice_set next before after) (slice_set prev after before) root)
      (sym (ap (λ l. l ++ root ∷ []) k.left ∙ append_assoc k.front k.back (root ∷ [])
      ∙ ap (λ l. k.front ++ l) h.parts)) new in
      let count = length-without p o has in
      let size = length-walk next len root in
      relinked (slice_set next before after) (slice_set prev after before) root (len - 1) (without p o)
      (length-set next before after ∙ next_length) (length-set prev after before ∙ prev_length)
      (inside_set next before after root links.next_inside after_low)
      (inside_set prev after before root links.prev_inside before_low)
      links.few ring (λ q is. links.below q (in-without q p o is))
      (distinct-without p o links.distinct) (omega arith)

-- no more places are in the order than there are
pub few_in : (next prev : List ℕ) (root len : ℕ) → AreLinks next prev root len → len ≤ root
few_in next prev root len links =
    omega (
      arith,
      length-walk next len root,
      length-le_from_distinct_below (walk next len root) root links.distinct links.below,
    )

pub first_apart : (xs : List ℕ) (end : ℕ) → IsDistinct nat_eq xs → ((p : ℕ) → is_in p xs ≡ true → p < end)
    → is_in (headed xs end).first (headed xs end).rest ≡ false
unfolding IsDistinct headed
first_apart [] end distinct below = refl
first_apart (x ∷ xs) end distinct below =
    let here : is_in x (x ∷ xs) ≡ true = rw (eq-eqb x x refl) refl in
    let low : x < end = below x here in
    is_in-end x xs end (apart_from x xs distinct.0) (λ (e : x ≡ end). omega arith)

pub below_first : (p : ℕ) (xs : List ℕ) (root : ℕ) → p < root
    → ((q : ℕ) → is_in q xs ≡ true → q < root) → (q : ℕ) → is_in q (p ∷ xs) ≡ true → q < root
below_first p xs root low below q is =
    ⊎_elim (λ e. subst (λ x. x < root) (sym (eqb-true q p e)) low) (below q)
    (or_cases (nat_eq q p) (is_in q xs) is)

pub distinct_first : (p : ℕ) (xs : List ℕ) → is_in p xs ≡ false → IsDistinct nat_eq xs
    → IsDistinct nat_eq (p ∷ xs)
unfolding IsDistinct
distinct_first p xs out distinct = (apart_as p xs out, distinct)

-- if a place is not in the order, fewer than all places are
pub fewer_in : (next prev : List ℕ) (root len p : ℕ) → AreLinks next prev root len → p < root
    → is_in p (walk next len root) ≡ false → len + 1 ≤ root
fewer_in next prev root len p links low out =
    let o : List ℕ = walk next len root in
    omega (
      arith,
      length-walk next len root,
      length-le_from_distinct_below (p ∷ o) root (distinct_first p o out links.distinct)
          (below_first p o root low links.below),
    )

module _ (next prev : List ℕ) (root len p after : ℕ) (links : AreLinks next prev root len) where
  pub pushed : after ≡ get_or next root after → p < root → is_in p (walk next len root) ≡ false
      → Relinked (slice_set (slice_set next root p) p after) (slice_set (slice_set prev p root) after p)
      root (len + 1) (p ∷ walk next len root)
  pushed after_got low out =
      let o : List ℕ = walk next len root in
      let next_length = links.next_length in
      let prev_length = links.prev_length in
      let after_is : after ≡ slice_index next root = after_got ∙ get_or_default next root after 0 (omega arith) in
      let after_low : after ≤ root = subst (λ x. x ≤ root) (sym after_is) (links.next_inside root) in
      let h : Headed (o ++ root ∷ []) = headed o root in
      let path : Path next prev root (h.first ∷ h.rest) = subst (Path next prev root) h.parts links.ring in
      let same : h.first ≡ after = sym path.0 ∙ sym after_is in
      let other : p ≢ root = λ (e : p ≡ root). omega arith in
      let clear : is_in p (after ∷ h.rest) ≡ false =
      subst (λ x. is_in p (x ∷ h.rest) ≡ false) same
      (subst (λ l. is_in p l ≡ false) h.parts (is_in-end p o root out other)) in
      let lone : is_in after h.rest ≡ false =
      subst (λ x. is_in x h.rest ≡ false) same (first_apart o root links.distinct links.below) in
      let here : Path next prev root (after ∷ h.rest) = subst (λ x. Path next prev root (x ∷ h.rest)) same path in
      let new = path_first next prev root after p (sym after_is) h.rest (omega arith) (omega arith)
      (omega arith) (omega arith) other clear lone here in
      let all : o ++ root ∷ [] ≡ after ∷ h.rest = h.parts ∙ ap (λ x. x ∷ h.rest) same in
      let next_new = slice_set (slice_set next root p) p after in
      let prev_new = slice_set (slice_set prev p root) after p in
      let ring : Path next_new prev_new root (p ∷ o ++ root ∷ []) =
      subst (λ l. Path next_new prev_new root (p ∷ l)) (sym all) new in
      let size = length-walk next len root in
      relinked next_new prev_new root (len + 1) (p ∷ o)
      (length-set (slice_set next root p) p after ∙ length-set next root p ∙ next_length)
      (length-set (slice_set prev p root) after p ∙ length-set prev p root ∙ prev_length)
      (inside_set (slice_set next root p) p after root
      (inside_set next root p root links.next_inside (omega arith)) after_low)
      (inside_set (slice_set prev p root) after p root
      (inside_set prev p root root links.prev_inside (omega arith)) (omega arith))
      links.few ring (below_first p o root low links.below)
      (distinct_first p o out links.distinct) (omega arith)

-- ---- the last place, and the one before a place

-- the last of these numbers
abbrev pub end_of : ℕ → List ℕ → ℕ
end_of at [] = at
end_of at (x ∷ xs) = end_of x xs

pub before_is_end : (next prev : List ℕ) (at y : ℕ) (xs rest : List ℕ) → Path next prev at (xs ++ y ∷ rest)
    → slice_index prev y ≡ end_of at xs
before_is_end next prev at y [] rest path = path.1
before_is_end next prev at y (x ∷ xs) rest path = before_is_end next prev x y xs rest path.2

pub last_end : (x : ℕ) (xs : List ℕ) → last_of (x ∷ xs) ≡ Some (end_of x xs)
last_end x [] = refl
last_end x (y ∷ ys) =
    let e : length (x ∷ y ∷ ys) - 1 ≡ suc (length (y ∷ ys) - 1) = omega arith in
    rw e (last_end y ys)

pub end_in : (x : ℕ) (xs : List ℕ) → is_in (end_of x xs) (x ∷ xs) ≡ true
end_in x [] = rw (eq-eqb x x refl) refl
end_in x (y ∷ ys) = or_right (nat_eq (end_of y ys) x) (is_in (end_of y ys) (y ∷ ys)) (end_in y ys)

pub no_last : (root : ℕ) (xs : List ℕ) → ((p : ℕ) → is_in p xs ≡ true → p < root)
    → end_of root xs ≡ root → None ≡ last_of xs
no_last root [] below is = refl
no_last root (x ∷ xs) below is =
    let low : end_of x xs < root = below (end_of x xs) (end_in x xs) in
    absurd (omega arith)

pub some_last : (root at : ℕ) (xs : List ℕ) → end_of root xs ≡ at → at ≢ root → Some at ≡ last_of xs
some_last root at [] is other = absurd (other (sym is))
some_last root at (x ∷ xs) is other = ap Some (sym is) ∙ sym (last_end x xs)

pub in_front : (p : ℕ) (front back : List ℕ) → is_in p front ≡ true → is_in p (front ++ back) ≡ true
in_front p [] back has = absurd (false≢true has)
in_front p (x ∷ front) back has =
    ⊎_elim (λ e. or_left (nat_eq p x) (is_in p (front ++ back)) e)
    (λ more. or_right (nat_eq p x) (is_in p (front ++ back)) (in_front p front back more))
    (or_cases (nat_eq p x) (is_in p front) has)

-- ---- no place yet

pub none_distinct : IsDistinct nat_eq []
unfolding IsDistinct
none_distinct = tt

pub inside_all : (count root : ℕ) → (i : ℕ) → slice_index (replicate count root) i ≤ root
inside_all zero root i = omega arith
inside_all (suc count) root zero = omega arith
inside_all (suc count) root (suc i) = inside_all count root i

pub none_linked : (next prev : List ℕ) (root : ℕ) → root < 2 ^ 32 → next ≡ replicate (root + 1) root
    → prev ≡ replicate (root + 1) root → AreLinks next prev root 0
none_linked next prev root few n p =
    let all : List ℕ = replicate (root + 1) root in
    let at : slice_index all root ≡ root = get_or-replicate (root + 1) root root 0 (omega arith) in
    let links : AreLinks all all root 0 = record {
      next_length = length-replicate (root + 1) root;
      prev_length = length-replicate (root + 1) root;
      next_inside = inside_all (root + 1) root;
      prev_inside = inside_all (root + 1) root;
      few = few;
      ring = (at, at, tt);
      below = λ q h. absurd (false≢true h);
      distinct = none_distinct;
    } in
    subst (λ l. AreLinks l prev root 0) (sym n) (subst (λ l. AreLinks all l root 0) (sym p) links)

pub below_front : (root : ℕ) (order front back : List ℕ) → order ≡ front ++ back
    → ((p : ℕ) → is_in p order ≡ true → p < root) → (p : ℕ) → is_in p front ≡ true → p < root
below_front root order front back parts below p has =
    below p (ap (is_in p) parts ∙ in_front p front back has)
