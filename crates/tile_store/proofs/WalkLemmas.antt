-- The last entry, and a walk from it to the front.
use Rattle.std.proofs.Common.{◌≡◌, ℕ, ◌+◌, ◌-◌, ◌<◌, ◌≤◌, true, false}
use Rattle.std.proofs.Common.{List, [], ◌∷◌, ◌++◌, length, length-append, append_assoc, take, drop, Option, Some, None, option_map}
use Rattle.std.proofs.Common.{refl, sym, ap, ◌∙◌, subst, ⊎_elim, arith}
use Rattle.std.specs.List.{list_any}
use Rattle.std.proofs.lemmas.Bool.{or_from}
use Rattle.std.proofs.lemmas.Bool.{cases_lt}
use Rattle.tile_store.specs.Tile.{tile_bytes}
use Rattle.tile_store.specs.CachedTile.{EntryState, is_unpinned}
use Rattle.tile_store.specs.Links.{is_in, last_of}
use Rattle.tile_store.specs.Order.{entry_in, in_front, entries_of}
use Rattle.tile_store.specs.Leaving.{IsLastUnpinned}
use Rattle.std.proofs.Math.Seq.{take-append_seam, drop-append_seam}
use Rattle.std.proofs.lemmas.List.{length-take, length-drop, take_all, drop_all, take-append-drop}
use Rattle.tile_store.proofs.MapLemmas.{cut_end, last_of_push}
use Rattle.tile_store.proofs.OrderLemmas.{There, head_in, tail_in}
use Rattle.tile_store.proofs.OrderLemmas.{entries_of-append}

-- ---- the last

pub last_of_end : {X : Type 0} (xs : List X) (x : X) → last_of (xs ++ x ∷ []) ≡ Some x
last_of_end xs x = (last_of_push xs x).0

-- a list that ends with its last
pub ends_with : (xs : List ℕ) (p : ℕ) → last_of xs ≡ Some p → (front : List ℕ) × (xs ≡ front ++ p ∷ [])
ends_with [] p h = absurd cc
ends_with (x ∷ xs) p h =
    let cut = cut_end (x ∷ xs) (omega arith) in
    let both : Some cut.1 ≡ Some p = sym (ap last_of cut.2 ∙ last_of_end cut.0 cut.1) ∙ h in
    let one : cut.1 ≡ p = cc in
    (cut.0, cut.2 ∙ ap (λ y. cut.0 ++ y ∷ []) one)

pub none_last : (slots : List (Option EntryState)) (xs : List ℕ) → last_of xs ≡ None → last_of (entries_of slots xs) ≡ None
none_last slots [] h = refl
none_last slots (x ∷ xs) h =
    let cut = cut_end (x ∷ xs) (omega arith) in
    let both : Some cut.1 ≡ None = sym (ap last_of cut.2 ∙ last_of_end cut.0 cut.1) ∙ h in
    absurd cc

pub some_last : (slots : List (Option EntryState)) (xs : List ℕ) (p : ℕ) (e : EntryState) → last_of xs ≡ Some p
    → entry_in slots p ≡ Some e → last_of (entries_of slots xs) ≡ Some (e.tile.key, e)
some_last slots xs p e h is =
    let end = ends_with xs p h in
    ap (λ l. last_of (entries_of slots l)) end.1
    ∙ ap last_of (entries_of-append slots end.0 (p ∷ []))
    ∙ ap (λ o. last_of (entries_of slots end.0 ++ in_front o [])) is
    ∙ last_of_end (entries_of slots end.0) (e.tile.key, e)

pub in_at : (p : ℕ) (front : List ℕ) (back : List ℕ) → is_in p (front ++ p ∷ back) ≡ true
in_at p [] back = head_in p back
in_at p (x ∷ front) back = tail_in p x (front ++ p ∷ back) (in_at p front back)

pub last_in : (xs : List ℕ) (p : ℕ) → last_of xs ≡ Some p → is_in p xs ≡ true
last_in xs p h = let end = ends_with xs p h in subst (λ l. is_in p l ≡ true) (sym end.1) (in_at p end.0 [])

pub last_shown : {B : Type 0} (slots : List (Option EntryState)) (xs : List ℕ) (p : ℕ) (got : Option B) (now : B → EntryState)
    → last_of xs ≡ Some p → option_map now got ≡ entry_in slots p → {P : EntryState → Type 0} → There (entry_in slots p) P
    → option_map (λ b. ((now b).tile.key, now b)) got ≡ last_of (entries_of slots xs)
last_shown slots xs p None now h shown at =
    let both : None ≡ Some at.entry = shown ∙ at.is in
    absurd cc
last_shown slots xs p (Some b) now h shown at = sym (some_last slots xs p (now b) h (sym shown))

-- ---- a walk from the back

-- this many places are passed, none of them unpinned, and the walk is at the next
pub record Behind (slots : List (Option EntryState)) (order : List ℕ) (passed : ℕ) (at : Option ℕ) : Type 0 where
  pub at_is : at ≡ last_of (take (length order - passed) order)
  pub pinned : list_any is_unpinned (entries_of slots (drop (length order - passed) order)) ≡ false

pub behind_none : (slots : List (Option EntryState)) (order : List ℕ) → Behind slots order 0 (last_of order)
behind_none slots order =
    let all : take (length order - 0) order ≡ order = take_all (length order - 0) order (omega arith) in
    let rest : drop (length order - 0) order ≡ [] = drop_all (length order - 0) order (omega arith) in
    record {
      at_is = ap last_of (sym all);
      pinned = ap (λ l. list_any is_unpinned (entries_of slots l)) rest;
    }

-- the places before the next one, and those after it
pub record Next (slots : List (Option EntryState)) (order : List ℕ) (passed p : ℕ) : Type 0 where
  pub front : List ℕ
  pub back : List ℕ
  pub parts : order ≡ front ++ p ∷ back
  pub passed_is : length back ≡ passed
  pub pinned : list_any is_unpinned (entries_of slots back) ≡ false

pub next_behind : (slots : List (Option EntryState)) (order : List ℕ) (passed p : ℕ) → passed ≤ length order
    → Behind slots order passed (Some p) → Next slots order passed p
next_behind slots order passed p few behind =
    let n : ℕ = length order - passed in
    let end = ends_with (take n order) p (sym behind.at_is) in
    let whole : take n order ++ drop n order ≡ order = take-append-drop n order in
    let size : length (drop n order) ≡ length order - n = length-drop n order in
    record {
      front = end.0;
      back = drop n order;
      parts = sym whole ∙ ap (λ l. l ++ drop n order) end.1 ∙ append_assoc end.0 (p ∷ []) (drop n order);
      passed_is = omega arith;
      pinned = behind.pinned;
    }

pub next_in : (slots : List (Option EntryState)) (order : List ℕ) (passed p : ℕ) → Next slots order passed p
    → is_in p order ≡ true
next_in slots order passed p next = subst (λ l. is_in p l ≡ true) (sym next.parts) (in_at p next.front next.back)

pub behind_more : (slots : List (Option EntryState)) (order : List ℕ) (passed p : ℕ) (e : EntryState)
    → (next : Next slots order passed p) → entry_in slots p ≡ Some e → is_unpinned (e.tile.key, e) ≡ false
    → Behind slots order (passed + 1) (last_of next.front)
behind_more slots order passed p e next is held =
    let size : length (next.front ++ p ∷ next.back) ≡ length next.front + length (p ∷ next.back) =
    length-append next.front (p ∷ next.back) in
    let same : length order ≡ length (next.front ++ p ∷ next.back) = ap length next.parts in
    let count = next.passed_is in
    let n : length order - (passed + 1) ≡ length next.front = omega arith in
    let front : take (length order - (passed + 1)) order ≡ next.front =
    ap (λ k. take k order) n ∙ ap (take (length next.front)) next.parts ∙ take-append_seam next.front (p ∷ next.back) in
    let back : drop (length order - (passed + 1)) order ≡ p ∷ next.back =
    ap (λ k. drop k order) n ∙ ap (drop (length next.front)) next.parts ∙ drop-append_seam next.front (p ∷ next.back) in
    record {
      at_is = ap last_of (sym front);
      pinned = ap (λ l. list_any is_unpinned (entries_of slots l)) back
          ∙ ap (λ o. list_any is_unpinned (in_front o (entries_of slots next.back))) is
          ∙ or_from (is_unpinned (e.tile.key, e)) (list_any is_unpinned (entries_of slots next.back)) held next.pinned;
    }

-- all are passed
pub behind_all : (slots : List (Option EntryState)) (order : List ℕ) (passed : ℕ) (at : Option ℕ)
    → length order ≤ passed → Behind slots order passed at → list_any is_unpinned (entries_of slots order) ≡ false
behind_all slots order passed at all behind =
    let none : length order - passed ≡ 0 = omega arith in
    ap (λ k. list_any is_unpinned (entries_of slots (drop k order))) (sym none) ∙ behind.pinned

-- none is left before it
pub behind_end : (slots : List (Option EntryState)) (order : List ℕ) (passed : ℕ)
    → Behind slots order passed None → list_any is_unpinned (entries_of slots order) ≡ false
behind_end slots order passed behind =
    ⊎_elim
    (λ (more : passed < length order).
    let n : ℕ = length order - passed in
    let long : length (take n order) ≡ n = omega (arith, length-take n order) in
    let cut = cut_end (take n order) (omega arith) in
    let both : None ≡ Some cut.1 = behind.at_is ∙ ap last_of cut.2 ∙ last_of_end cut.0 cut.1 in
    absurd cc)
    (λ all. behind_all slots order passed None all behind)
    (cases_lt passed (length order))

pub last_unpinned_is : (slots : List (Option EntryState)) (order : List ℕ) (passed p : ℕ) (e : EntryState)
    → (next : Next slots order passed p) → entry_in slots p ≡ Some e → e.pins ≡ 0
    → IsLastUnpinned e.tile.key (tile_bytes e.tile) (entries_of slots order)
last_unpinned_is slots order passed p e next is free = record {
  front = entries_of slots next.front;
  entry = e;
  back = entries_of slots next.back;
  parts = ap (entries_of slots) next.parts ∙ entries_of-append slots next.front (p ∷ next.back)
      ∙ ap (λ o. entries_of slots next.front ++ in_front o (entries_of slots next.back)) is;
  unpinned = free;
  behind = next.pinned;
  bytes_are = refl;
}
