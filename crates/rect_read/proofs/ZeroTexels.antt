-- Numbers of texels that are appended, zeros among them, by their places.
use Rattle.std.proofs.Common.{◌≡◌, ℕ, zero, suc, ◌+◌, ◌*◌, ◌/◌, ◌%◌, ◌<◌, ◌≤◌, List, [], ◌∷◌}
use Rattle.std.proofs.Common.{◌++◌, length, map, get_or, take, drop, slice_index, replicate}
use Rattle.std.proofs.Common.{refl, ap, ◌∙◌, subst, arith, zero-add, append_assoc, length-append}
use Rattle.std.proofs.Common.{length-drop}
use Rattle.std.specs.List.{range_with_len, All}
use Rattle.std.proofs.lemmas.List.{take-append-drop, get_or_append_left, get_or-append-add}
use Rattle.std.proofs.lemmas.List.{append-nil, get_or-replicate, length-replicate, length-take-le}
use Rattle.std.proofs.lemmas.List.{get_or-take, get_or-drop}
use Rattle.std.proofs.lemmas.List.Elements.{All-head, All-tail, All-weaker}
use Rattle.std.proofs.lemmas.List.FromFn.{get_or-map-range_with_len}
use Rattle.std.proofs.lemmas.Nat.{mul-add-lt, div-mul-add, mod-mul-add}
use Rattle.tiff_format.specs.declared.rect.Rect.{Rect}
use Rattle.tile_layout.specs.Pieces.{row_texels, rect_texels}
use Rattle.rect_read.specs.Zeros.{AreZeros, AddsTexel, AddsTexels}
use Rattle.rect_read.proofs.Ranges.{flat_alike, map_alike, flat_rows}

pub are_zeros : (n : ℕ) → AreZeros (replicate n 0)
are_zeros n k below = get_or-replicate n k 0 0 (rw length-replicate at below)

zeros_before : (n : ℕ) (numbers : List ℕ) → n ≤ length numbers → AreZeros numbers
    → AreZeros (take n numbers)
zeros_before n numbers few zeros k below =
    let long = length-take-le n numbers few in
    get_or-take n numbers k 0 (omega (arith, below, long)) ∙ zeros k (omega (arith, below, long))

zeros_behind : (n : ℕ) (numbers : List ℕ) → AreZeros numbers → AreZeros (drop n numbers)
zeros_behind n numbers zeros k below =
    get_or-drop n numbers k 0 ∙ zeros (n + k) (omega (arith, below, length-drop n numbers))

-- if the fact does not hold, any numbers will do
pub adds_any : {P : Type 0} (n : ℕ) (old new : List ℕ) → (P → ⊥) → AddsTexel ⊥ n old new
    → AddsTexel P n old new
adds_any n old new never some = record {
  added = some.added;
  behind = some.behind;
  count = some.count;
  zeros = λ far. absurd (never far);
}

-- zeros will do whether or not the fact holds
pub adds_zeros : {P : Type 0} (n : ℕ) (old new : List ℕ) → new ≡ old ++ replicate n 0
    → AddsTexel P n old new
adds_zeros n old new more = record {
  added = replicate n 0;
  behind = more;
  count = length-replicate n 0;
  zeros = λ far. are_zeros n;
}

pub adds_long : {P : Type 0} (n : ℕ) (old new : List ℕ) → AddsTexel P n old new
    → length new ≡ length old + n
adds_long n old new some =
    ap length some.behind ∙ length-append old some.added ∙ ap (λ k. length old + k) some.count

module _ (beyond : ℕ × ℕ → Type 0) (n : ℕ) where
  -- the numbers of more texels, appended to those of some
  pub adds_then : (texels more : List (ℕ × ℕ)) (old mid new : List ℕ)
      → AddsTexels beyond n texels old mid → AddsTexels beyond n more mid new
      → AddsTexels beyond n (texels ++ more) old new
  adds_then [] more old mid new same rest =
      subst (λ (v : List ℕ). AddsTexels beyond n more v new) same rest
  adds_then (texel ∷ texels) more old mid new some rest =
      (some.0, (some.1.0, adds_then texels more some.0 mid new some.1.1 rest))

  -- a list is split into the numbers of the texels
  pub adds_split : (texels : List (ℕ × ℕ)) (old added : List ℕ)
      → length added ≡ length texels * n
      → All (λ texel. beyond texel → AreZeros added) texels
      → AddsTexels beyond n texels old (old ++ added)
  adds_split [] old [] long zeros = append-nil old
  adds_split [] old (k ∷ added) long zeros = absurd (omega (arith, long))
  adds_split (texel ∷ texels) old added long zeros =
      let own = take n added in
      let rest = drop n added in
      let few : n ≤ length added = omega (arith, long) in
      let less : length rest ≡ length texels * n = omega (arith, long, length-drop n added) in
      let whole : old ++ own ++ rest ≡ old ++ added =
      append_assoc old own rest ∙ ap (λ (v : List ℕ). old ++ v) (take-append-drop n added) in
      let own_is : AddsTexel (beyond texel) n old (old ++ own) = record {
        added = own;
        behind = refl;
        count = length-take-le n added few;
        zeros = λ far. zeros_before n added few
            (All-head (λ t. beyond t → AreZeros added) texel texels zeros far);
      } in
      let rest_zeros = All-weaker (λ t. beyond t → AreZeros added) (λ t. beyond t → AreZeros rest)
      (λ t is far. zeros_behind n added (is far)) texels
      (All-tail (λ t. beyond t → AreZeros added) texel texels zeros) in (
        old ++ own,
        (
          own_is,
          subst (λ (v : List ℕ). AddsTexels beyond n texels (old ++ own) v) whole
              (adds_split texels (old ++ own) rest less rest_zeros),
        ),
      )

  -- what was there stays
  kept_at : (texels : List (ℕ × ℕ)) (old new : List ℕ) → AddsTexels beyond n texels old new
      → (k : ℕ) → k < length old → slice_index new k ≡ slice_index old k
  kept_at [] old new same k below = ap (λ (v : List ℕ). slice_index v k) same
  kept_at (texel ∷ texels) old new some k below =
      let own = some.1.0 in
      let long : length some.0 ≡ length old + length own.added =
      ap length own.behind ∙ length-append old own.added in
      kept_at texels some.0 new some.1.1 k (omega (arith, long, below))
      ∙ ap (λ (v : List ℕ). slice_index v k) own.behind
      ∙ get_or_append_left old own.added 0 k below

  -- number c of texel k is 0 if the fact holds of it
  pub zero_at : (texels : List (ℕ × ℕ)) (old new : List ℕ) → AddsTexels beyond n texels old new
      → (k c : ℕ) (d : ℕ × ℕ) → k < length texels → c < n → beyond (get_or texels k d)
      → slice_index new (length old + (k * n + c)) ≡ 0
  zero_at [] old new same k c d below some far = absurd (omega arith)
  zero_at (texel ∷ texels) old new some zero c d below channel far =
      let own = some.1.0 in
      let long : length some.0 ≡ length old + length own.added =
      ap length own.behind ∙ length-append old own.added in
      let at : length old + (0 * n + c) ≡ length old + c = omega arith in
      ap (slice_index new) at
      ∙ kept_at texels some.0 new some.1.1 (length old + c) (omega (arith, long, own.count, channel))
      ∙ ap (λ (v : List ℕ). slice_index v (length old + c)) own.behind
      ∙ get_or-append-add old own.added c 0
      ∙ own.zeros far c (omega (arith, own.count, channel))
  zero_at (texel ∷ texels) old new some (suc k) c d below channel far =
      let own = some.1.0 in
      let long : length some.0 ≡ length old + length own.added =
      ap length own.behind ∙ length-append old own.added in
      let at : length old + (suc k * n + c) ≡ length some.0 + (k * n + c) =
      omega (arith, long, own.count) in
      ap (slice_index new) at
      ∙ zero_at texels some.0 new some.1.1 k c d (omega (arith, below)) channel far

-- ---- the texels of a rectangle

module _ (rect : Rect) where
  -- texel k of the rectangle
  abbrev texel_of : ℕ → ℕ × ℕ
  texel_of k = (rect.x + k % rect.w, rect.y + k / rect.w)

  row_is : (j : ℕ) → row_texels rect.x (rect.y + j) rect.w
      ≡ map (λ i. texel_of ((0 + j) * rect.w + i)) (range_with_len 0 rect.w)
  row_is j = map_alike (λ i. (rect.x + i, rect.y + j)) (λ i. texel_of ((0 + j) * rect.w + i)) 0 0
      rect.w (λ i across. place i across)
    where
      place : (i : ℕ) → i < rect.w
          → (rect.x + (0 + i), rect.y + j) ≡ texel_of ((0 + j) * rect.w + (0 + i))
      place i across =
          let k : (0 + j) * rect.w + (0 + i) ≡ j * rect.w + i = omega arith in
          rw (k, mod-mul-add j rect.w i across, div-mul-add j rect.w i across, zero-add i) refl

  rect_is : rect_texels rect ≡ map texel_of (range_with_len 0 (rect.h * rect.w))
  rect_is =
      let none : 0 * rect.w ≡ 0 = omega arith in
      flat_alike (λ y. row_texels rect.x y rect.w)
      (λ j. map (λ i. texel_of (j * rect.w + i)) (range_with_len 0 rect.w)) rect.y 0 rect.h
      (λ j down. row_is j)
      ∙ flat_rows texel_of rect.w 0 rect.h
      ∙ ap (λ (k : ℕ). map texel_of (range_with_len k (rect.h * rect.w))) none

  pub texel_at_place : (i j : ℕ) (d : ℕ × ℕ) → i < rect.w → j < rect.h
      → get_or (rect_texels rect) (j * rect.w + i) d ≡ (rect.x + i, rect.y + j)
  texel_at_place i j d across down =
      let k = j * rect.w + i in
      let below : k < rect.h * rect.w = omega (arith, mul-add-lt j rect.w i rect.h down across) in
      ap (λ (ts : List (ℕ × ℕ)). get_or ts k d) rect_is
      ∙ get_or-map-range_with_len texel_of 0 (rect.h * rect.w) k k d below (zero-add k)
      ∙ rw (mod-mul-add j rect.w i across, div-mul-add j rect.w i across) refl
