-- The texels of whole rows follow one another.
use Rattle.std.proofs.Common.{◌≡◌, ℕ, ◌+◌, ◌*◌, ◌/◌, ◌%◌, ◌<◌, List, ◌++◌, map, ap, ◌∙◌}
use Rattle.std.proofs.Common.{slice_index, arith, sym, inl, inr, zero, suc, refl, Result, Ok, Err, OnOk}
use Rattle.std.specs.List.{range_with_len, flat_map}
use Rattle.std.proofs.lemmas.Grind.{same_number_lists}
use Rattle.std.proofs.lemmas.Bool.{cases_lt}
use Rattle.std.proofs.lemmas.Nat.{mul-add-lt, div-mul-add, mod-mul-add, mod_below, div-add-mod'}
use Rattle.std.proofs.Math.Nat.{mul-le-mul_left, div-add-mod}
use Rattle.tiff_format.specs.Block.{Level, sample_bytes, texel_bytes}
use Rattle.tiff_format.specs.Texel.{sample_in}
use Rattle.tiff_format.specs.declared.rect.Rect.{Rect}
use Rattle.tile_layout.specs.Pieces.{rect_texels}
use Rattle.tile_layout.specs.Texel.{AreTexelsOn}
use Rattle.tile_layout.specs.WholeRows.{StandsWhole}
use Rattle.rect_read.specs.declared.run.Run.{Run}
use Rattle.tile_layout.specs.declared.texel_format.TexelFormat.{TexelFormat}
use Rattle.rect_read.specs.Samples.{samples_at}
use Rattle.rect_read.specs.Run.{AppendsValues, StandSideBySide}
use Rattle.rect_read.proofs.RectValues.{are_texels}

-- the column and the row of texel j of a rectangle
abbrev pub column_of : Rect → ℕ → ℕ
column_of rect j = rect.x + j % rect.w

abbrev pub row_of : Rect → ℕ → ℕ
row_of rect j = rect.y + j / rect.w

-- a rectangle with texels has columns
pub some_columns : (w h j : ℕ) → j < w * h → 0 < w
some_columns zero h j lt = absurd (omega arith)
some_columns (suc w) h j lt = omega arith

-- a texel of the rectangle is in one of its rows
pub row_below : (j w h : ℕ) → j < w * h → j / w < h
row_below j w h lt = elim (cases_lt (j / w) h) [
  | inl below ↦ below
  | inr above ↦ absurd (omega (arith, mul-le-mul_left w above, div-add-mod j w))
]

pub run_stands : (level : Level) (rect : Rect) (run : Run) → StandsWhole level rect run.at
    → run.texels ≡ rect.w * rect.h → StandSideBySide level run (column_of rect) (row_of rect)
run_stands level rect run whole count = λ j c lt.
    let inside : j < rect.w * rect.h = omega (arith, count) in
    let some : 0 < rect.w = some_columns rect.w rect.h j inside in
    whole.samples (j % rect.w) (j / rect.w) c (mod_below j rect.w some)
    (row_below j rect.w rect.h inside)
    ∙ ap (λ (k : ℕ). run.at + k * texel_bytes level.shape + c * sample_bytes level.shape.depth)
    (div-add-mod' j rect.w)

-- ---- numbers of the texels of a rectangle, n of each

-- by their places, and one texel after the other
pub texels_listed : (texel : ℕ → ℕ → ℕ → ℕ) (n : ℕ) (rect : Rect) (numbers : List ℕ)
    → AreTexelsOn texel n rect numbers
    → numbers
    ≡ flat_map (λ t. map (λ c. texel t.0 t.1 c) (range_with_len 0 n)) (rect_texels rect)
texels_listed texel n rect numbers are =
    let all = flat_map (λ t. map (λ c. texel t.0 t.1 c) (range_with_len 0 n)) (rect_texels rect) in
    let own : AreTexelsOn texel n rect all = are_texels texel n rect all refl in
    same_number_lists numbers all (are.count ∙ sym own.count)
    (λ k below.
    let inside : k < n * (rect.w * rect.h) = omega (arith, are.count) in
    let some : 0 < n = some_columns n (rect.w * rect.h) k inside in
    let t-below : k / n < rect.w * rect.h = row_below k n (rect.w * rect.h) inside in
    let wide : 0 < rect.w = some_columns rect.w rect.h (k / n) t-below in
    let across : k / n % rect.w < rect.w = mod_below (k / n) rect.w wide in
    let down : k / n / rect.w < rect.h = row_below (k / n) rect.w rect.h t-below in
    let sample : k % n < n = mod_below k n some in
    let at : (k / n / rect.w * rect.w + k / n % rect.w) * n + k % n ≡ k =
    ap (λ (t : ℕ). t * n + k % n) (div-add-mod' (k / n) rect.w) ∙ div-add-mod' k n in
    ap (slice_index numbers) (sym at)
    ∙ are.each (k / n % rect.w) (k / n / rect.w) (k % n) across down sample
    ∙ sym (own.each (k / n % rect.w) (k / n / rect.w) (k % n) across down sample)
    ∙ ap (slice_index all) at)

-- the values of texels that follow one another, row after row, are those of the rectangle
pub rect_appended : (bytes : List ℕ) (level : Level) (format : TexelFormat) (rect : Rect)
    (old new : List ℕ)
    → AppendsValues bytes level format (rect.w * rect.h) (column_of rect) (row_of rect) old new
    → new ≡ old ++ flat_map (samples_at format.big bytes level)
    (rect_texels rect)
rect_appended bytes level format rect old new more =
    let texel : ℕ → ℕ → ℕ → ℕ = λ x y c. sample_in format.big bytes level x y c in
    let are : AreTexelsOn texel level.shape.channels rect more.added = record {
      count = more.count;
      each = λ i j c across down some.
          let below : j * rect.w + i < rect.w * rect.h =
          omega (arith, mul-add-lt j rect.w i rect.h down across) in
          more.values (j * rect.w + i) c below some
          ∙ rw (mod-mul-add j rect.w i across, div-mul-add j rect.w i across) refl;
    } in
    more.behind ∙ ap (λ (v : List ℕ). old ++ v)
    (texels_listed texel level.shape.channels rect more.added are)

-- a fact whether or not a call succeeded
pub any_ok : {T E P : Type 0} (result : Result T E) → P → OnOk result P
any_ok (Ok x) p = p
any_ok (Err e) p = tt

-- a fact after success, from another fact that holds there
pub on_ok : {T E P Q : Type 0} (result : Result T E) → (P → Q) → OnOk result P → OnOk result Q
on_ok (Ok x) by p = by p
on_ok (Err e) by p = tt
