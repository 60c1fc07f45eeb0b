-- The texels of rows, taken one piece after another.
use Rattle.std.proofs.Common.{◌≡◌, ℕ, zero, suc, ◌+◌, ◌-◌, ◌*◌, ◌<◌, ◌≤◌, List, [], ◌∷◌, ◌++◌, map}
use Rattle.std.proofs.Common.{length, refl, sym, ◌∙◌, arith, zero-add, add-zero, append_assoc}
use Rattle.std.proofs.Common.{length-append}
use Rattle.std.specs.List.{range_with_len, flat_map}
use Rattle.std.proofs.lemmas.List.FromFn.{length-map-range_with_len}
use Rattle.tiff_format.specs.declared.rect.Rect.{Rect}
use Rattle.tile_layout.specs.Pieces.{row_texels, rect_texels}
use Rattle.tile_layout.specs.Walk.{texels_left}

-- ---- one row

abbrev texels_from : ℕ → ℕ → List ℕ → List (ℕ × ℕ)
texels_from x y columns = map (λ j. (x + j, y)) columns

shifted : (x y a n : ℕ)
    → texels_from x y (range_with_len (a + 1) n) ≡ texels_from (suc x) y (range_with_len a n)
shifted x y a zero = refl
shifted x y a (suc n) =
    let e : x + (a + 1) ≡ suc x + a = omega arith in rw (e, shifted x y (a + 1) n) refl

pub row_split : (x y n m : ℕ)
    → row_texels x y (n + m) ≡ row_texels x y n ++ row_texels (x + n) y m
row_split x y zero m = rw (zero-add, add-zero) refl
row_split x y (suc n) m =
    let more : suc n + m ≡ suc (n + m) = omega arith in
    let there : suc x + n ≡ x + suc n = omega arith in
    rw (more, shifted x y 0 (n + m), shifted x y 0 n, row_split (suc x) y n m, there) refl

-- ---- the rows of a rectangle

-- a piece is taken from the front of the row
pub piece_taken : (left right bottom x y n : ℕ) → x + n ≤ right → y < bottom
    → texels_left left right x y (bottom - y)
    ≡ row_texels x y n ++ texels_left left right (x + n) y (bottom - y)
piece_taken left right bottom x y n fits below =
    let rows : bottom - y ≡ suc (bottom - (y + 1)) = omega arith in
    let row : right - x ≡ n + (right - (x + n)) = omega arith in
    rw (rows, row, row_split x y n (right - (x + n)))
    (append_assoc (row_texels x y n) (row_texels (x + n) y (right - (x + n)))
    (flat_map (λ j. row_texels left j (right - left))
    (range_with_len (y + 1) (bottom - (y + 1)))))

-- a row that is done gives way to the next
next_row : (left right y rows : ℕ)
    → texels_left left right right y (suc rows) ≡ texels_left left right left (y + 1) rows
next_row left right y zero = let none : right - right ≡ 0 = omega arith in rw none refl
next_row left right y (suc rows) = let none : right - right ≡ 0 = omega arith in rw none refl

pub row_done : (left right bottom x y : ℕ) → x ≡ right → y < bottom
    → texels_left left right x y (bottom - y)
    ≡ texels_left left right left (y + 1) (bottom - (y + 1))
row_done left right bottom x y is below =
    let rows : bottom - y ≡ suc (bottom - (y + 1)) = omega arith in
    rw (is, rows) (next_row left right y (bottom - (y + 1)))

-- ---- the whole rectangle

all_rows : (left right y rows : ℕ) → texels_left left right left y rows
    ≡ flat_map (λ j. row_texels left j (right - left)) (range_with_len y rows)
all_rows left right y zero = refl
all_rows left right y (suc rows) = refl

no_texels : (x : ℕ) (rows : List ℕ) → flat_map (λ j. row_texels x j 0) rows ≡ []
no_texels x [] = refl
no_texels x (y ∷ rows) = no_texels x rows

pub rect_left : (rect : Rect) (rows : ℕ) → rows ≡ rect.h
    → texels_left rect.x (rect.x + rect.w) rect.x rect.y (rect.y + rows - rect.y)
    ≡ rect_texels rect
rect_left rect rows high =
    let across : rect.x + rect.w - rect.x ≡ rect.w = omega arith in
    let down : rect.y + rows - rect.y ≡ rect.h = omega arith in
    all_rows rect.x (rect.x + rect.w) rect.y (rect.y + rows - rect.y) ∙ rw (across, down) refl

pub nothing_left : (rect : Rect) (rows : ℕ) → rect.w ≡ 0 → rows ≡ 0
    → texels_left rect.x (rect.x + rect.w) rect.x rect.y (rect.y + rows - rect.y)
    ≡ rect_texels rect
nothing_left rect rows narrow none =
    let down : rect.y + rows - rect.y ≡ 0 = omega arith in
    rw (down, narrow) (sym (no_texels rect.x (range_with_len rect.y rect.h)))

-- ---- how many there are

pub length-row_texels : (x y n : ℕ) → length (row_texels x y n) ≡ n
length-row_texels x y n = length-map-range_with_len (λ j. (x + j, y)) 0 n

length_rows : (x w y rows : ℕ)
    → length (flat_map (λ j. row_texels x j w) (range_with_len y rows)) ≡ w * rows
length_rows x w y zero = omega arith
length_rows x w y (suc rows) =
    length-append (row_texels x y w)
    (flat_map (λ j. row_texels x j w) (range_with_len (y + 1) rows))
    ∙ omega (arith, length-row_texels x y w, length_rows x w (y + 1) rows)

pub length-rect_texels : (rect : Rect) → length (rect_texels rect) ≡ rect.w * rect.h
length-rect_texels rect = length_rows rect.x rect.w rect.y rect.h
