-- The rows of half of a part, by the places of their samples among those of the cell.
use Rattle.std.proofs.Common.{◌≡◌, ℕ, ◌+◌, ◌-◌, ◌*◌, ◌<◌, ◌≤◌, List, length, slice_index}
use Rattle.std.proofs.Common.{refl, sym, ap, ◌∙◌, subst, arith, inl, inr}
use Rattle.std.proofs.lemmas.Bool.{cases_lt}
use Rattle.std.proofs.lemmas.Nat.{mul-add-lt, mul-le}
use Rattle.tiff_format.specs.Level.{halved}
use Rattle.tiff_format.specs.declared.rect.Rect.{Rect}
use Rattle.tile_layout.specs.Texel.{average, clamped, quarter}
use Rattle.tile_store.specs.Tile.{CachedTile, AreSamples}
use Rattle.tile_load.specs.CellSamples.{PutsRow}
use Rattle.tile_load.specs.PartPlace.{IsPartPlace, HalvesRows, left_of, top_of, sample_on}
use Rattle.half_rows.specs.Quarters.{row_sample, row_average}

-- ---- places

-- row t of a cell of w columns, with hw texels from column `left` on, n samples each
module _ (t w left hw n : ℕ) (fits : left + hw ≤ w) where
  abbrev start : ℕ
  start = (t * w + left) * n

  pub ends_within : (h : ℕ) → t < h → start + hw * n ≤ w * h * n
  ends_within h below =
      let row : t * w + w ≤ w * h =
      let more = mul-le (t + 1) w h w (omega arith) (let same : w ≤ w = omega arith in same) in
      omega (arith, more) in
      let all : (t * w + left + hw) * n ≤ w * h * n =
      mul-le (t * w + left + hw) n (w * h) n (omega arith) (let same : n ≤ n = omega arith in same) in
      omega (arith, all)

  place_in_row : (i c : ℕ) → (t * w + (left + i)) * n + c ≡ start + (i * n + c)
  place_in_row i c = omega arith

  module _ (i j c : ℕ) (across : i < w) (channel : c < n) where
    -- the last sample of a texel comes before the first of the next
    before_texel : (k : ℕ) → j * w + i < k → (j * w + i) * n + c < k * n
    before_texel k less =
        let more = mul-le (j * w + i + 1) n k n (omega arith) (let same : n ≤ n = omega arith in same) in
        omega (arith, more)

    before_row : j < t → (j * w + i) * n + c < start
    before_row above =
        before_texel (t * w + left) (omega (arith, mul-add-lt j w i t above across))

    behind_row : t < j → start + hw * n ≤ (j * w + i) * n + c
    behind_row below =
        let rows = mul-le (t + 1) w j w (omega arith) (let same : w ≤ w = omega arith in same) in
        let more : (t * w + left + hw) * n ≤ (j * w + i) * n =
        mul-le (t * w + left + hw) n (j * w + i) n (omega (arith, rows))
        (let same : n ≤ n = omega arith in same) in
        omega (arith, more)

    before_column : j ≡ t → i < left → (j * w + i) * n + c < start
    before_column is less =
        let row : j * w ≡ t * w = ap (λ k. k * w) is in
        before_texel (t * w + left) (omega arith)

    behind_column : j ≡ t → left + hw ≤ i → start + hw * n ≤ (j * w + i) * n + c
    behind_column is far =
        let row : j * w ≡ t * w = ap (λ k. k * w) is in
        let more : (t * w + left + hw) * n ≤ (j * w + i) * n =
        mul-le (t * w + left + hw) n (j * w + i) n (omega arith)
        (let same : n ≤ n = omega arith in same) in
        omega (arith, more)

-- ---- the samples of a row of a part

-- row r of the part, as its tile gives it
pub row_kept : (tile : CachedTile) (part : Rect) (n r : ℕ) (row : List ℕ) → tile.rect ≡ part
    → tile.channels ≡ n → AreSamples tile part.x (part.y + r) part.w row
    → (i c : ℕ) → i < part.w → c < n
    → row_sample n row i c ≡ sample_on part.w n tile.texels i r c
row_kept tile part n r row rect_is channels_is are i c across channel =
    let some : c < tile.channels = omega arith in
    let count : i * n + c ≡ i * tile.channels + c = ap (λ k. i * k + c) (sym channels_is) in
    let down : part.y + r - part.y ≡ r = omega arith in
    let right : part.x + i - part.x ≡ i = omega arith in
    ap (slice_index row) count ∙ are.each i c across some
    ∙ ap (λ (q : Rect). slice_index tile.texels
    (((part.y + r - q.y) * q.w + (part.x + i - q.x)) * tile.channels + c)) rect_is
    ∙ ap (λ (k : ℕ). slice_index tile.texels
    (((part.y + r - part.y) * part.w + (part.x + i - part.x)) * k + c)) channels_is
    ∙ rw (down, right) refl

clamped_below : (side place : ℕ) → 1 ≤ side → clamped side place < side
clamped_below side place some = omega arith

-- the average of four texels of two rows is that of four texels of the part
pub row_quarter : (part : Rect) (n : ℕ) (source top bottom : List ℕ) (j : ℕ)
    → 1 ≤ part.w
    → ((i c : ℕ) → i < part.w → c < n
    → row_sample n top i c ≡ sample_on part.w n source i (clamped part.h (2 * j)) c)
    → ((i c : ℕ) → i < part.w → c < n
    → row_sample n bottom i c ≡ sample_on part.w n source i (clamped part.h (2 * j + 1)) c)
    → (i c : ℕ) → c < n
    → row_average n top bottom (clamped part.w (2 * i)) (clamped part.w (2 * i + 1)) c
    ≡ quarter (λ x y. sample_on part.w n source x y c) part.w part.h i j
row_quarter part n source top bottom j some above below i c channel =
    let left = clamped part.w (2 * i) in
    let right = clamped part.w (2 * i + 1) in
    let left_in : left < part.w = clamped_below part.w (2 * i) some in
    let right_in : right < part.w = clamped_below part.w (2 * i + 1) some in
    ap (λ (k : ℕ). average k (row_sample n top right c) (row_sample n bottom left c)
    (row_sample n bottom right c)) (above left c left_in channel)
    ∙ ap (λ (k : ℕ). average (sample_on part.w n source left (clamped part.h (2 * j)) c) k
    (row_sample n bottom left c) (row_sample n bottom right c)) (above right c right_in channel)
    ∙ ap (λ (k : ℕ). average (sample_on part.w n source left (clamped part.h (2 * j)) c)
    (sample_on part.w n source right (clamped part.h (2 * j)) c) k
    (row_sample n bottom right c)) (below left c left_in channel)
    ∙ ap (λ (k : ℕ). average (sample_on part.w n source left (clamped part.h (2 * j)) c)
    (sample_on part.w n source right (clamped part.h (2 * j)) c)
    (sample_on part.w n source left (clamped part.h (2 * j + 1)) c) k)
    (below right c right_in channel)

-- the averages of two rows of a tile are those of four texels of its part
pub rows_average : (tile : CachedTile) (part : Rect) (n j above below : ℕ) (top bottom : List ℕ)
    → 1 ≤ part.w → tile.rect ≡ part → tile.channels ≡ n
    → above ≡ clamped part.h (2 * j) → below ≡ clamped part.h (2 * j + 1)
    → AreSamples tile part.x (part.y + above) part.w top
    → AreSamples tile part.x (part.y + below) part.w bottom
    → (i c : ℕ) → c < n
    → row_average n top bottom (clamped part.w (2 * i)) (clamped part.w (2 * i + 1)) c
    ≡ quarter (λ x y. sample_on part.w n tile.texels x y c) part.w part.h i j
rows_average tile part n j above below top bottom some rect_is channels_is above_is below_is top_are
    bottom_are =
    row_quarter part n tile.texels top bottom j some
    (row_kept tile part n (clamped part.h (2 * j)) top rect_is channels_is
    (subst (λ (r : ℕ). AreSamples tile part.x (part.y + r) part.w top) above_is top_are))
    (row_kept tile part n (clamped part.h (2 * j + 1)) bottom rect_is channels_is
    (subst (λ (r : ℕ). AreSamples tile part.x (part.y + r) part.w bottom) below_is bottom_are))

-- ---- rows that are written

module _ (part cell : Rect) (n : ℕ) (is : IsPartPlace part cell n) where
  abbrev t_of : ℕ → ℕ
  t_of j = top_of part cell + j

  abbrev start_of : ℕ → ℕ
  start_of j = (t_of j * cell.w + left_of part cell) * n

  fits_in : left_of part cell + halved part.w ≤ cell.w
  fits_in =
      let left = is.left in
      let right = is.right in
      omega arith

  pub row_ends : (j : ℕ) → j < halved part.h
      → start_of j + halved part.w * n ≤ cell.w * cell.h * n
  row_ends j row =
      let top = is.top in
      let bottom = is.bottom in
      ends_within (t_of j) cell.w (left_of part cell) (halved part.w) n fits_in cell.h (omega arith)

  module _ (source : List ℕ) (most : ℕ) where
    -- one row is written
    pub row_written : (j : ℕ) (old new : List ℕ) → length new ≡ length old
        → ((k : ℕ) → k < start_of j → slice_index new k ≡ slice_index old k)
        → ((i c : ℕ) → i < halved part.w → c < n
        → quarter (λ x y. sample_on part.w n source x y c) part.w part.h i j ≤ most
        → slice_index new (start_of j + (i * n + c))
        ≡ quarter (λ x y. sample_on part.w n source x y c) part.w part.h i j)
        → ((k : ℕ) → start_of j + halved part.w * n ≤ k → slice_index new k ≡ slice_index old k)
        → HalvesRows part cell n source most j (j + 1) old new
    row_written j old new same before each behind =
        let t = t_of j in
        let left = left_of part cell in
        let hw = halved part.w in
        record {
          long = same;
          made = λ i q c across from to channel.
              let is_j : j ≡ q = omega arith in
              subst (λ (q : ℕ). quarter (λ x y. sample_on part.w n source x y c) part.w part.h i q
              ≤ most → sample_on cell.w n new (left + i) (top_of part cell + q) c
              ≡ quarter (λ x y. sample_on part.w n source x y c) part.w part.h i q) is_j
              (λ low. ap (slice_index new) (place_in_row t cell.w left hw n fits_in i c)
              ∙ each i c across channel low);
          above = λ i q c across down channel up.
              before ((q * cell.w + i) * n + c)
              (before_row t cell.w left hw n fits_in i q c across channel up);
          below = λ i q c across down channel under.
              behind ((q * cell.w + i) * n + c)
              (behind_row t cell.w left hw n fits_in i q c across channel (omega arith));
          before = λ i q c across down channel first.
              elim (cases_lt q t) [
                | inl up ↦ before ((q * cell.w + i) * n + c)
                    (before_row t cell.w left hw n fits_in i q c across channel up)
                | inr at ↦ elim (cases_lt t q) [
                  | inl under ↦ behind ((q * cell.w + i) * n + c)
                      (behind_row t cell.w left hw n fits_in i q c across channel under)
                  | inr on ↦ before ((q * cell.w + i) * n + c)
                      (before_column t cell.w left hw n fits_in i q c across channel (omega arith) first)
                ]
              ];
          behind = λ i q c across down channel far.
              elim (cases_lt q t) [
                | inl up ↦ before ((q * cell.w + i) * n + c)
                    (before_row t cell.w left hw n fits_in i q c across channel up)
                | inr at ↦ elim (cases_lt t q) [
                  | inl under ↦ behind ((q * cell.w + i) * n + c)
                      (behind_row t cell.w left hw n fits_in i q c across channel under)
                  | inr on ↦ behind ((q * cell.w + i) * n + c)
                      (behind_column t cell.w left hw n fits_in i q c across channel (omega arith) far)
                ]
              ];
        }

    -- one row is written a byte each, from a row of its own
    pub row_narrowed : (j : ℕ) (row old new : List ℕ) → most ≤ 255
        → length row ≡ halved part.w * n
        → PutsRow row (start_of j) old new
        → ((i c : ℕ) → i < halved part.w → c < n → slice_index row (i * n + c)
        ≡ quarter (λ x y. sample_on part.w n source x y c) part.w part.h i j)
        → HalvesRows part cell n source most j (j + 1) old new
    row_narrowed j row old new small count puts each =
        row_written j old new puts.long puts.before
        (λ i c across channel low.
        let is = each i c across channel in
        puts.each (i * n + c)
        (omega (arith, count, mul-add-lt i n c (halved part.w) across channel))
        (omega (arith, is)) ∙ is)
        (λ k far. puts.behind k (omega (arith, count)))

    -- none is
    pub no_rows : (old : List ℕ) → HalvesRows part cell n source most 0 0 old old
    no_rows old = record {
      long = refl;
      made = λ i j c across from to channel low. absurd (omega arith);
      above = λ i j c across down channel up. refl;
      below = λ i j c across down channel under. refl;
      before = λ i j c across down channel first. refl;
      behind = λ i j c across down channel far. refl;
    }

    -- one more row after others
    pub row_more : (j : ℕ) (old mid new : List ℕ) → j < halved part.h
        → HalvesRows part cell n source most 0 j old mid
        → HalvesRows part cell n source most j (j + 1) mid new
        → HalvesRows part cell n source most 0 (j + 1) old new
    row_more j old mid new row some more =
        let left = left_of part cell in
        let top = top_of part cell in
        let left_low = is.left in
        let right_high = is.right in
        let top_low = is.top in
        let bottom_high = is.bottom in
        record {
          long = more.long ∙ some.long;
          made = λ i q c across from to channel low.
              elim (cases_lt q j) [
                | inl earlier ↦
                    more.above (left + i) (top + q) c (omega arith) (omega arith) channel (omega arith)
                    ∙ some.made i q c across from earlier channel low
                | inr last ↦ more.made i q c across last to channel low
              ];
          above = λ i q c across down channel up.
              more.above i q c across down channel (omega arith)
              ∙ some.above i q c across down channel up;
          below = λ i q c across down channel under.
              more.below i q c across down channel under
              ∙ some.below i q c across down channel (omega arith);
          before = λ i q c across down channel first.
              more.before i q c across down channel first
              ∙ some.before i q c across down channel first;
          behind = λ i q c across down channel far.
              more.behind i q c across down channel far
              ∙ some.behind i q c across down channel far;
        }
