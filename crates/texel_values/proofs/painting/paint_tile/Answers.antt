-- A further row is written.
use Rattle.std.proofs.Common.{◌≡◌, ◌∙◌, ℕ, ◌+◌, ◌-◌, ◌*◌, ◌<◌, ◌≤◌, ◌⊎◌, inl, inr, ap, sym, subst, arith, max, min}
use Rattle.std.proofs.Common.{slice_index, length}
use Rattle.std.proofs.lemmas.Nat.{mul-add-lt}
use Rattle.texel_values.specs.RegionShape.{column_of, row_of}
use Rattle.texel_values.specs.Values.{kept_value}
use Rattle.tile_store.specs.SampleRow.{samples_of}
use Rattle.tile_store.specs.Tile.{kept_sample}
use Rattle.texel_values.proofs.PlaceLemmas.{IsRow, elsewhere, place_is, ends_within}
use Rattle.texel_values.proofs.PlaceLemmas.{place_at, from_place, first_i, less_or_not}
use Rattle.tiff_format.specs.declared.rect.Rect.{Rect}
use Rattle.texel_values.specs.declared.window.RegionShape.{RegionShape}
use Rattle.texel_values.proofs.painting.paint_tile.Goals as goal

pub overflow_add-start-in-loop-y : goal.overflow_add-start-in-loop-y
overflow_add-start-in-loop-y g c =
    let window : RegionShape = c.args.window.now in
    let rect : Rect = c.args.tile.now.rect in
    let rect_is : c.rect-rect.result ≡ rect = c.rect-rect.ensures.value in
    let left = c.max-left.result in
    let right = c.min-right.result in
    let top = c.max-top.result in
    let bottom = c.min-bottom.result in
    let y = c.loop-y.y in
    let is : IsRow window rect left right top bottom y = record {
      left_is = c.max-left.ensures
          ∙ ap (λ (r : Rect). max r.x window.columns.first) rect_is;
      right_is = c.min-right.ensures ∙ ap (λ (r : Rect).
          min (r.x + r.w) (window.columns.first + window.columns.inside)) rect_is;
      top_is = c.max-top.ensures ∙ ap (λ (r : Rect). max r.y window.rows.first) rect_is;
      bottom_is = c.min-bottom.ensures ∙ ap (λ (r : Rect).
          min (r.y + r.h) (window.rows.first + window.rows.inside)) rect_is;
      some = c.if-left-right.false;
      low = c.loop-y.auto.y;
      high = c.loop-y-test.true;
      across = c.requires.values.across;
    } in
    let within = ends_within window rect left right top bottom y is c.args.height
    (length c.args.values.now) c.requires.values.down c.requires.values.count in
    omega (arith, within)

pub paint_row-requires : goal.paint_row-requires
paint_row-requires g c =
    let window : RegionShape = c.args.window.now in
    let rect : Rect = c.args.tile.now.rect in
    let rect_is : c.rect-rect.result ≡ rect = c.rect-rect.ensures.value in
    let left = c.max-left.result in
    let right = c.min-right.result in
    let top = c.max-top.result in
    let bottom = c.min-bottom.result in
    let y = c.loop-y.y in
    let is : IsRow window rect left right top bottom y = record {
      left_is = c.max-left.ensures
          ∙ ap (λ (r : Rect). max r.x window.columns.first) rect_is;
      right_is = c.min-right.ensures ∙ ap (λ (r : Rect).
          min (r.x + r.w) (window.columns.first + window.columns.inside)) rect_is;
      top_is = c.max-top.ensures ∙ ap (λ (r : Rect). max r.y window.rows.first) rect_is;
      bottom_is = c.min-bottom.ensures ∙ ap (λ (r : Rect).
          min (r.y + r.h) (window.rows.first + window.rows.inside)) rect_is;
      some = c.if-left-right.false;
      low = c.loop-y.auto.y;
      high = c.loop-y-test.true;
      across = c.requires.values.across;
    } in
    let within = ends_within window rect left right top bottom y is c.args.height
    (length c.loop-y.values) c.requires.values.down
    (c.loop-y.invariant.long ∙ c.requires.values.count) in
    let count : length (samples_of c.row-samples.result) ≡ (right - left) * window.channels =
    c.row-samples.ensures.value.count ∙ ap (λ (k : ℕ). (right - left) * k) c.requires.channels in
    omega (arith, within, count)

pub loop-y-preserved : goal.loop-y-preserved
loop-y-preserved g c =
    let window : RegionShape = c.args.window.now in
    let rect : Rect = c.args.tile.now.rect in
    let rect_is : c.rect-rect.result ≡ rect = c.rect-rect.ensures.value in
    let left = c.max-left.result in
    let right = c.min-right.result in
    let top = c.max-top.result in
    let bottom = c.min-bottom.result in
    let y = c.loop-y.y in
    let is : IsRow window rect left right top bottom y = record {
      left_is = c.max-left.ensures
          ∙ ap (λ (r : Rect). max r.x window.columns.first) rect_is;
      right_is = c.min-right.ensures ∙ ap (λ (r : Rect).
          min (r.x + r.w) (window.columns.first + window.columns.inside)) rect_is;
      top_is = c.max-top.ensures ∙ ap (λ (r : Rect). max r.y window.rows.first) rect_is;
      bottom_is = c.min-bottom.ensures ∙ ap (λ (r : Rect).
          min (r.y + r.h) (window.rows.first + window.rows.inside)) rect_is;
      some = c.if-left-right.false;
      low = c.loop-y.auto.y;
      high = c.loop-y-test.true;
      across = c.requires.values.across;
    } in
    let w = window.width in
    let n = window.channels in
    let samples = samples_of c.row-samples.result in
    let count : length samples ≡ (right - left) * n =
    c.row-samples.ensures.value.count ∙ ap (λ (k : ℕ). (right - left) * k) c.requires.channels in
    let from = from_place window rect left right top bottom y is in
    let old = c.loop-y.values in
    let new = c.paint_row.new.values in
    let unwritten : (k : ℕ) → ((k < from) ⊎ (from + (right - left) * n ≤ k))
    → slice_index new k ≡ slice_index old k =
    λ k side. c.paint_row.ensures.others k
    (subst (λ (len : ℕ). (k < from) ⊎ (from + len ≤ k)) (sym count) side) in
    record {
      long = c.paint_row.ensures.long ∙ c.loop-y.invariant.long;
      written = λ i j k i_low j_low k_low at row.
          elim (less_or_not (row_of window j) y) [
            | inl above ↦ unwritten (place_at w n i j k)
                (elsewhere window rect left right top bottom y is i j k i_low k_low
                (λ p. let same = p.1 in absurd (omega (arith, above, same))))
                ∙ c.loop-y.invariant.written i j k i_low j_low k_low at above
            | inr not_above ↦
                let here : row_of window j ≡ y = omega (arith, row, not_above) in
                let a = i - first_i window rect left right top bottom y is in
                let column : left + a ≡ column_of window i =
                omega (arith, at.0.left, at.1.left, is.left_is) in
                let low : a < right - left =
                omega (arith, at.0.right, at.0.left, at.1.left, at.1.right, is.left_is, is.right_is) in
                let inside : a * n + k < length samples =
                omega (arith, count, mul-add-lt a n k (right - left) low k_low) in
                ap (slice_index new) (place_is window rect left right top bottom y is i j k at here)
                ∙ (c.paint_row.ensures.written (a * n + k) inside
                ∙ ap (kept_value c.args.depth)
                (ap (λ (m : ℕ). slice_index samples (a * m + k)) (sym c.requires.channels)
                ∙ (c.row-samples.ensures.value.each a k low
                (subst (λ (m : ℕ). k < m) (sym c.requires.channels) k_low)
                ∙ (ap (λ (x : ℕ). kept_sample c.args.tile.now x y k) column
                ∙ ap (λ (z : ℕ). kept_sample c.args.tile.now (column_of window i) z k) (sym here)))))
          ];
      others = λ i j k i_low j_low k_low other.
          unwritten (place_at w n i j k)
          (elsewhere window rect left right top bottom y is i j k i_low k_low
          (λ p. let same = p.1 in other (p.0, omega (arith, same))))
          ∙ c.loop-y.invariant.others i j k i_low j_low k_low
          (λ p. let less = p.1 in other (p.0, omega (arith, less)));
    }
