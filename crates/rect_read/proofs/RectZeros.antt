-- The zeros among the numbers of a rectangle, and a rectangle all beyond a length.
use Rattle.std.proofs.Common.{◌≡◌, Bool, ℕ, ◌+◌, ◌*◌, ◌/◌, ◌%◌, ◌<◌, ◌≤◌, List, length, get_or, sym, ap, ◌∙◌}
use Rattle.std.proofs.Common.{subst, arith}
use Rattle.std.specs.List.{All}
use Rattle.std.proofs.lemmas.List.Elements.{All-from_get_or}
use Rattle.std.proofs.lemmas.Nat.{mul-add-lt, mod_below, div-add-mod'}
use Rattle.tiff_format.specs.Block.{Level, texel_bytes}
use Rattle.tiff_format.specs.declared.rect.Rect.{Rect}
use Rattle.tile_layout.specs.declared.texel_format.TexelFormat.{TexelFormat}
use Rattle.tile_layout.specs.FormatOf.{IsFormatOf}
use Rattle.tile_layout.specs.WholeRows.{StandsWhole}
use Rattle.tile_layout.specs.Pieces.{rect_texels}
use Rattle.tile_layout.proofs.TexelLemmas.{length-rect_texels}
use Rattle.rect_read.specs.declared.run.Run.{Run}
use Rattle.piece_samples.specs.Beyond.{IsPlaneBeyond, piece_end}
use Rattle.rect_read.specs.Zeros.{AddsTexels, AddsZeros, LiesBeyond}
use Rattle.rect_read.proofs.PieceEnds.{below_of_whole}
use Rattle.rect_read.proofs.WholeRows.{some_columns, row_below}
use Rattle.rect_read.proofs.ZeroTexels.{zero_at, texel_at_place}

-- the pieces of a run that lies below the length do so
pub below_of_run : (format : TexelFormat) (big : Bool) (level : Level) (rect : Rect) (run : Run)
    (len : ℕ) → IsFormatOf big level.shape format → StandsWhole level rect run.at
    → run.texels ≡ rect.w * rect.h → run.at + run.texels * format.texel_bytes ≤ len
    → (i j : ℕ) → i < rect.w → j < rect.h
    → piece_end level (rect.x + rect.w) (rect.x + i) (rect.y + j) ≤ len
below_of_run format big level rect run len is whole count low =
    let unit : format.texel_bytes ≡ texel_bytes level.shape =
    rw (is.one, ← is.channels, ← is.depth) format.in_range.bytes in
    below_of_whole level rect run.at len whole (rw (unit, count) at low)

module _ (level : Level) (len : ℕ) (rect : Rect) where
  abbrev far : ℕ × ℕ → Type 0
  far = LiesBeyond level (rect.x + rect.w) len

  -- by the places of the texels
  pub rect_adds : (n : ℕ) (old new : List ℕ) → n ≡ level.shape.channels
      → AddsTexels far n (rect_texels rect) old new → AddsZeros level len rect old new
  rect_adds n old new is adds = λ i j c across down some beyond.
      let k = j * rect.w + i in
      let below : k < length (rect_texels rect) =
      omega (arith, length-rect_texels rect, mul-add-lt j rect.w i rect.h down across) in
      ap (λ (m : ℕ). get_or new (length old + (k * m + c)) 0) (sym is)
      ∙ zero_at far n (rect_texels rect) old new adds k c (0, 0) below (omega (arith, is, some))
      (subst far (sym (texel_at_place rect i j (0, 0) across down)) beyond)

  -- each texel of it
  pub rect_far : IsPlaneBeyond level len rect → All far (rect_texels rect)
  rect_far beyond =
      All-from_get_or far (rect_texels rect) (0, 0)
      (λ k below.
      let inside : k < rect.w * rect.h = omega (arith, below, length-rect_texels rect) in
      let wide : 0 < rect.w = some_columns rect.w rect.h k inside in
      let across : k % rect.w < rect.w = mod_below k rect.w wide in
      let down : k / rect.w < rect.h = row_below k rect.w rect.h inside in
      let at = texel_at_place rect (k % rect.w) (k / rect.w) (0, 0) across down in
      subst far
      (sym (ap (λ (m : ℕ). get_or (rect_texels rect) m (0, 0)) (sym (div-add-mod' k rect.w)) ∙ at))
      (beyond (k % rect.w) (k / rect.w) across down))
