-- The values of texels that follow one another, appended part by part.
use Rattle.std.proofs.Common.{◌≡◌, ℕ, ◌+◌, ◌-◌, ◌*◌, ◌<◌, ◌≤◌, List, [], ◌++◌, length, map}
use Rattle.std.proofs.Common.{slice_index, ap, ◌∙◌, arith, sym, inl, inr, refl, subst, append_assoc}
use Rattle.std.specs.List.{range_with_len}
use Rattle.std.proofs.lemmas.Bool.{cases_lt}
use Rattle.std.proofs.lemmas.List.{append-nil, length-append}
use Rattle.std.proofs.lemmas.List.{get_or_append_left, get_or-append_right}
use Rattle.std.proofs.lemmas.List.FromFn.{length-map-range_with_len, get_or-map-range_with_len}
use Rattle.std.proofs.lemmas.Nat.{mul-add-lt}
use Rattle.std.proofs.Math.Nat.{mul-le-mul_left}
use Rattle.tiff_format.specs.Block.{Level, sample_bytes, texel_bytes}
use Rattle.tiff_format.specs.Texel.{sample_in}
use Rattle.tile_layout.specs.FormatOf.{IsFormatOf}
use Rattle.tile_layout.proofs.PlaceLemmas.{bytes_by}
use Rattle.rect_read.specs.declared.run.Run.{Run}
use Rattle.tile_layout.specs.declared.texel_format.TexelFormat.{TexelFormat}
use Rattle.rect_read.specs.Run.{AppendsRun, AreValuesOf, AppendsValues, StandSideBySide}
use Rattle.piece_samples.specs.Unpacked.{unpacked}
use Rattle.piece_samples.proofs.PieceValues.{value_is}

-- the bytes of the first texels are no more than those of all
pub bytes_within : (n texels size : ℕ) → n ≤ texels → n * size ≤ texels * size
bytes_within n texels size few = omega (arith, mul-le-mul_left size few)

-- a part of a run, after its first texels
pub part_stands : (level : Level) (run part : Run) (x_of y_of : ℕ → ℕ) (done : ℕ)
    → StandSideBySide level run x_of y_of → done + part.texels ≤ run.texels
    → part.at ≡ run.at + done * texel_bytes level.shape
    → StandSideBySide level part (λ j. x_of (done + j)) (λ j. y_of (done + j))
part_stands level run part x_of y_of done stand few from = λ j c lt.
    stand (done + j) c (omega arith) ∙ rw from (omega arith)

module _ (bytes : List ℕ) (level : Level) (format : TexelFormat) (part : Run)
    (x_of y_of : ℕ → ℕ) (done : ℕ) (old new : List ℕ)
    (is : IsFormatOf format.big level.shape format)
    (unit : format.texel_bytes ≡ texel_bytes level.shape)
    (count : length old ≡ done * level.shape.channels)
    (stand : StandSideBySide level part (λ j. x_of (done + j)) (λ j. y_of (done + j)))
    (more : AppendsRun bytes format part old new) where
  -- the value of sample c of texel j
  abbrev value_at : ℕ → ℕ → ℕ
  value_at j c =
      sample_in format.big bytes level (x_of j) (y_of j) c

  values_behind : (k c : ℕ) → k < part.texels → c < level.shape.channels
      → slice_index new ((done + k) * level.shape.channels + c) ≡ value_at (done + k) c
  values_behind k c k-below c-below =
      let n = level.shape.channels in
      let value : ℕ → ℕ = unpacked format more.span in
      let all = part.texels * format.channels in
      let added = map value (range_with_len 0 all) in
      let at = (done + k) * n + c in
      let place : at ≡ length old + (k * n + c) = omega (arith, count) in
      let below : k * n + c < all =
      rw is.channels (omega (arith, mul-add-lt k n c part.texels k-below c-below)) in
      let long : length more.span ≡ sample_bytes level.shape.depth * (part.texels * n) =
      more.long ∙ ap (λ (u : ℕ). part.texels * u) (unit ∙ bytes_by level.shape is.one)
      ∙ omega arith in
      ap (λ (l : List ℕ). slice_index l at) more.values
      ∙ get_or-append_right old added (length old) at 0 refl (omega (arith, place))
      ∙ get_or-map-range_with_len value 0 all (at - length old) (k * n + c) 0
      (omega (arith, place, below)) (omega (arith, place))
      ∙ sym (value_is format.big bytes level format is part.texels part.at
      (λ i. x_of (done + i)) (λ i. y_of (done + i)) stand more.span more.part long
      k c k-below c-below)

  -- the values of one part more
  pub values_more : AreValuesOf bytes level format done x_of y_of old
      → AreValuesOf bytes level format (done + part.texels) x_of y_of new
  values_more before = λ j c j-below c-below.
      let n = level.shape.channels in
      elim (cases_lt j done) [
        | inl lt ↦
            let added = map (unpacked format more.span)
            (range_with_len 0 (part.texels * format.channels)) in
            ap (λ (l : List ℕ). slice_index l (j * n + c)) more.values
            ∙ get_or_append_left old added 0 (j * n + c)
            (omega (arith, count, mul-add-lt j n c done lt c-below))
            ∙ before j c lt c-below
        | inr le ↦
            let at : done + (j - done) ≡ j = omega arith in
            subst (λ (i : ℕ). slice_index new (i * n + c) ≡ value_at i c) at
            (values_behind (j - done) c (omega arith) c-below)
      ]

-- ---- appended to the values that were there

pub appends_none : (bytes : List ℕ) (level : Level) (format : TexelFormat) (x_of y_of : ℕ → ℕ)
    (old : List ℕ) → AppendsValues bytes level format 0 x_of y_of old old
appends_none bytes level format x_of y_of old = record {
  added = [];
  behind = sym (append-nil old);
  count = let none : 0 ≡ 0 * level.shape.channels = omega arith in none;
  values = λ j c lt. absurd (omega arith);
}

module _ (bytes : List ℕ) (level : Level) (format : TexelFormat) (part : Run)
    (x_of y_of : ℕ → ℕ) (done : ℕ) (old mid new : List ℕ)
    (is : IsFormatOf format.big level.shape format)
    (unit : format.texel_bytes ≡ texel_bytes level.shape)
    (stand : StandSideBySide level part (λ j. x_of (done + j)) (λ j. y_of (done + j)))
    (before : AppendsValues bytes level format done x_of y_of old mid)
    (more : AppendsRun bytes format part mid new) where
  all : ℕ
  all = part.texels * format.channels

  mapped : List ℕ
  mapped = map (unpacked format more.span) (range_with_len 0 all)

  pub appends_more : AppendsValues bytes level format (done + part.texels) x_of y_of old new
  unfolding all mapped
  appends_more =
      let long : length (before.added ++ mapped) ≡ length before.added + all =
      length-append before.added mapped
      ∙ ap (λ (n : ℕ). length before.added + n)
      (length-map-range_with_len (unpacked format more.span) 0 all) in
      record {
        added = before.added ++ mapped;
        behind = more.values ∙ ap (λ (v : List ℕ). v ++ mapped) before.behind
            ∙ append_assoc old before.added mapped;
        count = long ∙ rw (before.count, is.channels) (omega arith);
        values = values_more bytes level format part x_of y_of done before.added
            (before.added ++ mapped) is unit before.count stand
            (record { span = more.span; part = more.part; long = more.long; values = refl })
            before.values;
      }
