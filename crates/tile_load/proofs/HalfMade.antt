-- A cell with some of its parts added: one more, all, and none.
use Rattle.std.proofs.Common.{◌≡◌, ℕ, ◌+◌, ◌-◌, ◌*◌, ◌<◌, ◌≤◌, List, length}
use Rattle.std.proofs.Common.{Option, None, Some, IsSomeAnd, sym, ap, ◌∙◌, subst, arith, inl, inr}
use Rattle.std.proofs.lemmas.Bool.{cases_lt}
use Rattle.std.proofs.lemmas.List.Elements.{All-get_or, All-from_get_or}
use Rattle.tiff_format.specs.Level.{halved}
use Rattle.tiff_format.specs.Texel.{greatest_sample}
use Rattle.tiff_format.specs.declared.cut.Cut.{Cut}
use Rattle.tiff_format.specs.declared.rect.Rect.{Rect}
use Rattle.tex_world.specs.World.{Files}
use Rattle.tile_layout.specs.Cell.{channels_in, bit_depth_in, bit_depth_of}
use Rattle.tile_layout.specs.Kept.{Kept, kept_of, stored_count}
use Rattle.tile_layout.specs.Key.{generation_of, file_of, level_of}
use Rattle.tile_layout.specs.Level.{width_in, height_in}
use Rattle.tile_layout.specs.Texel.{texel_at, quarter, AreTexelsOn}
use Rattle.tile_store.specs.Tile.{CachedTile, cached_tile}
use Rattle.tile_store.specs.Told.{ToldBy, IsTold, IsOfBytes}
use Rattle.tile_load.specs.Halving.{rect_of, part_count, part_key}
use Rattle.tile_load.specs.Halved.{IsHalvedKey, IsHalfMade, part_at}
use Rattle.tile_load.specs.PartPlace.{HalvesRows, max_cell_samples, sample_on}
use Rattle.rect_read.specs.Zeros.{AreZeros}
use Rattle.tile_load.proofs.CellParts.{part_rect, parts_are, part_place, sources_across}
use Rattle.tile_load.proofs.CellParts.{sources_down, at_below, held_left, held_right, held_top}
use Rattle.tile_load.proofs.CellParts.{held_bottom}
use Rattle.tile_load.proofs.HalfTexels.{texel_generated, quarter_told, quarter_low, all_samples}
use Rattle.tile_load.proofs.HalfTexels.{by_cases, part_low, place_below}

-- a fact of a generation's bytes, from two other facts
some_both : (held : Option (List ℕ)) (P Q R : List ℕ → Type 0)
    → ((bytes : List ℕ) → P bytes → Q bytes → R bytes)
    → IsSomeAnd held P → IsSomeAnd held Q → IsSomeAnd held R
some_both None P Q R both p q = p
some_both (Some bytes) P Q R both p q = both bytes p q

some_more : (held : Option (List ℕ)) (P R : List ℕ → Type 0)
    → ((bytes : List ℕ) → P bytes → R bytes) → IsSomeAnd held P → IsSomeAnd held R
some_more None P R more p = p
some_more (Some bytes) P R more p = more bytes p

module _ (layout : Kept) (cut : Cut) (key : ℕ) (is : IsHalvedKey layout cut key) where
  abbrev cell : Rect
  cell = rect_of layout cut key

  abbrev n : ℕ
  n = channels_in layout

  -- the level is not the first
  some_level : 1 ≤ level_of key
  some_level = let stored = is.stored in let generated = is.generated in omega arith

  -- ---- one part more

  module _ (k : ℕ) (below : k < part_count layout cut key) (tile : CachedTile)
      (key_is : tile.key ≡ part_key layout cut key k)
      (rect_is : tile.rect ≡ part_rect layout cut key is k below)
      (channels_is : tile.channels ≡ n) (old new : List ℕ)
      (few : cell.w * cell.h * n ≤ max_cell_samples) (long : length old ≡ cell.w * cell.h * n)
      (halves : HalvesRows (part_rect layout cut key is k below) cell n tile.texels
      (greatest_sample (bit_depth_in layout)) 0 (halved (part_rect layout cut key is k below).h) old new) where
    abbrev part : Rect
    part = part_rect layout cut key is k below

    source_texels : (bytes : List ℕ) → IsOfBytes bytes tile
        → AreTexelsOn (texel_at bytes (level_of key - 1)) n part tile.texels
    source_texels bytes of =
        let level : level_of tile.key ≡ level_of key - 1 =
        ap level_of key_is ∙ (parts_are layout cut key is k below).level_is in
        subst (λ (r : Rect). AreTexelsOn (texel_at bytes (level_of key - 1)) n r tile.texels) rect_is
        (subst (λ (c : ℕ). AreTexelsOn (texel_at bytes (level_of key - 1)) c tile.rect tile.texels)
        channels_is
        (subst (λ (l : ℕ). AreTexelsOn (texel_at bytes l) tile.channels tile.rect tile.texels) level
        of.texels))

    half_more : (bytes : List ℕ) → IsHalfMade bytes layout cut key k old → IsOfBytes bytes tile
        → IsHalfMade bytes layout cut key (k + 1) new
    half_more bytes made of =
        let place = part_place layout cut key is k below n few in
        let are = source_texels bytes of in
        let level = level_of key in
        let most = greatest_sample (bit_depth_of bytes) in
        let made_low : HalvesRows part cell n tile.texels most 0 (halved part.h) old new =
        subst (λ (file : Kept). HalvesRows part cell n tile.texels
        (greatest_sample (bit_depth_in file)) 0 (halved part.h) old new) made.kept halves in
        let generated : stored_count (kept_of bytes) ≤ level =
        subst (λ (file : Kept). stored_count file ≤ level) made.kept is.generated in
        let low : (c : ℕ) → c < n → (a b : ℕ)
        → quarter (λ x y. sample_on part.w n tile.texels x y c) part.w part.h a b ≤ most =
        λ c channel a b.
        quarter_low part place.wide place.high (λ x y. sample_on part.w n tile.texels x y c) most
        a b
        (part_low most part n tile.texels are.count
        (λ q q_in. All-get_or (λ s. s ≤ most) tile.texels q 0 q_in of.low) c channel) in
        record {
          kept = made.kept;
          each = λ i j c across down channel at.
              by_cases part cell n place tile.texels old new most made_low
              (λ s. s ≡ texel_at bytes level (cell.x + i) (cell.y + j) c) i j c across down channel
              (low c channel)
              (λ apart. elim (cases_lt (part_at layout cut key (cell.x + i) (cell.y + j)) k) [
                | inl before ↦ made.each i j c across down channel before
                | inr behind ↦
                    let here : part_at layout cut key (cell.x + i) (cell.y + j) ≡ k = omega arith in
                    let left : cell.x ≤ cell.x + i = omega arith in
                    let right : cell.x + i < cell.x + cell.w = omega arith in
                    let top : cell.y ≤ cell.y + j = omega arith in
                    let bottom : cell.y + j < cell.y + cell.h = omega arith in
                    absurd (apart
                    (held_left layout cut key is (cell.x + i) (cell.y + j) left right top bottom k here)
                    (held_right layout cut key is (cell.x + i) (cell.y + j) left right top bottom k here)
                    (held_top layout cut key is (cell.x + i) (cell.y + j) left right top bottom k here)
                    (held_bottom layout cut key is (cell.x + i) (cell.y + j) left right top bottom k
                    here))
              ])
              (λ a b a_in b_in x_is y_is.
              let across_is = sources_across layout cut key is k below a (cell.x + i) a_in x_is in
              let down_is = sources_down layout cut key is k below b (cell.y + j) b_in y_is in
              quarter_told part place.wide place.high (λ x y. sample_on part.w n tile.texels x y c)
              (λ x y. texel_at bytes (level - 1) x y c) (width_in layout (level - 1))
              (height_in layout (level - 1)) (cell.x + i) (cell.y + j) a b
              (λ x y x_in y_in. are.each x y c x_in y_in channel)
              across_is.0 across_is.1 down_is.0 down_is.1
              ∙ ap (λ (file : Kept). quarter (λ x y. texel_at bytes (level - 1) x y c)
              (width_in file (level - 1)) (height_in file (level - 1)) (cell.x + i) (cell.y + j))
              made.kept
              ∙ sym (texel_generated (kept_of bytes) bytes level (cell.x + i) (cell.y + j) c some_level
              generated));
          low = All-from_get_or (λ s. s ≤ most) new 0
              (all_samples (λ s. s ≤ most) cell.w cell.h n new (halves.long ∙ long)
              (λ i j c across down channel.
              by_cases part cell n place tile.texels old new most made_low (λ s. s ≤ most) i j c
              across down channel (low c channel)
              (λ apart. All-get_or (λ s. s ≤ most) old ((j * cell.w + i) * n + c) 0
              (omega (arith, long, place_below cell.w cell.h n i j c across down channel)) made.low)
              (λ a b a_in b_in x_is y_is. low c channel a b)));
        }

    pub told_more : (files : Files) → ToldBy files key (λ bytes. IsHalfMade bytes layout cut key k old)
        → IsTold files tile
        → ToldBy files key (λ bytes. IsHalfMade bytes layout cut key (k + 1) new)
    told_more files made told = λ tells.
        let file : file_of tile.key ≡ file_of key =
        ap file_of key_is ∙ (parts_are layout cut key is k below).file_is in
        let generation : generation_of tile.key ≡ generation_of key =
        ap generation_of key_is ∙ (parts_are layout cut key is k below).generation_is in
        let P : List ℕ → Type 0 = λ bytes. IsOfBytes bytes tile in
        let there : IsSomeAnd (files.held (file_of key) (generation_of key)) P =
        subst (λ (g : ℕ). IsSomeAnd (files.held (file_of key) g) P) generation
        (subst (λ (f : ℕ). IsSomeAnd (files.held f (generation_of tile.key)) P) file (told tells)) in
        some_both (files.held (file_of key) (generation_of key))
        (λ bytes. IsHalfMade bytes layout cut key k old) P
        (λ bytes. IsHalfMade bytes layout cut key (k + 1) new) half_more (made tells) there

  -- ---- all parts

  module _ (samples : List ℕ) (long : length samples ≡ cell.w * cell.h * n) where
    whole_made : (bytes : List ℕ)
        → IsHalfMade bytes layout cut key (part_count layout cut key) samples
        → IsOfBytes bytes (cached_tile key cell n samples)
    whole_made bytes made = record {
      channels = ap channels_in made.kept;
      texels = record {
        count = long;
        each = λ i j c across down channel.
            made.each i j c across down channel
            (at_below layout cut key is (cell.x + i) (cell.y + j) (omega arith) (omega arith)
            (omega arith) (omega arith));
      };
      low = made.low;
    }

    pub told_whole : (files : Files)
        → ToldBy files key (λ bytes.
        IsHalfMade bytes layout cut key (part_count layout cut key) samples)
        → IsTold files (cached_tile key cell n samples)
    told_whole files made = λ tells.
        some_more (files.held (file_of key) (generation_of key))
        (λ bytes. IsHalfMade bytes layout cut key (part_count layout cut key) samples)
        (λ bytes. IsOfBytes bytes (cached_tile key cell n samples)) whole_made (made tells)

-- ---- no part

pub none_made : (bytes : List ℕ) (layout : Kept) (cut : Cut) (key : ℕ) (samples : List ℕ)
    → layout ≡ kept_of bytes → AreZeros samples → IsHalfMade bytes layout cut key 0 samples
none_made bytes layout cut key samples kept zeros = record {
  kept = kept;
  each = λ i j c across down channel at. absurd (omega arith);
  low = All-from_get_or (λ s. s ≤ greatest_sample (bit_depth_of bytes)) samples 0
      (λ k below. omega (arith, zeros k below));
}
