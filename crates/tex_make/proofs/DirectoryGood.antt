-- A directory whose fields are those of a tiled level shows no fault, and what is kept of it.
use Rattle.std.specs.Prelude.{◌==◌, ◌||◌, nat_lt, not, if◌then◌else◌, find, take}
use Rattle.std.proofs.Common.{◌≡◌, ◌⊎◌, ℕ, zero, suc, ◌+◌, ◌*◌, ◌≤◌, Bool, true, false, List}
use Rattle.std.proofs.Common.{[], ◌∷◌, length, map, slice_index, Option, Some, None, refl, ap, ◌∙◌, arith, inl, inr}
use Rattle.std.specs.Bool.{then_some}
use Rattle.std.specs.List.{range_with_len}
use Rattle.std.specs.Option.{option_map}
use Rattle.std.proofs.lemmas.Bool.{lt-ltb, le-ltb, le-leb, eq-eqb, ne_eqb}
use Rattle.std.proofs.lemmas.List.FromFn.{get_or-map-range_with_len}
use Rattle.std.proofs.Math.Seq.{take-length}
use Rattle.tiff_format.specs.declared.fault.TiffFault.{TiffFault}
use Rattle.tiff_format.specs.declared.fault.TiffFault.TheVariants.{DirOutside}
use Rattle.tiff_format.specs.declared.fault.TiffFault.TheVariants.{FieldShape, Unsupported}
use Rattle.tiff_format.specs.declared.fault.TiffFault.TheVariants.{OffsetCount}
use Rattle.tiff_format.specs.Block.{LevelShape, shape_of, level_with, pieces_over, blocks_of, planes_by}
use Rattle.tiff_format.specs.Block.{shape_at, level_at, tile_of, strip_rows, planes_at, offsets_tag}
use Rattle.tiff_format.specs.Directory.{lies_inside}
use Rattle.tiff_format.specs.DirectoryFault.{first_of, is_tile_side, is_misshapen, samples, read_tags}
use Rattle.tiff_format.specs.DirectoryFault.{outside_fault, missing_fault, shape_fault, bits_fault}
use Rattle.tiff_format.specs.DirectoryFault.{compression_fault, photometric_fault, planar_fault}
use Rattle.tiff_format.specs.DirectoryFault.{format_fault, unsupported_fault, zero_fault, large_fault}
use Rattle.tiff_format.specs.DirectoryFault.{tile_fault, count_fault, directory_fault}
use Rattle.tiff_format.specs.Facts.{IsSide, IsChannelCount, IsDepth}
use Rattle.tiff_format.specs.Field.{has_field, field_values, field_value, all_rows}
use Rattle.tiff_format.specs.Limits.{max_side, max_channels}
use Rattle.tiff_format.specs.Tag.{image_width_tag, image_length_tag, bits_per_sample_tag}
use Rattle.tiff_format.specs.Tag.{compression_tag, photometric_tag, samples_per_pixel_tag}
use Rattle.tiff_format.specs.Tag.{planar_configuration_tag, tile_width_tag, tile_length_tag}
use Rattle.tiff_format.specs.Tag.{tile_offsets_tag, sample_format_tag}
use Rattle.tex_make.specs.declared.field.Field.{Field}
use Rattle.tex_make.specs.declared.field.FieldKind.TheVariants.{Short}
use Rattle.tex_make.specs.Field.{number_in}
use Rattle.tex_make.specs.Side.{IsMadeSide}
use Rattle.tex_make.specs.Texture.{equal}
use Rattle.tex_make.proofs.ReadBack.{little, values_of}

-- the shape of such a level
abbrev pub tiled_shape : ℕ → ℕ → ℕ → ℕ → ℕ → ℕ → LevelShape
tiled_shape w h n d colour side = shape_of w h n 1 d false (colour == 2) (Some (side, side)) all_rows

-- What is read of the directory at a place: a level of w by h texels, n samples of d bits, in
-- square tiles at these places.
pub record IsTiled (bytes : List ℕ) (at w h n d colour side : ℕ) (offsets : List ℕ) : Type 0 where
  pub inside : lies_inside little bytes at ≡ true
  pub shaped : (tag : ℕ) → is_misshapen little bytes at tag ≡ false
  pub has_width : has_field little bytes at image_width_tag ≡ true
  pub has_length : has_field little bytes at image_length_tag ≡ true
  pub has_tile_width : has_field little bytes at tile_width_tag ≡ true
  pub has_tile_length : has_field little bytes at tile_length_tag ≡ true
  pub has_offsets : has_field little bytes at tile_offsets_tag ≡ true
  pub width : field_value little bytes at image_width_tag ≡ w
  pub height : field_value little bytes at image_length_tag ≡ h
  pub bits : field_values little bytes at bits_per_sample_tag
      ≡ values_of (equal Short bits_per_sample_tag n d)
  pub compression : field_value little bytes at compression_tag ≡ 1
  pub photometric : field_value little bytes at photometric_tag ≡ colour
  pub channels : field_value little bytes at samples_per_pixel_tag ≡ n
  pub planar : field_value little bytes at planar_configuration_tag ≡ 1
  pub formats : field_values little bytes at sample_format_tag ≡ 1 ∷ []
  pub tile_width : field_value little bytes at tile_width_tag ≡ side
  pub tile_length : field_value little bytes at tile_length_tag ≡ side
  pub places : field_values little bytes at tile_offsets_tag ≡ offsets
  pub wide : IsSide w
  pub high : IsSide h
  pub some : IsChannelCount n
  pub depth : IsDepth d
  pub made : IsMadeSide side
  pub known : (colour ≡ 1) ⊎ (colour ≡ 2)
  pub count : length offsets ≡ pieces_over w side * pieces_over h side

-- ---- lists

none_found : (test : ℕ → Bool) → ((t : ℕ) → test t ≡ false) → (xs : List ℕ) → find test xs ≡ None
none_found test fails [] = refl
none_found test fails (x ∷ xs) = rw (fails x) (none_found test fails xs)

none_other : (test : ℕ → Bool) (f : ℕ → ℕ) → ((i : ℕ) → test (f i) ≡ true) → (m n a : ℕ)
    → find (λ v. not (test v)) (take m (map f (range_with_len a n))) ≡ None
none_other test f all zero n a = refl
none_other test f all (suc m) zero a = refl
none_other test f all (suc m) (suc n) a = rw (all a) (none_other test f all m n (a + 1))

one_format : (m : ℕ) → find (λ v. not ((v == 1) || (v == 4))) (take m (1 ∷ [])) ≡ None
one_format zero = refl
one_format (suc zero) = refl
one_format (suc (suc m)) = refl

pub first_value : (f : Field) → 1 ≤ f.count → slice_index (values_of f) 0 ≡ f.first
first_value f some =
    get_or-map-range_with_len (number_in f) 0 f.count 0 0 0 (omega arith) (omega arith) ∙ omega arith

none_of_five : (a b c d e : Option TiffFault) → a ≡ None → b ≡ None → c ≡ None → d ≡ None → e ≡ None
    → first_of (a ∷ b ∷ c ∷ d ∷ e ∷ []) ≡ None
none_of_five a b c d e p1 p2 p3 p4 p5 = rw (p1, p2, p3, p4, p5) refl

none_of_eight : (a b c d e f g h : Option TiffFault) → a ≡ None → b ≡ None → c ≡ None → d ≡ None
    → e ≡ None → f ≡ None → g ≡ None → h ≡ None
    → first_of (a ∷ b ∷ c ∷ d ∷ e ∷ f ∷ g ∷ h ∷ []) ≡ None
none_of_eight a b c d e f g h p1 p2 p3 p4 p5 p6 p7 p8 = rw (p1, p2, p3, p4, p5, p6, p7, p8) refl

shape_same : (a b c d e : ℕ) (f g : Bool) (t : Option (ℕ × ℕ)) (r : ℕ)
    (a' b' c' d' e' : ℕ) (f' g' : Bool) (t' : Option (ℕ × ℕ)) (r' : ℕ)
    → a ≡ a' → b ≡ b' → c ≡ c' → d ≡ d' → e ≡ e' → f ≡ f' → g ≡ g' → t ≡ t' → r ≡ r'
    → shape_of a b c d e f g t r ≡ shape_of a' b' c' d' e' f' g' t' r'
shape_same a b c d e f g t r a' b' c' d' e' f' g' t' r' p1 p2 p3 p4 p5 p6 p7 p8 p9 = cc

-- ---- the directory

module _ (bytes : List ℕ) (at w h n d colour side : ℕ) (offsets : List ℕ)
    (is : IsTiled bytes at w h n d colour side offsets) where
  bits_is : field_value little bytes at bits_per_sample_tag ≡ d
  bits_is =
      let some = is.some.low in
      ap (λ (xs : List ℕ). slice_index xs 0) is.bits
      ∙ first_value (equal Short bits_per_sample_tag n d) some

  -- ---- its shape

  white_is : (field_value little bytes at photometric_tag == 0) ≡ false
  white_is = ap (λ (v : ℕ). v == 0) is.photometric ∙ (elim is.known [
    | inl grey ↦ ap (λ (v : ℕ). v == 0) grey
    | inr rgb ↦ ap (λ (v : ℕ). v == 0) rgb
  ])

  tile_is : tile_of little bytes at ≡ Some (side, side)
  tile_is =
      rw is.has_tile_width (
      ap (λ (a : ℕ). Some (a, field_value little bytes at tile_length_tag)) is.tile_width
      ∙ ap (λ (b : ℕ). Some (side, b)) is.tile_length)

  rows_is : strip_rows little bytes at ≡ all_rows
  rows_is = rw is.has_tile_width refl

  tag_is : offsets_tag little bytes at ≡ tile_offsets_tag
  tag_is = rw is.has_tile_width refl

  pub shape_is : shape_at little bytes at ≡ tiled_shape w h n d colour side
  shape_is = shape_same
      (field_value little bytes at image_width_tag) (field_value little bytes at image_length_tag)
      (field_value little bytes at samples_per_pixel_tag) (planes_at little bytes at)
      (field_value little bytes at bits_per_sample_tag)
      (field_value little bytes at photometric_tag == 0)
      (field_value little bytes at photometric_tag == 2) (tile_of little bytes at)
      (strip_rows little bytes at)
      w h n 1 d false (colour == 2) (Some (side, side)) all_rows
      is.width is.height is.channels
      (ap (λ (v : ℕ). planes_by v (field_value little bytes at samples_per_pixel_tag)) is.planar)
      bits_is white_is (ap (λ (v : ℕ). v == 2) is.photometric) tile_is rows_is

  blocks_is : blocks_of (shape_at little bytes at) ≡ length offsets
  blocks_is = ap blocks_of shape_is ∙ let count = is.count in omega (arith, count)

  offsets_is : field_values little bytes at (offsets_tag little bytes at) ≡ offsets
  offsets_is = ap (field_values little bytes at) tag_is ∙ is.places

  pub level_is : level_at little bytes at ≡ level_with (tiled_shape w h n d colour side) offsets
  unfolding level_at
  level_is =
      ap (λ (s : LevelShape). level_with s (take (blocks_of (shape_at little bytes at))
      (field_values little bytes at (offsets_tag little bytes at)))) shape_is
      ∙ ap (λ (k : ℕ). level_with (tiled_shape w h n d colour side) (take k
      (field_values little bytes at (offsets_tag little bytes at)))) blocks_is
      ∙ ap (λ (xs : List ℕ). level_with (tiled_shape w h n d colour side) (take (length offsets) xs)) offsets_is
      ∙ ap (λ (xs : List ℕ). level_with (tiled_shape w h n d colour side) xs) (take-length offsets)

  -- ---- no fault

  outside_none : outside_fault little bytes at ≡ None
  unfolding outside_fault
  outside_none = ap (λ (b : Bool). then_some (not b) DirOutside) is.inside

  missing_none : missing_fault little bytes at ≡ None
  unfolding missing_fault
  missing_none =
      rw (is.has_width, is.has_length, is.has_tile_width, is.has_tile_length, is.has_offsets) refl

  shape_none : shape_fault little bytes at ≡ None
  unfolding shape_fault
  shape_none = ap (option_map FieldShape)
      (none_found (is_misshapen little bytes at) is.shaped (read_tags little bytes at))

  bits_none : bits_fault little bytes at ≡ None
  bits_none =
      ap (λ (b : ℕ). if (b == 8) || (b == 16)
      then option_map (Unsupported bits_per_sample_tag)
      (find (λ v. not (v == b)) (take (samples little bytes at) (field_values little bytes at bits_per_sample_tag)))
      else Some (Unsupported bits_per_sample_tag b)) bits_is
      ∙ rw is.depth (ap (λ (xs : List ℕ). option_map (Unsupported bits_per_sample_tag)
      (find (λ v. not (v == d)) (take (samples little bytes at) xs))) is.bits
      ∙ ap (option_map (Unsupported bits_per_sample_tag))
      (none_other (λ v. v == d) (number_in (equal Short bits_per_sample_tag n d))
      (λ i. eq-eqb (d + 0 * i) d (omega arith)) (samples little bytes at) n 0))

  compression_none : compression_fault little bytes at ≡ None
  compression_none =
      ap (λ (v : ℕ). then_some (not (v == 1)) (Unsupported compression_tag v)) is.compression

  photometric_none : photometric_fault little bytes at ≡ None
  photometric_none =
      ap (λ (v : ℕ). then_some (nat_lt 2 v) (Unsupported photometric_tag v)) is.photometric
      ∙ (elim is.known [
        | inl grey ↦ ap (λ (v : ℕ). then_some (nat_lt 2 v) (Unsupported photometric_tag v)) grey
        | inr rgb ↦ ap (λ (v : ℕ). then_some (nat_lt 2 v) (Unsupported photometric_tag v)) rgb
      ])

  planar_none : planar_fault little bytes at ≡ None
  planar_none =
      ap (λ (v : ℕ). then_some (not ((v == 1) || (v == 2))) (Unsupported planar_configuration_tag v))
      is.planar

  format_none : format_fault little bytes at ≡ None
  format_none =
      ap (λ (xs : List ℕ). option_map (Unsupported sample_format_tag)
      (find (λ v. not ((v == 1) || (v == 4))) (take (samples little bytes at) xs))) is.formats
      ∙ ap (option_map (Unsupported sample_format_tag)) (one_format (samples little bytes at))

  unsupported_none : unsupported_fault little bytes at ≡ None
  unfolding unsupported_fault
  unsupported_none = none_of_five (bits_fault little bytes at) (compression_fault little bytes at)
      (photometric_fault little bytes at) (planar_fault little bytes at) (format_fault little bytes at)
      bits_none compression_none photometric_none planar_none format_none

  zero_none : zero_fault little bytes at ≡ None
  unfolding zero_fault
  zero_none =
      let wide = is.wide.low in
      let high = is.high.low in
      let some = is.some.low in
      rw (is.width, is.height, is.channels, is.has_tile_width) (
      rw (ne_eqb w 0 (λ e. omega arith), ne_eqb h 0 (λ e. omega arith), ne_eqb n 0 (λ e. omega arith)) refl)

  large_none : large_fault little bytes at ≡ None
  unfolding large_fault
  large_none =
      let wide = is.wide.high in
      let high = is.high.high in
      let few = is.some.high in
      rw (is.width, is.height, is.channels) (
      rw (le-ltb max_side w wide, le-ltb max_side h high, le-ltb max_channels n few) refl)

  side_good : is_tile_side side ≡ true
  side_good =
      let low = is.made.low in
      let high = is.made.high in
      rw (lt-ltb 0 side (omega arith), le-leb side max_side (omega arith), is.made.multiple) refl

  tile_none : tile_fault little bytes at ≡ None
  unfolding tile_fault
  tile_none =
      rw (is.has_tile_width, is.tile_width, is.tile_length) (rw side_good refl)

  count_none : count_fault little bytes at ≡ None
  unfolding count_fault
  count_none =
      ap (λ (xs : List ℕ). then_some (nat_lt (length xs) (blocks_of (shape_at little bytes at))) OffsetCount)
      offsets_is
      ∙ ap (λ (k : ℕ). then_some (nat_lt (length offsets) k) OffsetCount) blocks_is
      ∙ ap (λ (b : Bool). then_some b OffsetCount) (le-ltb (length offsets) (length offsets) (omega arith))

  pub directory_good : directory_fault little bytes at ≡ None
  unfolding directory_fault
  directory_good = none_of_eight (outside_fault little bytes at) (missing_fault little bytes at)
      (shape_fault little bytes at) (unsupported_fault little bytes at) (zero_fault little bytes at)
      (large_fault little bytes at) (tile_fault little bytes at) (count_fault little bytes at)
      outside_none missing_none shape_none unsupported_none zero_none large_none tile_none count_none
