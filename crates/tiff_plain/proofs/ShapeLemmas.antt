-- A directory whose fields show no fault has the shape of a level.
use Rattle.std.proofs.Common.{◌≡◌, ℕ, ◌≤◌, Bool, true, false, not, ◌&&◌, ◌||◌, ◌==◌, eqb}
use Rattle.std.proofs.Common.{cond, ltb, leb, min, List, [], ◌∷◌, Option, None, Some, take, refl}
use Rattle.std.proofs.Common.{sym, ap, ◌∙◌, arith, subst, lit≤}
use Rattle.std.specs.Prelude.{◌%◌}
use Rattle.std.specs.Option.{option_or, option_map}
use Rattle.std.specs.List.{find}
use Rattle.std.specs.Bool.{then_some}
use Rattle.std.proofs.lemmas.Bool.{or_parts, eqb-false, eqb-true, ltb-false, ltb-true}
use Rattle.std.proofs.lemmas.Bool.{leb-true, and_parts, not-false}
use Rattle.std.proofs.lemmas.Option.{none-some, same_Some}
use Rattle.tiff_format.specs.declared.form.Form.{Form}
use Rattle.tiff_format.specs.declared.fault.TiffFault.TheVariants.{Unsupported, ZeroSize, TooLarge}
use Rattle.tiff_format.specs.declared.fault.TiffFault.TheVariants.{TileShape}
use Rattle.tiff_format.specs.Tag.{image_width_tag, image_length_tag}
use Rattle.tiff_format.specs.Tag.{planar_configuration_tag, rows_per_strip_tag, tile_width_tag}
use Rattle.tiff_format.specs.Tag.{tile_length_tag, bits_per_sample_tag}
use Rattle.tiff_format.specs.Limits.{max_side, max_channels, tile_step}
use Rattle.tiff_format.specs.Field.{field_value, field_values, all_rows}
use Rattle.tiff_format.specs.Block.{is_tiled, tile_of, strip_rows, shape_at}
use Rattle.tiff_format.specs.Facts.{IsSide, IsTileSide, HasTileSides, IsLevelShape, IsDepth}
use Rattle.tiff_format.specs.DirectoryFault.{first_of, samples, is_tile_side, outside_fault}
use Rattle.tiff_format.specs.DirectoryFault.{missing_fault, shape_fault, unsupported_fault}
use Rattle.tiff_format.specs.DirectoryFault.{bits_fault, compression_fault, photometric_fault}
use Rattle.tiff_format.specs.DirectoryFault.{planar_fault, format_fault, zero_fault, large_fault}
use Rattle.tiff_format.specs.DirectoryFault.{tile_fault, count_fault, directory_fault}
use Rattle.tiff_format.proofs.FirstFault.{or_none, first_of_both, none_of_two}
use Rattle.tiff_format.proofs.Planes.{planes_in_range}
use Rattle.tiff_plain.specs.Fault.{fields_fault}

-- a test that shows no fault fails
none_then : {A : Type 0} (b : Bool) (x : A) → then_some b x ≡ None → b ≡ false
none_then true x none = absurd (none-some x (sym none))
none_then false x none = refl

-- none is chosen only by a test that passes
none_of_cond : {A : Type 0} (b : Bool) (x : Option A) (y : A) → cond b x (Some y) ≡ None → b ≡ true
none_of_cond true x y none = refl
none_of_cond false x y none = absurd (none-some y (sym none))

-- ---- sides

side_is : (side : ℕ) → eqb side 0 ≡ false → ltb max_side side ≡ false → IsSide side
side_is side some few =
    let other = eqb-false side 0 some in
    record { low = omega (arith, other); high = ltb-false max_side side few }

tile_side_is : (side : ℕ) → is_tile_side side ≡ true → IsTileSide side
tile_side_is side is =
    let parts = and_parts (ltb 0 side) (leb side max_side && (side % tile_step == 0)) is in
    let rest = and_parts (leb side max_side) (side % tile_step == 0) parts.1 in
    let some = ltb-true 0 side parts.0 in
    let whole : side % tile_step ≡ 0 = eqb-true (side % tile_step) 0 rest.1 in
    record {
      low = omega (arith, some, whole);
      high = leb-true side max_side rest.0;
      multiple = whole;
    }

no_tile : HasTileSides None
no_tile t same = absurd (none-some t same)

one_tile : (width height : ℕ) → (is_tile_side width && is_tile_side height) ≡ true
    → HasTileSides (Some (width, height))
one_tile width height are t same =
    let sides = and_parts (is_tile_side width) (is_tile_side height) are in
    let own : IsTileSide width × IsTileSide height =
    (tile_side_is width sides.0, tile_side_is height sides.1) in
    subst (λ (t : ℕ × ℕ). IsTileSide t.0 × IsTileSide t.1) (same_Some _ _ same) own

module _ (form : Form) (bytes : List ℕ) (at : ℕ) where
  -- ---- the faults of a directory, in the order in which they are looked for

  pub directory_is : directory_fault form bytes at
      ≡ option_or (outside_fault form bytes at)
      (option_or (fields_fault form bytes at) (count_fault form bytes at))
  unfolding directory_fault
  directory_is =
      let fields = missing_fault form bytes at ∷ shape_fault form bytes at
      ∷ unsupported_fault form bytes at ∷ zero_fault form bytes at ∷ large_fault form bytes at
      ∷ tile_fault form bytes at ∷ [] in
      ap (option_or (outside_fault form bytes at))
      (first_of_both fields (count_fault form bytes at ∷ [])
      ∙ ap (option_or (first_of fields)) (or_none (count_fault form bytes at)))

  -- none of the faults of its fields
  record HasGoodFields : Type 0 where
    unsupported : unsupported_fault form bytes at ≡ None
    zero : zero_fault form bytes at ≡ None
    large : large_fault form bytes at ≡ None
    tile : tile_fault form bytes at ≡ None

  good_fields : fields_fault form bytes at ≡ None → HasGoodFields
  good_fields none =
      let missing = none_of_two (missing_fault form bytes at) _ none in
      let shape = none_of_two (shape_fault form bytes at) _ missing.1 in
      let unsupported = none_of_two (unsupported_fault form bytes at) _ shape.1 in
      let zero = none_of_two (zero_fault form bytes at) _ unsupported.1 in
      let large = none_of_two (large_fault form bytes at) _ zero.1 in
      let tile = none_of_two (tile_fault form bytes at) _ large.1 in
      record {
        unsupported = unsupported.0;
        zero = zero.0;
        large = large.0;
        tile = tile.0;
      }

  -- the samples of a supported directory have 8 or 16 bits
  depth_is : unsupported_fault form bytes at ≡ None → IsDepth (shape_at form bytes at).depth
  unfolding unsupported_fault
  depth_is none =
      let bits = none_of_two (bits_fault form bytes at) (first_of (compression_fault form bytes at
      ∷ photometric_fault form bytes at ∷ planar_fault form bytes at
      ∷ format_fault form bytes at ∷ [])) none in
      let depth : ℕ = field_value form bytes at bits_per_sample_tag in
      let other = find (λ v. not (v == depth))
      (take (samples form bytes at) (field_values form bytes at bits_per_sample_tag)) in
      none_of_cond ((depth == 8) || (depth == 16))
      (option_map (Unsupported bits_per_sample_tag) other)
      (Unsupported bits_per_sample_tag depth) bits.0

  -- ---- the numbers that are not 0, and those that are not too large

  record AreSome : Type 0 where
    width : eqb (field_value form bytes at image_width_tag) 0 ≡ false
    height : eqb (field_value form bytes at image_length_tag) 0 ≡ false
    channels : eqb (samples form bytes at) 0 ≡ false
    rows : (not (is_tiled form bytes at) && (field_value form bytes at rows_per_strip_tag == 0))
        ≡ false

  are_some : zero_fault form bytes at ≡ None → AreSome
  unfolding zero_fault
  are_some none =
      let width = or_parts _ _ (none_then _ ZeroSize none) in
      let height = or_parts _ _ width.1 in
      let channels = or_parts _ _ height.1 in
      record {
        width = width.0;
        height = height.0;
        channels = channels.0;
        rows = channels.1;
      }

  record AreFew : Type 0 where
    width : ltb max_side (field_value form bytes at image_width_tag) ≡ false
    height : ltb max_side (field_value form bytes at image_length_tag) ≡ false
    channels : ltb max_channels (samples form bytes at) ≡ false

  are_few : large_fault form bytes at ≡ None → AreFew
  unfolding large_fault
  are_few none =
      let width = or_parts _ _ (none_then _ TooLarge none) in
      let height = or_parts _ _ width.1 in
      record { width = width.0; height = height.0; channels = height.1 }

  -- ---- tiles and strips

  tile_by : (tiled : Bool) → is_tiled form bytes at ≡ tiled → tile_fault form bytes at ≡ None
      → HasTileSides (tile_of form bytes at)
  unfolding tile_fault
  tile_by true is none =
      let width = field_value form bytes at tile_width_tag in
      let height = field_value form bytes at tile_length_tag in
      let bad = none_then _ TileShape none in
      let sides : not (is_tile_side width && is_tile_side height) ≡ false = rw is at bad in
      rw is (one_tile width height
      (not-false (is_tile_side width && is_tile_side height) sides))
  tile_by false is none = rw is no_tile

  rows_by : (tiled : Bool) → is_tiled form bytes at ≡ tiled → AreSome
      → 1 ≤ strip_rows form bytes at
  rows_by true is some = rw is (lit≤ tt)
  rows_by false is some =
      let rows = field_value form bytes at rows_per_strip_tag in
      let zero : eqb rows 0 ≡ false = rw is at some.rows in
      let other = eqb-false rows 0 zero in
      let low : 1 ≤ min all_rows rows = omega (arith, other) in
      rw is low

  -- ---- all of it

  pub good_shape : fields_fault form bytes at ≡ None → IsLevelShape (shape_at form bytes at)
  good_shape none =
      let good = good_fields none in
      let some = are_some good.zero in
      let few = are_few good.large in
      let channels = eqb-false (samples form bytes at) 0 some.channels in
      let tiled = is_tiled form bytes at in
      record {
        width = side_is (field_value form bytes at image_width_tag) some.width few.width;
        height = side_is (field_value form bytes at image_length_tag) some.height few.height;
        channels = record {
          low = omega (arith, channels);
          high = ltb-false max_channels (samples form bytes at) few.channels;
        };
        planes = planes_in_range (field_value form bytes at planar_configuration_tag)
            (samples form bytes at);
        depth = depth_is good.unsupported;
        tile = tile_by tiled refl good.tile;
        rows = rows_by tiled refl some;
      }

  -- the shape of a directory without a fault
  pub shape_of_good : directory_fault form bytes at ≡ None → IsLevelShape (shape_at form bytes at)
  shape_of_good none =
      let parts = none_of_two (outside_fault form bytes at)
      (option_or (fields_fault form bytes at) (count_fault form bytes at))
      (sym directory_is ∙ none) in
      good_shape (none_of_two (fields_fault form bytes at) (count_fault form bytes at) parts.1).0
