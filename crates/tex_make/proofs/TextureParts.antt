-- Where the parts of a texture are in its bytes, and what is read of its directories.
use Rattle.std.specs.Prelude.{◌==◌, nat_lt, is_some, if◌then◌else◌}
use Rattle.std.proofs.Common.{◌≡◌, ◌⊎◌, ℕ, zero, suc, ◌+◌, ◌-◌, ◌*◌, ◌^◌, ◌<◌, ◌≤◌, Bool, true, false, List}
use Rattle.std.proofs.Common.{[], ◌∷◌, ◌++◌, length, slice_index, Option, Some, None, refl, sym, ap, ◌∙◌, subst, arith}
use Rattle.std.proofs.Common.{inl, inr, length-append}
use Rattle.std.specs.Prelude.{⊤}
use Rattle.std.specs.Int.{w16, w32, to_le_bytes}
use Rattle.std.specs.List.{All, flat_map}
use Rattle.std.specs.Option.{option_map_or}
use Rattle.std.proofs.lemmas.List.FromFn.{length-map-range_with_len}
use Rattle.std.proofs.lemmas.Nat.{le-div}
use Rattle.tiff_format.specs.Block.{pieces_over}
use Rattle.tiff_format.specs.Bytes.{number_at, is_big, is_little, has_mark, version, has_wide_offsets}
use Rattle.tiff_format.specs.declared.form.Form.{Form}
use Rattle.tiff_format.specs.Directory.{next_directory}
use Rattle.tiff_format.specs.Field.{has_field, field_values, field_value, default_of}
use Rattle.tiff_format.specs.Form.{form_of, first_place}
use Rattle.tiff_format.specs.Tag.{image_width_tag, image_length_tag, bits_per_sample_tag}
use Rattle.tiff_format.specs.Tag.{compression_tag, photometric_tag, samples_per_pixel_tag}
use Rattle.tiff_format.specs.Tag.{planar_configuration_tag, tile_width_tag, tile_length_tag}
use Rattle.tiff_format.specs.Tag.{tile_offsets_tag, sample_format_tag}
use Rattle.tex_make.specs.declared.field.Field.{Field}
use Rattle.tex_make.specs.declared.field.FieldKind.TheVariants.{Short, Long}
use Rattle.tex_make.specs.Field.{IsField, number_in, directory_size, directory_bytes, directory_part}
use Rattle.tex_make.specs.Field.{entries_of, all_outside, outside_bytes}
use Rattle.tex_make.specs.Joined.{joined}
use Rattle.tex_make.specs.Picture.{Picture, IsPicture, colours, extra_samples}
use Rattle.tex_make.specs.Side.{IsMadeSide, IsShort}
use Rattle.tex_make.specs.Texture.{tile_count, tile_size, tiles_across, tiles_down, level_tiles}
use Rattle.tex_make.specs.Texture.{single, places, photometric, extra_field, fields_of}
use Rattle.tex_make.specs.Texture.{directory_at, tiles_at, next_at, header, directory_of}
use Rattle.tex_make.specs.Texture.{head_of, texture_of}
use Rattle.tex_make.proofs.Directories.{first_directory, next_directory as next_directory_at}
use Rattle.tex_make.proofs.Directories.{directory_ends, tiles_end, directory_below}
use Rattle.tex_make.proofs.DirectoryGood.{IsTiled, first_value}
use Rattle.tex_make.proofs.DirectoryRead.{has_is, field_values_are, well_shaped, inside, next_is}
use Rattle.tex_make.proofs.Fields.{fields_fit, fields_few, few_tiles, size_same}
use Rattle.tex_make.proofs.Parts.{Holds, holds_all, holds_left, holds_right, holds_piece}
use Rattle.tex_make.proofs.Parts.{two_bytes, four_bytes}
use Rattle.tex_make.proofs.ReadBack.{little, values_of, field_of, AreWritten, entries_long}
use Rattle.tex_make.proofs.ReadBack.{outside_long}

-- ---- fields

-- the fields' tags are two-byte numbers, and each field has values
abbrev AreMarked : List Field → Type 0
AreMarked [] = ⊤
AreMarked (f ∷ fs) = ((f.tag < 2 ^ 16) × (1 ≤ f.count) × (f.count < 2 ^ 32)) × AreMarked fs

written_from : (fs : List Field) → All IsField fs → AreMarked fs → AreWritten fs
written_from [] all marked = tt
written_from (f ∷ fs) all marked = (
  record { is = all 0 f (omega arith); tag = marked.0.0; some = marked.0.1; few = marked.0.2 },
  written_from fs (λ k d low. all (suc k) d (omega (arith, low))) marked.1,
)

marked_extra : (n : ℕ) → n < 2 ^ 16 → AreMarked (extra_field n)
marked_extra zero low = tt
marked_extra (suc n) low = ((omega arith, omega arith, omega (arith, low)), tt)

pieces_some : (n side : ℕ) → 1 ≤ n → 1 ≤ side → 1 ≤ pieces_over n side
pieces_some n side some made = le-div 1 (n + side - 1) side made (omega arith)

product_some : (a b : ℕ) → 1 ≤ a → 1 ≤ b → 1 ≤ a * b
product_some (suc a) (suc b) first second = omega arith
product_some zero b first second = absurd (omega (arith, first))
product_some (suc a) zero first second = absurd (omega (arith, second))

outside_all : (fs : List Field) → length (flat_map outside_bytes fs) ≡ all_outside fs
outside_all [] = refl
outside_all (f ∷ fs) =
    let here = outside_long f in
    let rest = outside_all fs in
    omega (arith, here, rest, length-append (outside_bytes f) (flat_map outside_bytes fs))

directory_long : (at next : ℕ) (fs : List Field)
    → length (directory_bytes at next fs) ≡ directory_size fs
unfolding directory_bytes
directory_long at next fs =
    let entries = entries_of (at + directory_part (length fs)) fs in
    let rest = to_le_bytes w32 next ++ flat_map outside_bytes fs in
    let one = entries_long fs (at + directory_part (length fs)) in
    let two = outside_all fs in
    omega (arith, one, two, length-append entries rest)

no_format : (n : ℕ) → field_of sample_format_tag (extra_field n) ≡ None
no_format zero = refl
no_format (suc n) = refl

abbrev colour_by : Bool → ℕ
colour_by b = if b then 2 else 1

grey_or_rgb : (b : Bool) → (colour_by b ≡ 1) ⊎ (colour_by b ≡ 2)
grey_or_rgb true = inr refl
grey_or_rgb false = inl refl

low_next : (b : Bool) (n m : ℕ) → n < m → 0 < m → (if b then n else 0) < m
low_next true n m low some = low
low_next false n m low some = some

-- ---- the texture

module _ (p : Picture) (is : IsPicture p) (side : ℕ) (made : IsMadeSide side) (short : IsShort p side)
  where
    abbrev bytes : List ℕ
    bytes = texture_of p side

    -- ---- its head

    head_held : Holds bytes 0 (head_of p side)
    unfolding texture_of
    head_held = holds_left bytes (head_of p side) (joined (level_tiles p side) p.levels) 0 (holds_all bytes)

    header_held : Holds bytes 0 header
    unfolding head_of
    header_held = holds_left bytes header (joined (directory_of p side) p.levels) 0 head_held

    directories_held : Holds bytes 8 (joined (directory_of p side) p.levels)
    unfolding head_of
    directories_held = holds_right bytes header (joined (directory_of p side) p.levels) 0 8 refl head_held

    first_byte : slice_index bytes 0 ≡ 73
    first_byte = sym (header_held.each 0 (omega arith))

    second_byte : slice_index bytes 1 ≡ 73
    second_byte = sym (header_held.each 1 (omega arith))

    pub little_is : is_little bytes ≡ true
    unfolding has_mark
    little_is = rw (first_byte, second_byte) refl

    pub big_is : is_big bytes ≡ false
    unfolding has_mark
    big_is = rw first_byte refl

    version_held : Holds bytes 2 (to_le_bytes w16 42)
    version_held = holds_left bytes (to_le_bytes w16 42) (to_le_bytes w32 8) 2
        (holds_right bytes (73 ∷ 73 ∷ []) (to_le_bytes w16 42 ++ to_le_bytes w32 8) 0 2 refl header_held)

    first_held : Holds bytes 4 (to_le_bytes w32 8)
    first_held = holds_right bytes (to_le_bytes w16 42) (to_le_bytes w32 8) 2 4 refl
        (holds_right bytes (73 ∷ 73 ∷ []) (to_le_bytes w16 42 ++ to_le_bytes w32 8) 0 2 refl header_held)

    pub version_is : version bytes ≡ 42
    version_is = ap (λ (b : Bool). number_at b 2 bytes 2) big_is
        ∙ two_bytes bytes 2 42 (omega arith) version_held

    pub form_is : form_of bytes ≡ little
    form_is =
        let form : Bool → Bool → Form = λ big wide. record { big = big; wide = wide } in
        ap (λ (b : Bool). form b (has_wide_offsets bytes)) big_is
        ∙ ap (λ (v : ℕ). form false (v == 43)) version_is

    pub first_is : first_place little bytes ≡ 8
    first_is = four_bytes bytes 4 8 (omega arith) first_held

    -- ---- its directories

    length_directory : (l : ℕ) → l < p.levels
        → length (directory_of p side l) ≡ directory_size (fields_of p side l 0)
    unfolding directory_of
    length_directory l below =
        directory_long (directory_at p side l) (next_at p side l) (fields_of p side l (tiles_at p side l))
        ∙ size_same p is side l made below (tiles_at p side l)

    at_is : (l : ℕ) → l ≤ p.levels → 8 + length (joined (directory_of p side) l) ≡ directory_at p side l
    at_is zero low = sym (first_directory p side)
    at_is (suc l) low =
        let before = at_is l (omega (arith, low)) in
        let here = length_directory l (omega (arith, low)) in
        let more : l + 1 ≡ suc l = omega arith in
        let next = ap (directory_at p side) (sym more) ∙ next_directory_at p side l in
        omega (
          arith,
          before,
          here,
          next,
          length-append (joined (directory_of p side) l) (directory_of p side l),
        )

    pub head_long : length (head_of p side) ≡ directory_at p side p.levels
    unfolding head_of
    head_long =
        let all = at_is p.levels (omega arith) in
        omega (arith, all, length-append header (joined (directory_of p side) p.levels))

    pub behind_header : (l : ℕ) → l ≤ p.levels → 8 ≤ directory_at p side l
    behind_header l low = let all = at_is l low in omega (arith, all)

    module _ (l : ℕ) (below : l < p.levels) where
      abbrev at : ℕ
      at = directory_at p side l

      abbrev fs : List Field
      fs = fields_of p side l (tiles_at p side l)

      held : Holds bytes at (directory_bytes at (next_at p side l) fs)
      unfolding directory_of
      held = subst (λ (k : ℕ). Holds bytes k (directory_of p side l)) (at_is l (omega (arith, below)))
          (holds_piece bytes (directory_of p side) p.levels l 8 below directories_held)

      across_some : 1 ≤ tiles_across p side l
      across_some = pieces_some (p.width l) side (is.width l below).low
          (let low = made.low in omega (arith, low))

      down_some : 1 ≤ tiles_down p side l
      down_some = pieces_some (p.height l) side (is.height l below).low
          (let low = made.low in omega (arith, low))

      pub count_some : 1 ≤ tile_count p side l
      count_some = product_some (tiles_across p side l) (tiles_down p side l) across_some down_some

      marked : AreMarked fs
      unfolding fields_of
      marked =
          let few = few_tiles p is side l made below in
          let some = count_some in
          let channels = is.channels.low in
          let most = is.channels.high in
          let one : 1 ≤ 1 = omega arith in
          let one_low : 1 < 2 ^ 32 = omega arith in (
            (omega arith, one, one_low),
            (
              (omega arith, one, one_low),
              (
                (omega arith, one, one_low),
                (
                  (omega arith, channels, omega (arith, most)),
                  (
                    (omega arith, one, one_low),
                    (
                      (omega arith, one, one_low),
                      (
                        (omega arith, one, one_low),
                        (
                          (omega arith, one, one_low),
                          (
                            (omega arith, one, one_low),
                            (
                              (omega arith, one, one_low),
                              (
                                (omega arith, some, omega (arith, few)),
                                (
                                  (omega arith, some, omega (arith, few)),
                                  marked_extra (extra_samples p) (omega (arith, most)),
                                ),
                              ),
                            ),
                          ),
                        ),
                      ),
                    ),
                  ),
                ),
              ),
            ),
          )

      written : AreWritten fs
      written = written_from fs
          (fields_fit p is side l made below (tiles_at p side l)
          (let end = tiles_end p side short l below in omega (arith, end))) marked

      few : length fs < 2 ^ 16
      few = let most = fields_few p is side l made below (tiles_at p side l) in omega (arith, most)

      next_low : next_at p side l < 2 ^ 32
      next_low = low_next (nat_lt (suc l) p.levels) (directory_at p side (suc l)) (2 ^ 32)
          (let end = directory_below p side (suc l) (omega (arith, below)) in omega (arith, end, short))
          (omega arith)

      low : at + directory_part (length fs) + all_outside fs < 2 ^ 32
      low =
          let end = directory_ends p side short l below in
          let same = size_same p is side l made below (tiles_at p side l) in
          omega (arith, end, same)

      behind : 8 ≤ at
      behind = behind_header l (omega (arith, below))

      has : (tag : ℕ) → has_field little bytes at tag ≡ is_some (field_of tag fs)
      has tag = has_is bytes at (next_at p side l) fs written few next_low low behind held tag

      values : (tag : ℕ)
          → field_values little bytes at tag ≡ option_map_or values_of (field_of tag fs) (default_of tag)
      values tag = field_values_are bytes at (next_at p side l) fs written few next_low low behind held tag

      one_value : (tag : ℕ) (f : Field) → field_of tag fs ≡ Some f → 1 ≤ f.count
          → field_value little bytes at tag ≡ f.first
      one_value tag f found some =
          ap (λ (xs : List ℕ). slice_index xs 0)
          (values tag ∙ ap (λ (o : Option Field). option_map_or values_of o (default_of tag)) found)
          ∙ first_value f some

      pub next_place_is : next_directory little bytes at
          ≡ (if next_at p side l == 0 then None else Some (next_at p side l))
      next_place_is = next_is bytes at (next_at p side l) fs written few next_low low behind held

      pub tiled : IsTiled bytes at (p.width l) (p.height l) p.channels p.depth (photometric p) side
          (values_of (places (tile_count p side l) (tiles_at p side l) (tile_size p side)))
      unfolding fields_of
      tiled = record {
        inside = inside bytes at (next_at p side l) fs written few next_low low behind held;
        shaped = well_shaped bytes at (next_at p side l) fs written few next_low low behind held;
        has_width = has image_width_tag;
        has_length = has image_length_tag;
        has_tile_width = has tile_width_tag;
        has_tile_length = has tile_length_tag;
        has_offsets = has tile_offsets_tag;
        width = one_value image_width_tag (single Long image_width_tag (p.width l)) refl (omega arith);
        height = one_value image_length_tag (single Long image_length_tag (p.height l)) refl (omega arith);
        bits = values bits_per_sample_tag;
        compression = one_value compression_tag (single Short compression_tag 1) refl (omega arith);
        photometric = one_value photometric_tag (single Short photometric_tag (photometric p)) refl
            (omega arith);
        channels = one_value samples_per_pixel_tag (single Short samples_per_pixel_tag p.channels) refl
            (omega arith);
        planar = one_value planar_configuration_tag (single Short planar_configuration_tag 1) refl
            (omega arith);
        formats = values sample_format_tag
            ∙ ap (λ (o : Option Field). option_map_or values_of o (default_of sample_format_tag))
            (no_format (extra_samples p));
        tile_width = one_value tile_width_tag (single Long tile_width_tag side) refl (omega arith);
        tile_length = one_value tile_length_tag (single Long tile_length_tag side) refl (omega arith);
        places = values tile_offsets_tag;
        wide = is.width l below;
        high = is.height l below;
        some = is.channels;
        depth = is.depth;
        made = made;
        known = grey_or_rgb (colours p == 3);
        count = length-map-range_with_len
            (number_in (places (tile_count p side l) (tiles_at p side l) (tile_size p side))) 0
            (tile_count p side l);
      }
