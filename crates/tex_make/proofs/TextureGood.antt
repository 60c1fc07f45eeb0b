-- The texture of an image is valid, and stores each of its levels.
use Rattle.std.specs.Prelude.{◌==◌, ◌&&◌, not, if◌then◌else◌, is_none, find}
use Rattle.std.proofs.Common.{◌≡◌, ℕ, zero, suc, ◌+◌, ◌-◌, ◌*◌, ◌<◌, ◌≤◌, Bool, true, false, List}
use Rattle.std.proofs.Common.{[], ◌∷◌, length, map, slice_index, Option, Some, None, refl, sym, ap, ◌∙◌, arith}
use Rattle.std.specs.List.{range_with_len}
use Rattle.std.specs.Option.{option_map, option_map_or, option_and_then, unwrap_or}
use Rattle.std.proofs.lemmas.Bool.{lt-ltb, le-ltb, le-leb, eq-eqb, ne_eqb, and_left, and_right}
use Rattle.std.proofs.lemmas.List.FromFn.{get_or-map-range_with_len}
use Rattle.tiff_format.specs.declared.fault.TiffFault.{TiffFault}
use Rattle.tiff_format.specs.declared.fault.TiffFault.TheVariants.{DataOutside}
use Rattle.tiff_format.specs.declared.form.Form.{Form}
use Rattle.tiff_format.specs.Block.{LevelShape, Level, shape_at, level_at, level_with, blocks_of}
use Rattle.tiff_format.specs.Bytes.{is_big}
use Rattle.tiff_format.specs.Directory.{next_directory, directory_place}
use Rattle.tiff_format.specs.DirectoryFault.{first_of, directory_fault, data_fault, block_inside}
use Rattle.tiff_format.specs.Fault.{header_fault, data_faults, first_fault}
use Rattle.tiff_format.specs.Form.{form_of}
use Rattle.tiff_format.specs.Level.{halved, max_levels, level_place, directory_level, is_single, has_half_size}
use Rattle.tiff_format.specs.Level.{has_samples_of, is_next_level, is_level, leading, stored_levels}
use Rattle.tiff_format.specs.Texel.{sample_in}
use Rattle.tile_layout.specs.Kept.{kept_of, stored_count, level_in}
use Rattle.tile_layout.proofs.LevelLemmas.{side_stored, stored_told, level_told}
use Rattle.tile_layout.proofs.StoredTexels.{texel_stored}
use Rattle.tex_make.specs.Field.{number_in}
use Rattle.tex_make.specs.Good.{IsTextureOf}
use Rattle.tex_make.specs.Picture.{Picture, IsPicture}
use Rattle.tex_make.specs.Side.{IsMadeSide, IsShort}
use Rattle.tex_make.specs.Texture.{tile_count, tile_size, places, photometric, tiles_at, directory_at, next_at}
use Rattle.tex_make.specs.Texture.{texture_of}
use Rattle.tex_make.proofs.Directories.{first_directory, directory_below, first_tiles}
use Rattle.tex_make.proofs.DirectoryGood.{IsTiled, tiled_shape, shape_is, level_is, directory_good}
use Rattle.tex_make.proofs.ReadBack.{little, values_of}
use Rattle.tex_make.proofs.TexelRead.{tile_ends, tiles_at_is, texture_long, sample_read}
use Rattle.tex_make.proofs.TextureParts.{little_is, big_is, version_is, form_is, first_is, behind_header}
use Rattle.tex_make.proofs.TextureParts.{tiled, next_place_is}

-- ---- lists

leading_is : (test : ℕ → Bool) (k m t : ℕ) → m ≤ t → ((j : ℕ) → j < m → test (k + j) ≡ true)
    → (m < t → test (k + m) ≡ false) → leading test k t ≡ m
leading_is test k zero zero low each stop = refl
leading_is test k (suc m) zero low each stop = absurd (omega (arith, low))
leading_is test k zero (suc t) low each stop =
    let here : k + 0 ≡ k = omega arith in
    let fails : test k ≡ false = ap test (sym here) ∙ stop (omega arith) in
    rw fails refl
leading_is test k (suc m) (suc t) low each stop =
    let here : k + 0 ≡ k = omega arith in
    let passes : test k ≡ true = ap test (sym here) ∙ each 0 (omega arith) in
    let rest = leading_is test (suc k) m t (omega (arith, low))
    (λ j below. let e : suc k + j ≡ k + suc j = omega arith in ap test e ∙ each (suc j) (omega (arith, below)))
    (λ more. let e : suc k + m ≡ k + suc m = omega arith in ap test e ∙ stop (omega (arith, more))) in
    rw passes (ap suc rest)

none_of_range : (f : ℕ → Option TiffFault) (a n : ℕ)
    → ((k : ℕ) → k < a + n → f k ≡ None) → first_of (map f (range_with_len a n)) ≡ None
none_of_range f a zero none = refl
none_of_range f a (suc n) none =
    rw (none a (omega arith)) (none_of_range f (a + 1) n (λ k low. none k (omega (arith, low))))

find_none : (test : ℕ → Bool) (a n : ℕ) → ((k : ℕ) → k < a + n → test k ≡ false)
    → find test (range_with_len a n) ≡ None
find_none test a zero fails = refl
find_none test a (suc n) fails =
    rw (fails a (omega arith)) (find_none test (a + 1) n (λ k low. fails k (omega (arith, low))))

many_sides : (w h : ℕ) → 2 ≤ w * h → ((w == 1) && (h == 1)) ≡ false
many_sides zero h more = absurd (omega (arith, more))
many_sides (suc zero) zero more = absurd (omega (arith, more))
many_sides (suc zero) (suc zero) more = absurd (omega (arith, more))
many_sides (suc zero) (suc (suc h)) more = and_right (suc zero == 1) (suc (suc h) == 1)
    (ne_eqb (suc (suc h)) 1 (λ e. omega (arith, e)))
many_sides (suc (suc w)) h more = and_left (suc (suc w) == 1) (h == 1)
    (ne_eqb (suc (suc w)) 1 (λ e. omega (arith, e)))

-- ---- the texture

module _ (p : Picture) (is : IsPicture p) (side : ℕ) (made : IsMadeSide side) (short : IsShort p side)
  where
    abbrev bytes : List ℕ
    bytes = texture_of p side

    abbrev at : ℕ → ℕ
    at = directory_at p side

    abbrev shape : ℕ → LevelShape
    shape l = tiled_shape (p.width l) (p.height l) p.channels p.depth (photometric p) side

    abbrev offsets : ℕ → List ℕ
    offsets l = values_of (places (tile_count p side l) (tiles_at p side l) (tile_size p side))

    abbrev kept_level : ℕ → Level
    kept_level l = level_with (shape l) (offsets l)

    read : (l : ℕ) → l < p.levels → IsTiled bytes (at l) (p.width l) (p.height l) p.channels p.depth
        (photometric p) side (offsets l)
    read l below = tiled p is side made short l below

    shape_read : (l : ℕ) → l < p.levels → shape_at little bytes (at l) ≡ shape l
    shape_read l below = shape_is bytes (at l) (p.width l) (p.height l) p.channels p.depth
        (photometric p) side (offsets l) (read l below)

    level_read : (l : ℕ) → l < p.levels → level_at little bytes (at l) ≡ kept_level l
    level_read l below = level_is bytes (at l) (p.width l) (p.height l) p.channels p.depth
        (photometric p) side (offsets l) (read l below)

    good_read : (l : ℕ) → l < p.levels → directory_fault little bytes (at l) ≡ None
    good_read l below = directory_good bytes (at l) (p.width l) (p.height l) p.channels p.depth
        (photometric p) side (offsets l) (read l below)

    -- ---- the chain of directories

    next_read : (l : ℕ) → suc l < p.levels → next_directory little bytes (at l) ≡ Some (at (suc l))
    next_read l below =
        let more : next_at p side l ≡ at (suc l) = rw (lt-ltb (suc l) p.levels below) refl in
        let behind = behind_header p is side made short (suc l) (omega (arith, below)) in
        next_place_is p is side made short l (omega (arith, below))
        ∙ ap (λ (k : ℕ). if k == 0 then None else Some k) more
        ∙ rw (ne_eqb (at (suc l)) 0 (λ e. omega (arith, e, behind))) refl

    no_next : (l : ℕ) → suc l ≡ p.levels → next_directory little bytes (at l) ≡ None
    no_next l last =
        let none : next_at p side l ≡ 0 = rw (le-ltb (suc l) p.levels (omega (arith, last))) refl in
        next_place_is p is side made short l (omega (arith, last))
        ∙ ap (λ (k : ℕ). if k == 0 then None else Some k) none

    place_little : (l : ℕ) → l < p.levels → directory_place little bytes l ≡ Some (at l)
    unfolding directory_place
    place_little zero below =
        ap (λ (k : ℕ). Some k) (first_is p is side made short ∙ sym (first_directory p side))
    place_little (suc l) below =
        ap (option_and_then (next_directory little bytes)) (place_little l (omega (arith, below)))
        ∙ next_read l below

    place_read : (l : ℕ) → l < p.levels → level_place bytes l ≡ at l
    place_read l below =
        ap (λ (f : Form). unwrap_or (directory_place f bytes l) 0) (form_is p is side made short)
        ∙ ap (λ (o : Option ℕ). unwrap_or o 0) (place_little l below)

    directory_read : (l : ℕ) → l < p.levels → directory_level bytes l ≡ kept_level l
    unfolding directory_level
    directory_read l below =
        ap (λ (f : Form). level_at f bytes (level_place bytes l)) (form_is p is side made short)
        ∙ ap (level_at little bytes) (place_read l below) ∙ level_read l below

    -- ---- the levels

    half_read : (l : ℕ) → suc l < p.levels → has_half_size (shape l) (shape (suc l)) ≡ true
    half_read l below =
        let more : l + 1 ≡ suc l = omega arith in
        let width = ap p.width (sym more) ∙ is.half_width l (omega (arith, below)) in
        let height = ap p.height (sym more) ∙ is.half_height l (omega (arith, below)) in
        rw (
          eq-eqb (p.width (suc l)) (halved (p.width l)) width,
          eq-eqb (p.height (suc l)) (halved (p.height l)) height,
        ) refl

    samples_read : (l : ℕ) → has_samples_of (shape 0) (shape l) ≡ true
    samples_read l =
        rw (eq-eqb p.channels p.channels refl, eq-eqb p.depth p.depth refl) refl

    several : (l : ℕ) → suc l < p.levels → is_single (shape l) ≡ false
    several l below = many_sides (p.width l) (p.height l) (is.before l (omega (arith, below)))

    follows : (l : ℕ) → suc l < p.levels → is_next_level little bytes (at 0) (at l) (at (suc l)) ≡ true
    unfolding is_next_level
    follows l below =
        ap (λ (s : LevelShape). not (is_single s)
        && (is_none (directory_fault little bytes (at (suc l)))
        && (has_half_size s (shape_at little bytes (at (suc l)))
        && has_samples_of (shape_at little bytes (at 0)) (shape_at little bytes (at (suc l))))))
        (shape_read l (omega (arith, below)))
        ∙ ap (λ (s : LevelShape). not (is_single (shape l))
        && (is_none (directory_fault little bytes (at (suc l)))
        && (has_half_size (shape l) s
        && has_samples_of (shape_at little bytes (at 0)) s))) (shape_read (suc l) below)
        ∙ ap (λ (s : LevelShape). not (is_single (shape l))
        && (is_none (directory_fault little bytes (at (suc l)))
        && (has_half_size (shape l) (shape (suc l)) && has_samples_of s (shape (suc l)))))
        (shape_read 0 (omega (arith, below)))
        ∙ ap (λ (b : Bool). not b
        && (is_none (directory_fault little bytes (at (suc l)))
        && (has_half_size (shape l) (shape (suc l)) && has_samples_of (shape 0) (shape (suc l)))))
        (several l below)
        ∙ ap (λ (o : Option TiffFault). is_none o
        && (has_half_size (shape l) (shape (suc l)) && has_samples_of (shape 0) (shape (suc l))))
        (good_read (suc l) below)
        ∙ ap (λ (b : Bool). b && has_samples_of (shape 0) (shape (suc l))) (half_read l below)
        ∙ samples_read (suc l)

    abbrev step : Form → ℕ → ℕ → Bool
    step form first k = option_map_or (is_next_level form bytes first k) (next_directory form bytes k) false

    step_is : (l : ℕ) → l < p.levels
        → step (form_of bytes) (level_place bytes 0) (level_place bytes l) ≡ step little (at 0) (at l)
    step_is l below =
        ap (λ (f : Form). step f (level_place bytes 0) (level_place bytes l)) (form_is p is side made short)
        ∙ ap (λ (k : ℕ). step little k (level_place bytes l)) (place_read 0 (omega (arith, below)))
        ∙ ap (λ (k : ℕ). step little (at 0) k) (place_read l below)

    each_level : (l : ℕ) → l < p.levels → is_level bytes l ≡ true
    unfolding is_level
    each_level zero below = refl
    each_level (suc l) below =
        ap (λ (b : Bool). b && step (form_of bytes) (level_place bytes 0) (level_place bytes l))
        (each_level l (omega (arith, below)))
        ∙ step_is l (omega (arith, below))
        ∙ ap (λ (o : Option ℕ). option_map_or (is_next_level little bytes (at 0) (at l)) o false)
        (next_read l below)
        ∙ follows l below

    no_level : (m : ℕ) → suc m ≡ p.levels → is_level bytes (suc m) ≡ false
    unfolding is_level
    no_level m last = and_right (is_level bytes m)
        (step (form_of bytes) (level_place bytes 0) (level_place bytes m))
        (step_is m (omega (arith, last))
        ∙ ap (λ (o : Option ℕ). option_map_or (is_next_level little bytes (at 0) (at m)) o false)
        (no_next m last))

    pub all_stored : stored_levels bytes ≡ p.levels
    unfolding stored_levels
    all_stored = leading_is (is_level bytes) 0 p.levels max_levels is.few
        (λ j low. let e : 0 + j ≡ j = omega arith in ap (is_level bytes) e ∙ each_level j low)
        (λ more.
        let some = is.some in
        let last : suc (p.levels - 1) ≡ p.levels = omega (arith, some) in
        let e : 0 + p.levels ≡ suc (p.levels - 1) = omega (arith, last) in
        ap (is_level bytes) e ∙ no_level (p.levels - 1) last)

    -- ---- no fault

    long_bytes : 8 ≤ length bytes
    long_bytes =
        let long = texture_long p is side made short in
        let behind = behind_header p is side made short p.levels (omega arith) in
        let end = directory_below p side p.levels (omega arith) in
        omega (arith, long, behind, end)

    header_none : header_fault bytes ≡ None
    unfolding header_fault
    header_none =
        let some = long_bytes in
        rw (
          little_is p is side made short,
          version_is p is side made short,
          le-ltb (length bytes) 8 some,
        ) refl

    blocks_are : (l : ℕ) → l < p.levels → blocks_of (shape l) ≡ tile_count p side l
    blocks_are l below = omega arith

    offset_is : (l i : ℕ) → i < tile_count p side l
        → slice_index (offsets l) i ≡ tiles_at p side l + tile_size p side * i
    offset_is l i low = get_or-map-range_with_len
        (number_in (places (tile_count p side l) (tiles_at p side l) (tile_size p side))) 0
        (tile_count p side l) i i 0 low (omega arith)

    block_in : (l : ℕ) → l < p.levels → (i : ℕ) → i < tile_count p side l
        → block_inside little bytes (kept_level l) i ≡ true
    block_in l below i low =
        let offset = offset_is l i low in
        let ends = tile_ends p is side made short l below i low in
        let behind = behind_header p is side made short p.levels (omega arith) in
        let first = first_tiles p side in
        let own = tiles_at_is p is side made short l in
        let low_offset : 8 ≤ tiles_at p side l + tile_size p side * i = omega (arith, behind, first, own) in
        let within : tiles_at p side l + tile_size p side * i + tile_size p side ≤ length bytes =
        omega (arith, ends) in
        rw (
          offset,
          le-leb 8 (tiles_at p side l + tile_size p side * i) low_offset,
          le-leb (tiles_at p side l + tile_size p side * i + tile_size p side) (length bytes) within,
        ) refl

    data_none : (l : ℕ) → l < p.levels → data_fault little bytes l (kept_level l) ≡ None
    unfolding data_fault
    data_none l below = ap (option_map (DataOutside l))
        (find_none (λ i. not (block_inside little bytes (kept_level l) i)) 0 (blocks_of (shape l))
        (λ i low. ap not (block_in l below i (omega (arith, low, blocks_are l below)))))

    all_data : data_faults bytes ≡ None
    unfolding data_faults
    all_data =
        none_of_range (λ k. data_fault (form_of bytes) bytes k (directory_level bytes k)) 0
        (stored_levels bytes)
        (λ k low.
        let below : k < p.levels = omega (arith, low, all_stored) in
        ap (λ (f : Form). data_fault f bytes k (directory_level bytes k)) (form_is p is side made short)
        ∙ ap (data_fault little bytes k) (directory_read k below) ∙ data_none k below)

    pub no_fault : first_fault bytes ≡ None
    unfolding first_fault
    no_fault =
        let some = is.some in
        let first : 0 < p.levels = omega (arith, some) in
        ap (λ (f : Option TiffFault). first_of (f
        ∷ directory_fault (form_of bytes) bytes (level_place bytes 0) ∷ data_faults bytes ∷ [])) header_none
        ∙ ap (λ (f : Form). first_of (directory_fault f bytes (level_place bytes 0) ∷ data_faults bytes ∷ []))
        (form_is p is side made short)
        ∙ ap (λ (k : ℕ). first_of (directory_fault little bytes k ∷ data_faults bytes ∷ []))
        (place_read 0 first)
        ∙ ap (λ (f : Option TiffFault). first_of (f ∷ data_faults bytes ∷ [])) (good_read 0 first)
        ∙ ap (λ (f : Option TiffFault). first_of (f ∷ [])) all_data

    -- ---- the texture's levels are those of the image

    stored_kept : stored_count (kept_of bytes) ≡ p.levels
    stored_kept = stored_told bytes ∙ all_stored

    kept_is : (l : ℕ) → l < p.levels → level_in (kept_of bytes) l ≡ kept_level l
    kept_is l below =
        level_told bytes l (omega (arith, below, all_stored)) ∙ directory_read l below

    pub texture_is : IsTextureOf p bytes
    texture_is = record {
      good = no_fault;
      stored = all_stored;
      width = λ l below.
          side_stored (λ s. s.width) (kept_of bytes) l (omega (arith, below, stored_kept))
          ∙ ap (λ (v : Level). v.shape.width) (kept_is l below);
      height = λ l below.
          side_stored (λ s. s.height) (kept_of bytes) l (omega (arith, below, stored_kept))
          ∙ ap (λ (v : Level). v.shape.height) (kept_is l below);
      channels = ap (λ (v : Level). v.shape.channels)
          (kept_is 0 (let some = is.some in omega (arith, some)));
      depth = ap (λ (v : Level). v.shape.depth)
          (kept_is 0 (let some = is.some in omega (arith, some)));
      samples = λ l x y c below across down channel.
          texel_stored (kept_of bytes) bytes l x y c (omega (arith, below, stored_kept))
          ∙ ap (λ (v : Level). sample_in (is_big bytes) bytes v x y c) (kept_is l below)
          ∙ ap (λ (b : Bool). sample_in b bytes (kept_level l) x y c) (big_is p is side made short)
          ∙ sample_read p is side made short l x y c below across down channel;
    }
