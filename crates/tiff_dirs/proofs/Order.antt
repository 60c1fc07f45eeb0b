-- The faults of a directory, one after the other.
use Rattle.std.proofs.Common.{◌≡◌, ℕ, zero, suc, min, arith, Bool, true, false, not, eqb, List, [], ◌∷◌, ◌++◌}
use Rattle.std.proofs.Common.{Option, Some, None, take, refl, ap, ◌∙◌, sym, ◌⊎◌, inl, inr}
use Rattle.std.specs.Prelude.{◌||◌}
use Rattle.std.specs.Option.{option_or, option_map}
use Rattle.std.proofs.lemmas.Bool.{ne_eqb}
use Rattle.tiff_format.specs.declared.form.Form.{Form}
use Rattle.tiff_format.specs.declared.fault.TiffFault.{TiffFault}
use Rattle.tiff_format.specs.declared.fault.TiffFault.TheVariants.{Unsupported}
use Rattle.tiff_dirs.specs.declared.numbers.Numbers.{Numbers}
use Rattle.tiff_dirs.specs.declared.sample_fields.SampleField.{SampleField}
use Rattle.tiff_format.specs.Tag.{bits_per_sample_tag, rows_per_strip_tag}
use Rattle.tiff_format.specs.Field.{field_value, field_values, all_rows}
use Rattle.tiff_format.specs.Block.{LevelShape, is_tiled, shape_at}
use Rattle.tiff_format.specs.DirectoryFault.{first_of, directory_fault, outside_fault}
use Rattle.tiff_format.specs.DirectoryFault.{missing_fault, shape_fault, unsupported_fault}
use Rattle.tiff_format.specs.DirectoryFault.{zero_fault, large_fault, tile_fault, count_fault}
use Rattle.tiff_format.specs.DirectoryFault.{bits_fault, compression_fault, photometric_fault}
use Rattle.tiff_format.specs.DirectoryFault.{planar_fault, format_fault}
use Rattle.tiff_dirs.specs.Values.{first_other}
use Rattle.tiff_dirs.specs.Numbers.{AreNumbersAt, value_fault, size_fault}
use Rattle.tiff_entries.specs.Entries.{entries_fault}
use Rattle.tiff_dirs.specs.Numbers.{numbers_fault, fields_fault, numbers_shape}
use Rattle.tiff_format.proofs.FirstFault.{or_assoc, or_none, first_of_both}
use Rattle.tiff_dirs.proofs.Finding.{find_same}

-- a number of rows is kept as 0 if and only if it is 0
rows_by : (rows : ℕ) → eqb (min all_rows rows) 0 ≡ eqb rows 0
rows_by zero = refl
rows_by (suc rows) = ne_eqb (min all_rows (suc rows)) 0 (λ is. omega arith)
    ∙ sym (ne_eqb (suc rows) 0 (λ is. omega arith))

module _ (form : Form) (bytes : List ℕ) (at : ℕ) where
  -- the faults of the directory's fields
  pub fields_are : fields_fault form bytes at
      ≡ option_or (entries_fault form bytes at) (numbers_fault form bytes at)
  fields_are = ap (option_or (entries_fault form bytes at)) (or_none (numbers_fault form bytes at))

  -- all faults of the directory
  pub directory_is : directory_fault form bytes at
      ≡ option_or (outside_fault form bytes at)
      (option_or (fields_fault form bytes at) (count_fault form bytes at))
  unfolding directory_fault
  directory_is =
      let fields = missing_fault form bytes at ∷ shape_fault form bytes at ∷ [] in
      let numbers = unsupported_fault form bytes at ∷ zero_fault form bytes at
      ∷ large_fault form bytes at ∷ tile_fault form bytes at ∷ [] in
      let count = count_fault form bytes at ∷ [] in
      ap (option_or (outside_fault form bytes at))
      (first_of_both fields (numbers ++ count)
      ∙ ap (option_or (first_of fields)) (first_of_both numbers count)
      ∙ sym (or_assoc (first_of fields) (first_of numbers) (first_of count))
      ∙ ap (λ (f : Option TiffFault). option_or f (first_of count)) (sym fields_are)
      ∙ ap (option_or (fields_fault form bytes at)) (or_none (count_fault form bytes at)))

  -- ---- those of the numbers

  values_are : (n : Numbers) → AreNumbersAt form bytes at n
      → first_of (compression_fault form bytes at ∷ photometric_fault form bytes at
      ∷ planar_fault form bytes at ∷ []) ≡ value_fault n
  values_are n are = rw (are.compression, are.photometric, are.planar) refl

  sizes_by : (n : Numbers) (tiled : Bool) → is_tiled form bytes at ≡ tiled
      → AreNumbersAt form bytes at n
      → first_of (zero_fault form bytes at ∷ large_fault form bytes at
      ∷ tile_fault form bytes at ∷ []) ≡ size_fault n
  unfolding zero_fault large_fault tile_fault
  sizes_by n true is are = rw (are.width, are.height, are.samples, are.tile, are.rows, is) refl
  sizes_by n false is are =
      rw (are.width, are.height, are.samples, are.tile, are.rows, is)
      (rw (rows_by (field_value form bytes at rows_per_strip_tag)) refl)

  pub numbers_are : (n : Numbers) → AreNumbersAt form bytes at n → numbers_fault form bytes at
      ≡ option_or (bits_fault form bytes at) (option_or (value_fault n)
      (option_or (format_fault form bytes at) (option_or (size_fault n) None)))
  unfolding unsupported_fault
  numbers_are n are =
      let bits = bits_fault form bytes at in
      let format = format_fault form bytes at in
      let values = first_of (compression_fault form bytes at ∷ photometric_fault form bytes at
      ∷ planar_fault form bytes at ∷ []) in
      let rest = first_of (compression_fault form bytes at ∷ photometric_fault form bytes at
      ∷ planar_fault form bytes at ∷ format ∷ []) in
      let sizes = first_of (zero_fault form bytes at ∷ large_fault form bytes at
      ∷ tile_fault form bytes at ∷ []) in
      let parts : rest ≡ option_or values (option_or format None) =
      first_of_both (compression_fault form bytes at ∷ photometric_fault form bytes at
      ∷ planar_fault form bytes at ∷ []) (format ∷ []) in
      or_assoc bits rest sizes ∙ ap (option_or bits)
      (ap (λ (f : Option TiffFault). option_or f sizes) parts
      ∙ or_assoc values (option_or format None) sizes
      ∙ ap (option_or values) (ap (λ (f : Option TiffFault). option_or f sizes) (or_none format)
      ∙ ap (option_or format) (sym (or_none sizes)))
      ∙ ap (λ (f : Option TiffFault). option_or f (option_or format (option_or sizes None)))
      (values_are n are)
      ∙ ap (λ (f : Option TiffFault).
      option_or (value_fault n) (option_or format (option_or f None)))
      (sizes_by n (is_tiled form bytes at) refl are))

  -- the shape that they say is that of the directory
  pub shape_is_at : (n : Numbers) (shape : LevelShape) → AreNumbersAt form bytes at n
      → shape ≡ numbers_shape n → shape ≡ shape_at form bytes at
  shape_is_at n shape are is = is ∙ rw (
    are.width,
    are.height,
    are.samples,
    are.planar,
    are.bits,
    are.photometric,
    are.tile,
    are.rows,
  ) refl

  -- ---- the samples

  either_twice : (n v : ℕ) → not (eqb v n || eqb v n) ≡ not (eqb v n)
  either_twice n v = twice (eqb v n)
    where
      twice : (b : Bool) → not (b || b) ≡ not b
      twice true = refl
      twice false = refl

  -- BitsPerSample, which may be read for the first sample only
  pub bits_are : (n : Numbers) (field : SampleField) → AreNumbersAt form bytes at n
      → field.tag ≡ bits_per_sample_tag → field.one ≡ n.bits → field.other ≡ n.bits
      → (eqb n.bits 8 || eqb n.bits 16) ≡ true
      → bits_fault form bytes at
      ≡ option_map (Unsupported field.tag) (first_other form bytes at field n.samples)
  bits_are n field are tag one other fits =
      let same = find_same (λ (v : ℕ). not (eqb v n.bits || eqb v n.bits))
      (λ v. not (eqb v n.bits))
      (take n.samples (field_values form bytes at bits_per_sample_tag)) (either_twice n.bits) in
      rw (tag, one, other, ← are.bits, fits, ← are.samples, same) refl

  pub other_bits_are : (n : Numbers) → AreNumbersAt form bytes at n
      → (eqb n.bits 8 || eqb n.bits 16) ≡ false
      → bits_fault form bytes at ≡ Some (Unsupported bits_per_sample_tag n.bits)
  other_bits_are n are other = rw (← are.bits, other) refl

pub is_depth : (bits : ℕ) → ((bits ≡ 8 → ⊥) × (bits ≡ 16)) ⊎ (bits ≡ 8)
    → (eqb bits 8 || eqb bits 16) ≡ true
is_depth bits (inl is) = rw is.1 refl
is_depth bits (inr is) = rw is refl
