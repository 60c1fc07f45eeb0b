-- What is true of the values of a field while they are being read?
use Rattle.std.specs.Prelude.{◌≡◌, ℕ, ◌+◌, ◌<◌, ◌==◌, ◌||◌, not, Bool, true, false, List}
use Rattle.std.specs.Prelude.{length, take, find, slice_index, Option, Some, None}
use Rattle.std.specs.Prelude.{if◌then◌else◌}
use Rattle.tiff_format.specs.declared.form.Form.{Form}
use Rattle.tiff_dirs.specs.declared.sample_fields.SampleField.{SampleField}
use Rattle.tiff_format.specs.Field.{field_values}

-- the number of values read at once: as many of the widest type as fit 64 KiB
abbrev pub max_values : Form → ℕ
max_values form = if form.wide then 8192 else 16384

-- ---- for each sample of a pixel

-- whether the field may have this value
abbrev pub is_allowed : SampleField → ℕ → Bool
is_allowed field v = (v == field.one) || (v == field.other)

-- the first of n values that fails a test
abbrev pub IsFirstOther : (ℕ → Bool) → (ℕ → ℕ) → ℕ → Option ℕ → Type 0
IsFirstOther test value n None = (k : ℕ) → k < n → test (value k) ≡ true
IsFirstOther test value n (Some v) =
    (k : ℕ) × (k < n) × (value k ≡ v) × (test v ≡ false)
    × ((j : ℕ) → j < k → test (value j) ≡ true)

-- the first value that the field may not have, among as many values as a pixel has samples
abbrev pub first_other : Form → List ℕ → ℕ → SampleField → ℕ → Option ℕ
first_other form bytes at field samples =
    find (λ v. not (is_allowed field v)) (take samples (field_values form bytes at field.tag))

-- ---- for each block

-- n numbers were appended
pub record AppendsNumbers (n : ℕ) (number : ℕ → ℕ) (old new : List ℕ) : Type 0 where
  pub long : length new ≡ length old + n
  pub same : (k : ℕ) → k < length old → slice_index new k ≡ slice_index old k
  pub more : (k : ℕ) → k < n → slice_index new (length old + k) ≡ number k

-- these are the first n values
pub record AreFirstValues (n : ℕ) (value : ℕ → ℕ) (kept : List ℕ) : Type 0 where
  pub long : length kept ≡ n
  pub same : (i : ℕ) → i < n → slice_index kept i ≡ value i
