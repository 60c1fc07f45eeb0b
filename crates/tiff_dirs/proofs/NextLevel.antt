-- Which level follows one.
use Rattle.std.proofs.Common.{◌≡◌, ℕ, Bool, true, false, not, eqb, List, Option, Some, None, refl}
use Rattle.std.proofs.Common.{ap, ◌∙◌, sym, Ok, Err}
use Rattle.std.specs.Prelude.{is_none, ◌&&◌}
use Rattle.std.specs.Option.{option_map_or}
use Rattle.std.proofs.lemmas.Bool.{ne_eqb}
use Rattle.tiff_format.specs.declared.form.Form.{Form}
use Rattle.tiff_format.specs.declared.fault.TiffFault.{TiffFault}
use Rattle.tiff_entries.specs.declared.error.DirsError.{DirsError}
use Rattle.tiff_entries.specs.declared.error.DirsError.TheVariants.{Fault, Reader, NoMemory}
use Rattle.tiff_dirs.specs.declared.read_level.ReadLevel.{ReadLevel}
use Rattle.tiff_format.specs.Form.{offset_at}
use Rattle.tiff_format.specs.Directory.{lies_inside, next_place, next_directory}
use Rattle.tiff_format.specs.Block.{LevelShape, Level, shape_at, level_at}
use Rattle.tiff_format.specs.DirectoryFault.{directory_fault}
use Rattle.tiff_format.specs.Level.{halved, is_single, is_next_level}
use Rattle.tiff_entries.specs.Calls.{Finds}
use Rattle.tiff_dirs.specs.NextLevel.{is_half_of, FindsHalf, is_followed, IsNext}

and_false : (a : Bool) → (a && false) ≡ false
and_false true = refl
and_false false = refl

-- one of other samples per pixel is not half
pub other_channels : (first last shape : LevelShape) → (shape.channels ≡ first.channels → ⊥)
    → is_half_of first last shape ≡ false
other_channels first last shape other =
    let no = ne_eqb shape.channels first.channels other in
    rw no (and_false (eqb shape.width (halved last.width)
    && eqb shape.height (halved last.height)))

module _ (form : Form) (bytes : List ℕ) where
  -- the shape of a level
  pub shape_of_level : (at : ℕ) (level : Level) → level ≡ level_at form bytes at
      → level.shape ≡ shape_at form bytes at
  unfolding level_at
  shape_of_level at level is = ap (λ (l : Level). l.shape) is

  -- a shape is half of the last level if its directory is
  pub half_by : (at : ℕ) (first last shape : LevelShape) → shape ≡ shape_at form bytes at
      → is_half_of first last shape ≡ is_half_of first last (shape_at form bytes at)
  half_by at first last shape is = ap (λ (s : LevelShape). is_half_of first last s) is

  -- what a next level is
  next_is : (one at next : ℕ) → is_next_level form bytes one at next
      ≡ (not (is_single (shape_at form bytes at)) && (is_none (directory_fault form bytes next)
      && is_half_of (shape_at form bytes one) (shape_at form bytes at) (shape_at form bytes next)))
  unfolding is_next_level
  next_is one at next = refl

  -- ---- the offset of the next directory

  pub no_next : (at : ℕ) → lies_inside form bytes at ≡ true
      → offset_at form bytes (next_place form bytes at) ≡ 0 → next_directory form bytes at ≡ None
  unfolding next_directory
  no_next at inside zero = rw (inside, zero) refl

  pub some_next : (at next : ℕ) → lies_inside form bytes at ≡ true
      → next ≡ offset_at form bytes (next_place form bytes at) → (next ≡ 0 → ⊥)
      → next_directory form bytes at ≡ Some next
  unfolding next_directory
  some_next at next inside is some = rw (inside, ← is, ne_eqb next 0 some) refl

  -- ---- which level follows

  followed_by : (one at : ℕ) (o : Option ℕ)
      → ((next : ℕ) → is_next_level form bytes one at next ≡ false)
      → option_map_or (is_next_level form bytes one at) o false ≡ false
  followed_by one at None none = refl
  followed_by one at (Some next) none = none next

  -- none follows a level of one texel,
  pub last_is_last : (one at : ℕ) (last : Level) → last ≡ level_at form bytes at
      → last.shape.width ≡ 1 → last.shape.height ≡ 1 → is_followed form bytes one at ≡ false
  last_is_last one at last is width height =
      let single : is_single last.shape ≡ true = rw (width, height) refl in
      let there : is_single (shape_at form bytes at) ≡ true =
      ap (λ (s : LevelShape). is_single s) (sym (shape_of_level at last is)) ∙ single in
      followed_by one at (next_directory form bytes at)
      (λ next. next_is one at next
      ∙ ap (λ b. not b && (is_none (directory_fault form bytes next)
      && is_half_of (shape_at form bytes one) (shape_at form bytes at)
      (shape_at form bytes next))) there)

  -- a directory whose next offset is 0 has no next level
  pub end_is_last : (one at : ℕ) → next_directory form bytes at ≡ None
      → is_followed form bytes one at ≡ false
  end_is_last one at none = rw none refl

  -- a directory whose next one has a fault has no next level
  pub fault_is_last : (one at place : ℕ) (fault : TiffFault)
      → next_directory form bytes at ≡ Some place
      → directory_fault form bytes place ≡ Some fault → is_followed form bytes one at ≡ false
  fault_is_last one at place fault there shown =
      ap (λ (o : Option ℕ). option_map_or (is_next_level form bytes one at) o false) there
      ∙ next_is one at place
      ∙ ap (λ (o : Option TiffFault). not (is_single (shape_at form bytes at)) && (is_none o
      && is_half_of (shape_at form bytes one) (shape_at form bytes at)
      (shape_at form bytes place))) shown
      ∙ and_false (not (is_single (shape_at form bytes at)))

  half_same : (one at : ℕ) (next first last : LevelShape) → first ≡ shape_at form bytes one
      → last ≡ shape_at form bytes at
      → is_half_of first last next
      ≡ is_half_of (shape_at form bytes one) (shape_at form bytes at) next
  half_same one at next first last first-is last-is =
      ap (λ (s : LevelShape). is_half_of s last next) first-is
      ∙ ap (λ (s : LevelShape). is_half_of (shape_at form bytes one) s next) last-is

  -- the next directory is the next level if and only if it is half of this one
  pub next_of_half : (E : Type 0) (one at place : ℕ) (first last : LevelShape)
      (next : Option ReadLevel)
      → first ≡ shape_at form bytes one → last ≡ shape_at form bytes at → is_single last ≡ false
      → next_directory form bytes at ≡ Some place
      → FindsHalf {E = E} form bytes place first last (Ok next) → IsNext form bytes one at next
  next_of_half E one at place first last None first-is last-is more there half =
      let no : is_half_of (shape_at form bytes one) (shape_at form bytes at)
      (shape_at form bytes place)
      ≡ false = sym (half_same one at (shape_at form bytes place) first last first-is last-is)
      ∙ half in
      ap (λ (o : Option ℕ). option_map_or (is_next_level form bytes one at) o false) there
      ∙ next_is one at place
      ∙ ap (λ h. not (is_single (shape_at form bytes at))
      && (is_none (directory_fault form bytes place) && h)) no
      ∙ ap (λ h. not (is_single (shape_at form bytes at)) && h)
      (and_false (is_none (directory_fault form bytes place)))
      ∙ and_false (not (is_single (shape_at form bytes at)))
  next_of_half E one at place first last (Some next) first-is last-is more there half =
      let yes : is_half_of (shape_at form bytes one) (shape_at form bytes at)
      (shape_at form bytes place)
      ≡ true = sym (half_same one at (shape_at form bytes place) first last first-is last-is)
      ∙ half.1 in
      let some : is_single (shape_at form bytes at) ≡ false =
      ap (λ (s : LevelShape). is_single s) (sym last-is) ∙ more in (
        place,
        there,
        next_is one at place
            ∙ ap (λ h. not (is_single (shape_at form bytes at))
            && (is_none (directory_fault form bytes place) && h)) yes
            ∙ ap (λ b. not b && (is_none (directory_fault form bytes place) && true)) some
            ∙ ap (λ (o : Option TiffFault). is_none o && true) half.0,
        half.2,
      )

  -- ---- errors that are handed on

  pub half_err : {E T : Type 0} (p : Option TiffFault) (at : ℕ) (first last : LevelShape)
      (seen : T → Type 0) (e : DirsError E) → Finds p seen (Err e)
      → ((fault : TiffFault) → p ≡ Some fault → directory_fault form bytes at ≡ Some fault)
      → FindsHalf form bytes at first last (Err e)
  half_err p at first last seen (Fault fault) s on = on fault s
  half_err p at first last seen (Reader e) s on = tt
  half_err p at first last seen NoMemory s on = tt
