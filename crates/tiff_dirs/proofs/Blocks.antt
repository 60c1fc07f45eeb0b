-- What a shape says of the blocks of its directory.
use Rattle.std.proofs.Common.{◌≡◌, ℕ, ◌<◌, ◌≤◌, Bool, true, false, List, [], length, Option, Some}
use Rattle.std.proofs.Common.{None, refl, ap, ◌∙◌}
use Rattle.std.proofs.lemmas.Bool.{lt-ltb, le-ltb}
use Rattle.std.specs.Prelude.{take}
use Rattle.tiff_format.specs.declared.form.Form.{Form}
use Rattle.tiff_format.specs.declared.fault.TiffFault.TheVariants.{OffsetCount}
use Rattle.tiff_format.specs.Field.{field_values, default_of}
use Rattle.tiff_format.specs.Block.{LevelShape, is_tiled, tile_of, offsets_tag, shape_at, blocks_of}
use Rattle.tiff_format.specs.Block.{level_with, level_at}
use Rattle.tiff_format.specs.DirectoryFault.{count_fault}
use Rattle.tiff_dirs.specs.Numbers.{tag_of_offsets}

module _ (form : Form) (bytes : List ℕ) (at : ℕ) where
  tag_by : (tiled : Bool) → is_tiled form bytes at ≡ tiled
      → tag_of_offsets (tile_of form bytes at) ≡ offsets_tag form bytes at
  tag_by true is = rw is refl
  tag_by false is = rw is refl

  pub tag_is : (shape : LevelShape) → shape ≡ shape_at form bytes at
      → tag_of_offsets shape.tile ≡ offsets_tag form bytes at
  tag_is shape is =
      ap (λ (s : LevelShape). tag_of_offsets s.tile) is ∙ tag_by (is_tiled form bytes at) refl

  pub blocks_are : (shape : LevelShape) → shape ≡ shape_at form bytes at
      → blocks_of shape ≡ blocks_of (shape_at form bytes at)
  blocks_are shape is = ap (λ (s : LevelShape). blocks_of s) is

  pub too_few : length (field_values form bytes at (offsets_tag form bytes at))
      < blocks_of (shape_at form bytes at) → count_fault form bytes at ≡ Some OffsetCount
  unfolding count_fault
  too_few lt = rw (lt-ltb (length (field_values form bytes at (offsets_tag form bytes at)))
      (blocks_of (shape_at form bytes at)) lt) refl

  pub enough : blocks_of (shape_at form bytes at)
      ≤ length (field_values form bytes at (offsets_tag form bytes at))
      → count_fault form bytes at ≡ None
  unfolding count_fault
  enough le = rw (le-ltb (length (field_values form bytes at (offsets_tag form bytes at)))
      (blocks_of (shape_at form bytes at)) le) refl

  -- what is kept of it, with these offsets
  pub level_is : (shape : LevelShape) (kept : List ℕ) → shape ≡ shape_at form bytes at
      → kept ≡ take (blocks_of (shape_at form bytes at))
      (field_values form bytes at (offsets_tag form bytes at))
      → level_with shape kept ≡ level_at form bytes at
  unfolding level_at
  level_is shape kept is offsets =
      ap (λ (s : LevelShape). level_with s kept) is
      ∙ ap (λ (os : List ℕ). level_with (shape_at form bytes at) os) offsets

-- offsets have no default
pub no_default : (tile : Option (ℕ × ℕ)) → default_of (tag_of_offsets tile) ≡ []
no_default None = refl
no_default (Some tile) = refl
