-- When does a layout belong to bytes?
use Rattle.std.specs.Prelude.{◌≡◌, ℕ, List, None}
use Rattle.tiff_format.specs.Fault.{first_fault}
use Rattle.tile_layout.specs.Kept.{Kept, kept_of}

-- the layout is that of these bytes, which have no fault
pub record IsLayoutOf (bytes : List ℕ) (layout : Kept) : Type 0 where
  pub good : first_fault bytes ≡ None
  pub kept : layout ≡ kept_of bytes
