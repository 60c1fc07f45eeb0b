-- Which samples are read of a row of texels, and what do the reads leave of the reader?
use Rattle.std.specs.Prelude.{◌≡◌, ℕ, ◌<◌, ◌≤◌, Bool, List, Option, Result, Ok, Err}
use Rattle.std.specs.Option.{ForSome}
use Rattle.tiff_format.specs.Block.{Level}
use Rattle.tiff_format.specs.Texel.{sample_in}
use Rattle.tiff_format.specs.declared.rect.Rect.{Rect}
use Rattle.tile_layout.specs.Blocks.{HoldsBlocks}
use Rattle.tile_layout.specs.Kept.{Kept, stored_count}
use Rattle.tile_layout.specs.Pieces.{LiesOnLevel}
use Rattle.piece_samples.specs.Beyond.{IsBeyond}

-- the most texels of a row that are read at once
abbrev pub max_row_texels : ℕ
max_row_texels = 64

-- n texels of a row, from (x, y) on
abbrev pub row_rect : ℕ → ℕ → ℕ → Rect
row_rect x y n = record { x = x; y = y; w = n; h = 1 }

-- the texels belong to a stored level, and are not too many
pub record IsRow (layout : Kept) (level x y n : ℕ) : Type 0 where
  pub stored : level < stored_count layout
  pub inside : LiesOnLevel layout level (row_rect x y n)
  pub few : n ≤ max_row_texels

-- The value was read as sample c of texel (x, y) of a plane, taken alone, in a file of this length
-- and in a row that ends before `right`. It is 0 if the texel's piece lies beyond the end of the
-- file. For modelled bytes that contain all strips and tiles of the plane, it is the stored sample.
pub record IsReadSample (len : ℕ) (held : Option (List ℕ)) (big : Bool) (level : Level)
    (right x y c value : ℕ) : Type 0 where
  pub zero : IsBeyond level right len x y → value ≡ 0
  pub told : ForSome held (λ bytes. HoldsBlocks bytes level
      → value ≡ sample_in big bytes level x y c)

-- After success the reader is as its reads leave it. After a reader's error it is as the failed
-- read left it.
abbrev pub AfterReads : {R E T : Type 0} → (R → R → Type 0) → (R → E → R → Type 0) → R → R
    → Result T E → Type 0
AfterReads keeps refuses old new (Ok x) = keeps old new
AfterReads {R} keeps refuses old new (Err e) = (mid : R) × keeps old mid × refuses mid e new
