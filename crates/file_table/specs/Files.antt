-- How do contracts see a table of files?
use Rattle.std.specs.Prelude.{◌≡◌, ℕ, ◌<◌, List, length, slice_index}
use Rattle.gen_board.specs.View.{BoardId}
use Rattle.tiff_format.specs.declared.cut.Cut.{Cut}

-- The board, the greatest number of idle handles, and the cut of a table of files.
pub record FilesState : Type 0 where
  pub board : BoardId
  pub cap : ℕ
  pub cut : Cut

-- each file has a lock for its record, whose tag is the file's number
pub record HasLocks (files : ℕ) (tags : List ℕ) : Type 0 where
  pub count : length tags ≡ files
  pub tag : (k : ℕ) → k < files → slice_index tags k ≡ k
