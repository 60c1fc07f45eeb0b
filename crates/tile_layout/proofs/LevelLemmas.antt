-- The sides of the levels of a file, stored and halved, its samples, and what is kept of bytes.
use Rattle.std.proofs.Common.{◌≡◌, ℕ, zero, suc, ◌<◌, ◌≤◌, List, refl, zero-add, eqb}
use Rattle.std.proofs.lemmas.List.FromFn.{length-map-range_with_len, get_or-map-range_with_len}
use Rattle.std.proofs.lemmas.Bool.{lt-ltb, le-ltb, and_parts, eqb-true}
use Rattle.tiff_format.specs.Block.{LevelShape}
use Rattle.tiff_format.specs.Facts.{IsChain}
use Rattle.tiff_format.specs.Level.{directory_level, stored_levels, halved}
use Rattle.tile_layout.specs.Cell.{bit_depth_in}
use Rattle.tile_layout.specs.Kept.{Kept, kept_of, stored_count, no_level, level_in}
use Rattle.tile_layout.specs.Level.{side_in}

-- ---- a side, stored or halved

module _ (side : LevelShape → ℕ) (file : Kept) where
  pub side_stored : (l : ℕ) → l < stored_count file
      → side_in side file l ≡ side (level_in file l).shape
  unfolding side_in
  side_stored zero lt = refl
  side_stored (suc l) lt = rw (lt-ltb (suc l) (stored_count file) lt) refl

  pub side_halved : (l : ℕ) → stored_count file ≤ suc l
      → side_in side file (suc l) ≡ halved (side_in side file l)
  unfolding side_in
  side_halved l le = rw (le-ltb (suc l) (stored_count file) le) refl

-- ---- the samples of every level

pub depth_stored : (file : Kept) → IsChain file.levels → (l : ℕ) → l < stored_count file
    → (level_in file l).shape.depth ≡ bit_depth_in file
depth_stored file chain l lt =
    let first = (level_in file 0).shape in
    let own = (level_in file l).shape in
    eqb-true own.depth first.depth (and_parts (eqb own.channels first.channels)
    (eqb own.depth first.depth) (chain.samples l no_level lt)).1

-- ---- what is kept of bytes

module _ (bytes : List ℕ) where
  pub stored_told : stored_count (kept_of bytes) ≡ stored_levels bytes
  stored_told = length-map-range_with_len (directory_level bytes) 0 (stored_levels bytes)

  pub level_told : (l : ℕ) → l < stored_levels bytes → level_in (kept_of bytes) l ≡ directory_level bytes l
  level_told l lt =
      get_or-map-range_with_len (directory_level bytes) 0 (stored_levels bytes) l l no_level lt
      (zero-add l)
