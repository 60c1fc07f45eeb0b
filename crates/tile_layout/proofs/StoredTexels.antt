-- The texels of stored levels are the samples in the file.
use Rattle.std.proofs.Common.{◌≡◌, ℕ, zero, suc, ◌<◌, List, refl, sym, subst}
use Rattle.std.proofs.lemmas.Bool.{lt-ltb}
use Rattle.tiff_format.specs.Block.{Level}
use Rattle.tiff_format.specs.Texel.{sample_in}
use Rattle.tiff_format.specs.Fault.{first_fault}
use Rattle.std.specs.Prelude.{None}
use Rattle.tile_layout.specs.Blocks.{HoldsBlocks}
use Rattle.tile_layout.specs.Kept.{Kept, kept_of, stored_count, level_in}
use Rattle.tile_layout.specs.Texel.{texel_in}
use Rattle.tile_layout.proofs.LevelLemmas.{stored_told, level_told}
use Rattle.tile_layout.proofs.GoodLevels.{good_level}

pub texel_stored : (file : Kept) (bytes : List ℕ) (l x y c : ℕ) → l < stored_count file
    → texel_in file bytes l x y c ≡ sample_in file.big bytes (level_in file l) x y c
unfolding texel_in
texel_stored file bytes zero x y c lt = refl
texel_stored file bytes (suc l) x y c lt = rw (lt-ltb (suc l) (stored_count file) lt) refl

-- a file without a fault holds the blocks of each level that is kept of it
pub holds_level : (bytes : List ℕ) (l : ℕ) → first_fault bytes ≡ None
    → l < stored_count (kept_of bytes) → HoldsBlocks bytes (level_in (kept_of bytes) l)
holds_level bytes l good lt =
    let below = rw (stored_told bytes) at lt in
    subst (λ (level : Level). HoldsBlocks bytes level) (sym (level_told bytes l below))
    (good_level bytes good l below)
