-- What is kept of the directories of a file, and how many samples its level 0 has.
use Rattle.std.specs.Prelude.{None}
use Rattle.std.proofs.Common.{◌≡◌, ℕ, ◌*◌, ◌<◌, ◌≤◌, Bool, false, IsTrue, inl, inr, List, map, ap, ◌∙◌, sym, subst, arith}
use Rattle.std.proofs.lemmas.Bool.{cases_lt}
use Rattle.tiff_format.specs.declared.dirs.Dirs.{Dirs}
use Rattle.tiff_format.specs.Block.{Level}
use Rattle.tiff_format.specs.Fault.{first_fault}
use Rattle.tiff_format.specs.Shown.{shown}
use Rattle.tiff_format.specs.Bytes.{is_big}
use Rattle.tile_layout.specs.Blocks.{HoldsBlocks}
use Rattle.tile_layout.specs.Kept.{Kept, AreDirsOf, kept_in, kept_of, stored_count, level_in}
use Rattle.tile_layout.specs.Level.{height_in}
use Rattle.tile_layout.proofs.LevelLemmas.{side_stored}
use Rattle.tile_layout.proofs.StoredTexels.{holds_level}
use Rattle.tex_make.specs.Stored.{HoldsAll, samples_kept}

pub kept_same : (bytes : List ℕ) (dirs : Dirs) → AreDirsOf bytes dirs → kept_in dirs ≡ kept_of bytes
kept_same bytes dirs are =
    let kept : Bool → List Level → Kept = λ big levels. record { big = big; levels = levels } in
    ap (λ (b : Bool). kept b (map shown dirs.levels.items)) are.order
    ∙ ap (λ (ls : List Level). kept (is_big bytes) ls) are.levels

pub samples_stored : (file : Kept) (level : Level) → 1 ≤ stored_count file → level_in file 0 ≡ level
    → samples_kept file ≡ level.shape.width * level.shape.height * level.shape.channels
samples_stored file level some is =
    let low : 0 < stored_count file = omega arith in
    let first = level_in file 0 in
    ap (λ (w : ℕ). w * height_in file 0 * first.shape.channels)
    (side_stored (λ shape. shape.width) file 0 low)
    ∙ ap (λ (h : ℕ). first.shape.width * h * first.shape.channels)
    (side_stored (λ shape. shape.height) file 0 low)
    ∙ ap (λ (l : Level). l.shape.width * l.shape.height * l.shape.channels) is

pub holds_good : (bytes : List ℕ) (file : Kept) → file ≡ kept_of bytes → first_fault bytes ≡ None
    → HoldsAll bytes file
holds_good bytes file is good = λ l low.
    subst (λ (k : Kept). HoldsBlocks bytes (level_in k l)) (sym is)
    (holds_level bytes l good (subst (λ (k : Kept). l < stored_count k) is low))

-- a number is not greater than a limit, if the test for greater is false
pub no_more : (b : Bool) (m n : ℕ) → (m < n → IsTrue b) → b ≡ false → n ≤ m
no_more b m n test fails = elim (cases_lt m n) [
  | inl more ↦ absurd (let yes = test more in cc)
  | inr few ↦ few
]
