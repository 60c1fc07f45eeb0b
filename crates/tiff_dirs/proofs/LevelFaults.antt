-- The first block of all levels that does not lie in the file.
use Rattle.std.proofs.Common.{◌≡◌, ℕ, zero, suc, ◌+◌, ◌<◌, true, List, length, map}
use Rattle.std.proofs.Common.{Option, Some, None, refl, ap, sym, ◌∙◌, arith, add-zero, zero-add}
use Rattle.std.proofs.Common.{below_more}
use Rattle.std.specs.List.{range_with_len}
use Rattle.std.proofs.lemmas.List.FromFn.{length-map-range_with_len}
use Rattle.tiff_format.specs.declared.form.Form.{Form}
use Rattle.tiff_dirs.specs.declared.read_level.ReadLevel.{ReadLevel}
use Rattle.tiff_format.specs.declared.fault.TiffFault.{TiffFault}
use Rattle.tiff_format.specs.Form.{form_of}
use Rattle.tiff_format.specs.Block.{Level}
use Rattle.tiff_format.specs.DirectoryFault.{first_of, data_fault}
use Rattle.tiff_format.specs.Level.{is_level, directory_level, stored_levels, max_levels}
use Rattle.tiff_format.specs.Fault.{data_faults}
use Rattle.tiff_dirs.specs.ReadLevel.{blocks_fault, seen_level}
use Rattle.tiff_dirs.specs.Chain.{AreLevels, AreAll}
use Rattle.tiff_dirs.proofs.Leading.{stored_so_far}

-- the fault of a level, by the length of the file
pub blocks_are : (form : Form) (bytes : List ℕ) (number : ℕ) (level : Level)
    → data_fault form bytes number level ≡ blocks_fault form (length bytes) number level
unfolding data_fault
blocks_are form bytes number level = refl

-- ---- the first of a row

none_of_row : (fault : ℕ → Option TiffFault) (k n : ℕ)
    → ((j : ℕ) → j < n → fault (k + j) ≡ None) → first_of (map fault (range_with_len k n)) ≡ None
none_of_row fault k zero none = refl
none_of_row fault k (suc n) none =
    let first : fault k ≡ None = rw add-zero at (none 0 (omega arith)) in
    let next : suc k ≡ k + 1 = omega arith in
    let rest = none_of_row fault (suc k) n
    (λ j below. let e : suc k + j ≡ k + suc j = omega arith in
    ap fault e ∙ none (suc j) (omega arith)) in
    rw (first, ← next) rest

first_of_row : (fault : ℕ → Option TiffFault) (k n m : ℕ) (f : TiffFault) → m < n
    → ((j : ℕ) → j < m → fault (k + j) ≡ None) → fault (k + m) ≡ Some f
    → first_of (map fault (range_with_len k n)) ≡ Some f
first_of_row fault k zero m f lt none there = absurd (omega arith)
first_of_row fault k (suc n) zero f lt none there =
    let first : fault k ≡ Some f = rw add-zero at there in
    rw first refl
first_of_row fault k (suc n) (suc m) f lt none there =
    let first : fault k ≡ None = rw add-zero at (none 0 (omega arith)) in
    let next : suc k ≡ k + 1 = omega arith in
    let end : suc k + m ≡ k + suc m = omega arith in
    let rest = first_of_row fault (suc k) n m f (omega arith)
    (λ j below. let e : suc k + j ≡ k + suc j = omega arith in
    ap fault e ∙ none (suc j) (omega arith)) (ap fault end ∙ there) in
    rw (first, ← next) rest

-- ---- those of a file

module _ (bytes : List ℕ) where
  -- the blocks of level n lie outside, and those of the levels before it inside
  pub faults_at : (n : ℕ) (levels : List Level) (f : TiffFault) → n < max_levels
      → AreLevels bytes n levels → is_level bytes n ≡ true
      → data_fault (form_of bytes) bytes n (directory_level bytes n) ≡ Some f
      → data_faults bytes ≡ Some f
  unfolding data_faults
  faults_at n levels f lt are level there =
      let stored = stored_so_far bytes (n + 1) (omega arith) (below_more _ _ are.each level) in
      first_of_row (λ k. data_fault (form_of bytes) bytes k (directory_level bytes k)) 0
      (stored_levels bytes) n f (omega arith)
      (λ j below. rw zero-add (are.blocks j below)) (rw zero-add there)

  -- the faults of level 0's blocks
  pub faults_at_first : (f : TiffFault)
      → data_fault (form_of bytes) bytes 0 (directory_level bytes 0) ≡ Some f
      → data_faults bytes ≡ Some f
  unfolding is_level data_faults
  faults_at_first f there =
      let stored = stored_so_far bytes 1 (omega arith)
      (λ k lt. let zero-is : k ≡ 0 = omega arith in ap (is_level bytes) zero-is) in
      first_of_row (λ k. data_fault (form_of bytes) bytes k (directory_level bytes k)) 0
      (stored_levels bytes) 0 f (omega arith)
      (λ j below. absurd (omega arith)) there

  -- the blocks of all levels lie inside the file
  pub no_faults : (n : ℕ) (levels : List Level) → AreLevels bytes n levels → AreAll bytes levels
      → data_faults bytes ≡ None
  unfolding data_faults
  no_faults n levels are all =
      let count : stored_levels bytes ≡ n =
      sym (length-map-range_with_len (directory_level bytes) 0 (stored_levels bytes))
      ∙ ap (λ (ls : List Level). length ls) (sym all.0 ∙ are.same)
      ∙ length-map-range_with_len (directory_level bytes) 0 n in
      none_of_row (λ k. data_fault (form_of bytes) bytes k (directory_level bytes k)) 0
      (stored_levels bytes)
      (λ j below. rw zero-add (are.blocks j (omega (arith, count))))

  -- the fault that a test of what was read of level n shows
  pub tested_is : (n file : ℕ) (read : ReadLevel) (o : Option TiffFault)
      → read.next.form ≡ form_of bytes → seen_level read ≡ directory_level bytes n
      → length bytes ≡ file → blocks_fault read.next.form file n (seen_level read) ≡ o
      → data_fault (form_of bytes) bytes n (directory_level bytes n) ≡ o
  tested_is n file read o same level long shown =
      blocks_are (form_of bytes) bytes n (directory_level bytes n)
      ∙ ap (λ (f : Form). blocks_fault f (length bytes) n (directory_level bytes n)) (sym same)
      ∙ ap (λ (len : ℕ). blocks_fault read.next.form len n (directory_level bytes n)) long
      ∙ ap (λ (l : Level). blocks_fault read.next.form file n l) (sym level)
      ∙ shown
