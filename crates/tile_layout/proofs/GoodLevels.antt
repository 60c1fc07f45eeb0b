-- Every strip and tile of a file without a fault lies in it.
use Rattle.std.proofs.Common.{◌≡◌, ℕ, suc, zero, ◌+◌, ◌<◌, Bool, true, false, not, List, map}
use Rattle.std.proofs.Common.{length, slice_index, Option, Some, None, refl, sym, arith, cond}
use Rattle.std.proofs.Common.{zero-add, nat_le}
use Rattle.std.specs.Prelude.{find}
use Rattle.std.specs.Option.{option_or, option_map}
use Rattle.std.specs.List.{range_with_len}
use Rattle.std.proofs.lemmas.Option.{none-some}
use Rattle.std.proofs.lemmas.Bool.{leb-true, and_parts}
use Rattle.tiff_format.specs.declared.fault.TiffFault.{TiffFault}
use Rattle.tiff_format.specs.declared.fault.TiffFault.TheVariants.{DataOutside}
use Rattle.tiff_format.specs.DirectoryFault.{first_of, data_fault, block_inside, directory_fault}
use Rattle.tiff_format.specs.Block.{blocks_of, block_bytes}
use Rattle.tiff_format.specs.Form.{form_of, header_bytes}
use Rattle.tiff_format.specs.Level.{directory_level, level_place, stored_levels}
use Rattle.tiff_format.specs.Fault.{header_fault, data_faults, first_fault}
use Rattle.tile_layout.specs.Blocks.{HoldsBlocks}

-- ---- none of them

-- neither is there
none_of_two : {A : Type 0} (a b : Option A) → option_or a b ≡ None → (a ≡ None) × (b ≡ None)
none_of_two None b none = (refl, none)
none_of_two (Some x) b none = absurd (none-some x (sym none))

none_of_all : (fault : ℕ → Option TiffFault) (a n : ℕ)
    → first_of (map fault (range_with_len a n)) ≡ None → (k : ℕ) → k < n → fault (a + k) ≡ None
none_of_all fault a zero none k lt = absurd (omega arith)
none_of_all fault a (suc n) none zero lt =
    let e : a + 0 ≡ a = omega arith in
    rw e (none_of_two (fault a) (first_of (map fault (range_with_len (a + 1) n))) none).0
none_of_all fault a (suc n) none (suc k) lt =
    let e : a + suc k ≡ a + 1 + k = omega arith in
    rw e (none_of_all fault (a + 1) n
    (none_of_two (fault a) (first_of (map fault (range_with_len (a + 1) n))) none).1 k
    (omega arith))

none_mapped : {A B : Type 0} (f : A → B) (o : Option A) → option_map f o ≡ None → o ≡ None
none_mapped f None none = refl
none_mapped f (Some x) none = absurd (none-some (f x) (sym none))

-- one test more passed
one_passes : (test : ℕ → Bool) (a : ℕ) (rest : Option ℕ) (b : Bool) → test a ≡ b
    → cond (not b) (Some a) rest ≡ None → (test a ≡ true) × (rest ≡ None)
one_passes test a rest false fails none = absurd (none-some a (sym none))
one_passes test a rest true passes none = (passes, none)

-- none was found, so all pass
all_pass : (test : ℕ → Bool) (a n : ℕ) → find (λ i. not (test i)) (range_with_len a n) ≡ None
    → (k : ℕ) → k < n → test (a + k) ≡ true
all_pass test a zero none k lt = absurd (omega arith)
all_pass test a (suc n) none zero lt =
    let e : a + 0 ≡ a = omega arith in
    let rest = find (λ i. not (test i)) (range_with_len (a + 1) n) in
    rw e (one_passes test a rest (test a) refl none).0
all_pass test a (suc n) none (suc k) lt =
    let e : a + suc k ≡ a + 1 + k = omega arith in
    let rest = find (λ i. not (test i)) (range_with_len (a + 1) n) in
    rw e (all_pass test (a + 1) n (one_passes test a rest (test a) refl none).1 k (omega arith))

-- ---- of a file

module _ (bytes : List ℕ) (good : first_fault bytes ≡ None) where
  no_block_outside : data_faults bytes ≡ None
  unfolding first_fault
  no_block_outside =
      let of_first = directory_fault (form_of bytes) bytes (level_place bytes 0) in
      let header = none_of_two (header_fault bytes)
      (option_or of_first (option_or (data_faults bytes) None)) good in
      let directory = none_of_two of_first (option_or (data_faults bytes) None) header.1 in
      (none_of_two (data_faults bytes) None directory.1).0

  pub good_level : (l : ℕ) → l < stored_levels bytes → HoldsBlocks bytes (directory_level bytes l)
  unfolding data_faults data_fault
  good_level l lt = λ i below.
      let form = form_of bytes in
      let level = directory_level bytes l in
      let none = none_of_all (λ k. data_fault form bytes k (directory_level bytes k)) 0
      (stored_levels bytes) no_block_outside l lt in
      let found = none_mapped (DataOutside l)
      (find (λ i. not (block_inside form bytes level i))
      (range_with_len 0 (blocks_of level.shape)))
      (rw (zero-add l) at none) in
      let inside : block_inside form bytes level i ≡ true =
      rw (zero-add i) at
      (all_pass (block_inside form bytes level) 0 (blocks_of level.shape) found i below) in
      leb-true (slice_index level.offsets i + block_bytes level.shape i) (length bytes)
      (and_parts (nat_le (header_bytes form) (slice_index level.offsets i))
      (nat_le (slice_index level.offsets i + block_bytes level.shape i) (length bytes)) inside).1
