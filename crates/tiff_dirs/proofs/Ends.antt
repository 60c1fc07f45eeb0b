-- No block that lies in a file ends past 2^64.
use Rattle.std.proofs.Common.{◌+◌, ◌≡◌, ℕ, ◌<◌, ◌≤◌, true, leb}
use Rattle.std.proofs.Common.{length, get_or, None, sym, arith}
use Rattle.std.proofs.Common.{◌^◌}
use Rattle.std.proofs.lemmas.Bool.{and_parts, leb-true}
use Rattle.tiff_format.specs.declared.form.Form.{Form}
use Rattle.tiff_format.specs.Block.{Level, blocks_of, block_bytes}
use Rattle.tiff_format.specs.Facts.{HasOffsets}
use Rattle.tiff_dirs.specs.ReadLevel.{lies_within, first_outside}
use Rattle.tiff_dirs.proofs.Finding.{none_of_range}

end_of : (form : Form) (file : ℕ) (level : Level) (i : ℕ) → lies_within form file level i ≡ true
    → get_or level.offsets i 0 + block_bytes level.shape i ≤ file
end_of form file level i h =
    leb-true (get_or level.offsets i 0 + block_bytes level.shape i) file
    (and_parts _ (leb (get_or level.offsets i 0 + block_bytes level.shape i) file) h).1

pub has_offsets : (form : Form) (file : ℕ) (level : Level) → file < 2 ^ 64
    → length level.offsets ≡ blocks_of level.shape → None ≡ first_outside form file level
    → HasOffsets level
has_offsets form file level low count none = record {
  count = count;
  ends = λ i lt.
      let within = none_of_range (lies_within form file level) (blocks_of level.shape) (sym none) i
      (omega (arith, count)) in
      let end = end_of form file level i within in
      omega arith;
}
