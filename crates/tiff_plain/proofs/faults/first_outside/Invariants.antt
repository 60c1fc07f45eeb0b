use Rattle.std.proofs.Common.{◌≡◌, ◌-◌, not}
use Rattle.std.specs.List.{find, range_with_len}
use Rattle.tiff_format.specs.Block.{level_at, blocks_of}
use Rattle.tiff_format.specs.DirectoryFault.{block_inside}
use Rattle.tiff_plain.proofs.faults.first_outside.Given as goal

-- The blocks so far lie in the file.
abbrev pub invariant-loop-i : goal.invariant-loop-i
invariant-loop-i l =
    let level = level_at l.form l.bytes l.at in
    let blocks = blocks_of level.shape in
    find (λ i. not (block_inside l.form l.bytes level i)) (range_with_len l.i (blocks - l.i))
    ≡ find (λ i. not (block_inside l.form l.bytes level i)) (range_with_len 0 blocks)
