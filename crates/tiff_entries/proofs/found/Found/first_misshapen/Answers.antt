use Rattle.std.proofs.Common.{◌∙◌, sym, arith}
use Rattle.tiff_format.specs.DirectoryFault.{is_misshapen}
use Rattle.tiff_entries.proofs.Finding.{find_none, find_first}
use Rattle.tiff_entries.proofs.found.Found.first_misshapen.Goals as goal

pub returns-then-is_misshapen : goal.returns-then-is_misshapen
returns-then-is_misshapen c = λ bytes form at has long.
    sym (find_first (is_misshapen form bytes at) c.args.wanted.now c.loop-tag.tag-index
    c.loop-tag-test.true (c.loop-tag.invariant bytes form at has long)
    (sym (c.is_misshapen.ensures bytes form at has long) ∙ c.if-is_misshapen.true))

pub returns : goal.returns
returns c = λ bytes form at has long.
    sym (find_none (is_misshapen form bytes at) c.args.wanted.now
    (λ k lt. c.loop-tag.invariant bytes form at has long k (omega arith)))
