use Rattle.std.proofs.Common.{◌∙◌, arith}
use Rattle.unpack.proofs.Stored.{stored_byte, stored_big, stored_little}
use Rattle.unpack.proofs.passes.read_stored.Goals as goal

pub returns-then-not-wide-clause-stored : goal.returns-then-not-wide-clause-stored
returns-then-not-wide-clause-stored c = λ k lt.
    c.widen.ensures k lt ∙ stored_byte _ _ c.args.src.now k c.if-not-wide.true

pub returns-then-big-clause-stored : goal.returns-then-big-clause-stored
returns-then-big-clause-stored c = λ k lt.
    c.read_u16_into.ensures k (omega arith)
    ∙ stored_big _ _ c.args.src.now k c.if-not-wide.false c.if-big.true

pub returns-else-big-clause-stored : goal.returns-else-big-clause-stored
returns-else-big-clause-stored c = λ k lt.
    c.read_u16_into-else-big.ensures k (omega arith)
    ∙ stored_little _ _ c.args.src.now k c.if-not-wide.false c.if-big.false
