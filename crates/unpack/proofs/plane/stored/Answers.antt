use Rattle.std.proofs.Common.{ℕ, ◌∙◌, ap, not}
use Rattle.std.specs.Prelude.{nat_eq}
use Rattle.unpack.proofs.Stored.{stored_byte}
use Rattle.unpack.proofs.plane.stored.Goals as goal

pub returns-else-this-ne0-clause-value : goal.returns-else-this-ne0-clause-value
returns-else-this-ne0-clause-value g c =
    c.from.ensures
    ∙ stored_byte (not (nat_eq g.row.WIDE 0)) (not (nat_eq g.row.BIG 0)) c.args.src.now c.args.k
    (ap (λ (n : ℕ). not (nat_eq n 0)) c.if-this-ne0.false)
