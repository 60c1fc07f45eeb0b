use Rattle.tiff_format.proofs.BytesOfParts.{little_behind, big_behind}
use Rattle.tiff_format.proofs.form.Form.long8_at.Goals as goal

pub returns-then-self : goal.returns-then-self
returns-then-self c =
    let e = big_behind 8 c.args.at c.args.bytes.now in
    let h = c.read_u64.ensures in
    record { value = rw (c.if-self.true, ← e) h }

pub returns-else-self : goal.returns-else-self
returns-else-self c =
    let e = little_behind 8 c.args.at c.args.bytes.now in
    let h = c.read_u64-else-self.ensures in
    record { value = rw (c.if-self.false, ← e) h }
