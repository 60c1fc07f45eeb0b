use Rattle.tiff_format.proofs.BytesOfParts.{little_behind, big_behind}
use Rattle.tiff_format.proofs.form.Form.long_at.Goals as goal

pub returns-then-self : goal.returns-then-self
returns-then-self c =
    let e = big_behind 4 c.args.at c.args.bytes.now in
    let h = c.read_u32.ensures in
    record { value = rw (c.if-self.true, ← e) h }

pub returns-else-self : goal.returns-else-self
returns-else-self c =
    let e = little_behind 4 c.args.at c.args.bytes.now in
    let h = c.read_u32-else-self.ensures in
    record { value = rw (c.if-self.false, ← e) h }
