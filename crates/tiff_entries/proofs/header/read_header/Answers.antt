use Rattle.std.proofs.Common.{arith}
use Rattle.tiff_entries.proofs.Shown.{short_is}
use Rattle.tiff_entries.proofs.header.read_header.Goals as goal

pub returns-then-file-clause-told : goal.returns-then-file-clause-told
returns-then-file-clause-told g c = λ bytes is.
    let l = g.met.B.ByteReader.lawful.told c.args.b.now bytes is in
    short_is bytes (omega (arith, l))
