-- A read of more than was asked for that fails is a read that fails.
use Rattle.std.proofs.Common.{refl}
use Rattle.tap_reader.proofs.AfterFailed.{refuses_at}
use Rattle.tap_reader.specs.TapReader.{lent_of}
use Rattle.tap_reader.proofs.ahead_reader.AheadReaderByteReader.read.Goals as goal

pub returns-in-Err-clause-err : goal.returns-in-Err-clause-err
returns-in-Err-clause-err g c =
    let named = g.T.Handle.TapHandle.named in
    let state = g.T.Tap.state in
    let old = lent_of (named c.args.self.now.handle.now) (state c.args.self.now.tap.now) in
    let new = lent_of (named c.read_rows-read.new.h) (state c.read_rows-read.new.self) in (
      refl,
      refl,
      refl,
      refuses_at g.T.W.World.files old new c.read_rows-read.result c.in-Err.e c.in-Err.is
          c.read_rows-read.ensures.handle c.read_rows-read.ensures.counts
          c.read_rows-read.ensures.cause,
    )
