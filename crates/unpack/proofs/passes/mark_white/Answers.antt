use Rattle.std.proofs.Common.{◌*◌, arith}
use Rattle.unpack.proofs.Masks.{blank_low, mask_made}
use Rattle.unpack.proofs.passes.mark_white.Goals as goal

pub invert_first-requires-clause-low : goal.invert_first-requires-clause-low
invert_first-requires-clause-low c =
    blank_low c.args.wide (32 * c.args.channels) c.args.mask.now c.requires.blank

pub returns : goal.returns
returns c =
    mask_made c.args.wide c.args.channels (32 * c.args.channels) c.args.mask.now
    c.invert_first.new.dst _ (omega (arith, c.requires.few, c.requires.room))
    (omega (arith, c.invert_first.auto.dst)) c.requires.blank c.invert_first.ensures
