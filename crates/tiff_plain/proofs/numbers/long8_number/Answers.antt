use Rattle.std.proofs.Common.{sym}
use Rattle.tiff_format.proofs.LongNumbers.{big_eight, little_eight}
use Rattle.tiff_plain.proofs.numbers.long8_number.Goals as goal

pub returns-then-big : goal.returns-then-big
returns-then-big c = record {
  value = rw (
    c.short_number-first.ensures.value,
    c.short_number-second.ensures.value,
    c.if-big.true,
  ) (sym (big_eight c.args.bytes.now c.args.at));
}

pub returns-else-big : goal.returns-else-big
returns-else-big c = record {
  value = rw (
    c.short_number-first.ensures.value,
    c.short_number-second.ensures.value,
    c.if-big.false,
  ) (sym (little_eight c.args.bytes.now c.args.at));
}
