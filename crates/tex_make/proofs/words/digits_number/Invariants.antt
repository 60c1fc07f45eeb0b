use Rattle.std.proofs.Common.{◌≡◌, ◌^◌, ◌<◌, drop}
use Rattle.tex_make.specs.Words.{digits_behind}
use Rattle.tex_make.proofs.words.digits_number.Given as goal

abbrev pub invariant-loop-digit : goal.invariant-loop-digit
invariant-loop-digit l = record {
  same : digits_behind l.number (drop l.digit-index l.digits) ≡ digits_behind 0 l.digits;
  low : l.number < 10 ^ l.digit-index;
}
