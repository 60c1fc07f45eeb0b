use Rattle.std.proofs.Common.{◌≡◌, ◌+◌, ◌-◌, ◌*◌, ◌^◌, ◌<◌, ◌≤◌, length, take, fold, true}
use Rattle.std.specs.Char.{is_ascii_digit}
use Rattle.std.specs.List.{list_all}
use Rattle.short_text.specs.Digits.{max_digits}
use Rattle.short_text.proofs.digits.leading_digits.Given as goal

abbrev pub invariant-digits : goal.invariant-digits
invariant-digits l = record {
  within : l.count ≤ length l.text;
  few : l.count ≤ max_digits;
  digits : list_all is_ascii_digit (take l.count l.text) ≡ true;
  spelled : l.number ≡ fold (λ n digit. n * 10 + (digit - 48)) 0 (take l.count l.text);
  below : l.number < 10 ^ l.count;
}

abbrev pub decreases-digits : goal.decreases-digits
decreases-digits l = length l.text - l.count
