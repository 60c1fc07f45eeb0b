use Rattle.std.proofs.Common.{◌≡◌, ◌≤◌, ◌-◌, length, take}
use Rattle.short_text.proofs.words.begins_with.Given as goal

-- alike so far
abbrev pub invariant-word : goal.invariant-word
invariant-word l = record {
  within : l.at ≤ length l.word;
  few : length l.word ≤ length l.bytes;
  same : take l.at l.bytes ≡ take l.at l.word;
}

abbrev pub decreases-word : goal.decreases-word
decreases-word l = length l.word - l.at
