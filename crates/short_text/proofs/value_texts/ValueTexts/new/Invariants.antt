use Rattle.std.proofs.Common.{◌≡◌, length}
use Rattle.short_text.specs.PaddedText.{HoldsTexts}
use Rattle.short_text.proofs.value_texts.ValueTexts.new.Given as goal

abbrev pub invariant-loop-value : goal.invariant-loop-value
invariant-loop-value l = record {
  told : HoldsTexts l.padded.items;
  so_far : length l.padded.items ≡ l.value;
}
