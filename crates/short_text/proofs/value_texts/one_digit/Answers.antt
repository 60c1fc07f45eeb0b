use Rattle.short_text.proofs.PaddedTextLemmas.{one_digit_padded}
use Rattle.short_text.proofs.value_texts.one_digit.Goals as goal

pub returns : goal.returns
returns c = one_digit_padded c.args.value c.requires
