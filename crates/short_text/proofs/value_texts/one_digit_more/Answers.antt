use Rattle.std.proofs.Common.{arith}
use Rattle.short_text.proofs.PaddedTextLemmas.{more_digits_padded}
use Rattle.short_text.proofs.value_texts.one_digit_more.Goals as goal

pub returns : goal.returns
returns c =
    more_digits_padded c.args.value c.from.result c.args.tenth c.requires.long (omega arith)
    c.requires.tenth c.from.ensures
