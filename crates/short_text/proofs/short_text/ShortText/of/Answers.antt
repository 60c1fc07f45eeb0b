use Rattle.std.proofs.Common.{◌∙◌, arith}
use Rattle.short_text.proofs.TextLemmas.{kept_text}
use Rattle.short_text.proofs.short_text.ShortText.of.Goals as goal

pub invariant_of-result : goal.invariant_of-result
invariant_of-result c = (
  omega arith,
  kept_text c.args.text.now _ _ (c.copy_from_slice.ensures.after ∙ c.as_bytes.ensures.value)
      c.utf8.text,
)
