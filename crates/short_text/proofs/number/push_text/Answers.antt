use Rattle.short_text.proofs.AppendLemmas.{pushes_slice}
use Rattle.short_text.proofs.number.push_text.Goals as goal

pub returns-clause-text : goal.returns-clause-text
returns-clause-text c =
    pushes_slice c.args.text.now c.args.out.now.items c.extend_from_slice.new.self.items
    c.extend_from_slice.result c.extend_from_slice.ensures.items
