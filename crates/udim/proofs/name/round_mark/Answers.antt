use Rattle.udim.proofs.MarkLemmas.{splits_round}
use Rattle.udim.proofs.name.round_mark.Goals as goal

pub returns-clause-some : goal.returns-clause-some
returns-clause-some c =
    splits_round c.args.name.now c.split_once.result c.split_once.ensures.cases
