-- A run from no item on.
use Rattle.std.proofs.Common.{[], ◌++◌, sym, ap, ◌∙◌, count_by}
use Rattle.micro.specs.Recent.{hit_count}
use Rattle.micro.proofs.HitLemmas.{hits-none}
use Rattle.micro.proofs.ItemLemmas.{no_items, recent_none}
use Rattle.micro.proofs.RunLemmas.{is_run}
use Rattle.micro.proofs.runs.answers_are_hits.Goals as goal

pub returns-clause-answers : goal.returns-clause-answers
returns-clause-answers g c = λ asked answers items run.
    let key_of = g.P.Keyed.own_key in
    let ran = is_run key_of [] [] asked answers items (no_items key_of) (recent_none key_of) run in
    sym (ran.answers_are ∙ ap (λ l. l ++ answers) hits-none)

pub returns-clause-count : goal.returns-clause-count
unfolding hit_count
returns-clause-count g c = λ asked answers items run.
    ap (count_by (λ answer. answer)) (returns-clause-answers g c asked answers items run)

pub returns-clause-latest : goal.returns-clause-latest
returns-clause-latest g c = λ asked answers items run.
    let key_of = g.P.Keyed.own_key in
    (is_run key_of [] [] asked answers items (no_items key_of) (recent_none key_of) run).latest
