use Rattle.std.proofs.Common.{arith}
use Rattle.std.proofs.lemmas.Grind.{common_steps}
use Rattle.tex_world.specs.Table.{table_files}
use Rattle.tex_world.specs.TapPlan.{is_rising}
use Rattle.tex_world.proofs.PlanLemmas.{passed_within}
use Rattle.tex_world.proofs.rises.add_rising.Goals as goal

pub push_reserved-requires : goal.push_reserved-requires
push_reserved-requires g c =
    let t = g.T.FileTable in
    let files = table_files t.count_of t.name_of t.len_of t.byte_of in
    let most = passed_within (is_rising files c.args.read) c.args.rises.now c.loop-e.e-index
    c.loop-e.auto.e-index-end in
    grind (arith, common_steps, most)
