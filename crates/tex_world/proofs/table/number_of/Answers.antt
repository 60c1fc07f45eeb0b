use Rattle.std.proofs.Common.{rules, sym}
use Rattle.tex_world.proofs.TableLemmas.{table_number_where, no_table_number_where}
use Rattle.tex_world.proofs.table.number_of.Goals as goal

pub returns-then-eq : goal.returns-then-eq
returns-then-eq g c =
    let t = g.T.FileTable in
    sym (table_number_where t.count_of t.name_of c.args.name.now c.loop-n.n (search rules)
    (search rules) c.loop-n.invariant)

pub returns : goal.returns
returns g c =
    let t = g.T.FileTable in
    sym (no_table_number_where t.count_of t.name_of c.args.name.now (search rules))
