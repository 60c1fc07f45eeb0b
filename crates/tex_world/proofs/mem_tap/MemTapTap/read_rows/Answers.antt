use Rattle.std.proofs.Common.{rules}
use Rattle.tex_world.proofs.TableLemmas.{rows_where}
use Rattle.tex_world.proofs.mem_tap.MemTapTap.read_rows.Goals as goal

pub returns-clause-bytes : goal.returns-clause-bytes
returns-clause-bytes g c =
    let h = c.args.h.now in
    let t = g.T.FileTable in
    rows_where t.count_of t.name_of t.len_of t.byte_of _ _ _ h.of_table h.low h.high h.there
    c.args.at c.args.stride c.args.row c.fill_rows.new.buf (search rules) c.fill_rows.ensures
