use Rattle.std.proofs.Common.{arith}
use Rattle.tex_world.proofs.TableLemmas.{part_where}
use Rattle.tex_world.proofs.mem_tap.MemTapTap.read_at.Goals as goal

pub returns-clause-bytes : goal.returns-clause-bytes
returns-clause-bytes g c =
    let h = c.args.h.now in
    let t = g.T.FileTable in
    part_where t.count_of t.name_of t.len_of t.byte_of _ _ _ h.of_table h.low h.high h.there
    c.args.at c.fill.new.buf (omega arith) c.fill.ensures
