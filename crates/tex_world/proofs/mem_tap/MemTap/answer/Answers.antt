use Rattle.tex_world.specs.MemHandle.{handle_named}
use Rattle.tex_world.specs.Share.{share_plan}
use Rattle.tex_world.specs.Table.{table_files}
use Rattle.tex_world.specs.TapCounters.{counted}
use Rattle.tex_world.specs.TableLaws.{held_is_real}
use Rattle.tex_world.proofs.PlanLemmas.{read_names}
use Rattle.tex_world.proofs.TapLemmas.{read_cause}
use Rattle.tex_world.proofs.mem_tap.MemTap.answer.Goals as goal

pub returns-clause-cause : goal.returns-clause-cause
returns-clause-cause g c =
    let t = g.T.FileTable in
    let files = table_files t.count_of t.name_of t.len_of t.byte_of in
    let handle = handle_named c.args.h.now in
    read_cause files handle (counted c.args.self.now.counters) (counted c.count_read.new.self) _
    (read_names files handle (share_plan c.args.self.now.share) _ c.args.read _ c.requires
    c.meet-met.ensures.value (held_is_real t.count_of t.name_of t.len_of t.byte_of _))
    c.count_read.ensures.cause
