use Rattle.std.proofs.Common.{rules}
use Rattle.tex_world.specs.TableLaws.{handle_is_honest}
use Rattle.tex_world.proofs.mem_tap.MemTap.open_as_planned.Goals as goal

pub returns-clause-ok : goal.returns-clause-ok
returns-clause-ok g c =
    let h = c.new.result in
    record {
      of_file = search rules;
      new_enough = search rules;
      honest = handle_is_honest _ _ _ _ _ _ _ h.of_table h.low h.high h.there;
    }
