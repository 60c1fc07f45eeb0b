use Rattle.std.proofs.Common.{rules, arith}
use Rattle.tex_world.specs.TableLaws.{handle_is_honest}
use Rattle.sample_folder.proofs.SampleLemmas.{least_low}
use Rattle.sample_folder.proofs.sample_tap.SampleTapTap.open.Goals as goal

pub returns-clause-ok : goal.returns-clause-ok
returns-clause-ok c =
    let h = c.new.result in
    record {
      of_file = search rules;
      new_enough = omega (arith, c.new.ensures.generation, least_low _ _ _ _ _ c.requires.least);
      honest = handle_is_honest _ _ _ _ _ _ _ h.of_table h.low h.high h.there;
    }
