use Rattle.std.proofs.Common.{arith}
use Rattle.tex_world.specs.Names.{name_at}
use Rattle.sample_folder.specs.Sample.{sample_count, sample_names, sample_len_of, sample_byte}
use Rattle.tex_world.proofs.TableLemmas.{part_where}
use Rattle.sample_folder.proofs.sample_tap.SampleTapTap.read_at.Goals as goal

pub returns-clause-bytes : goal.returns-clause-bytes
returns-clause-bytes c =
    let h = c.args.h.now in
    part_where sample_count (name_at sample_names) sample_len_of (λ n g at. sample_byte n at) _ _ _
    h.of_table h.low h.high h.there c.args.at c.fill.new.buf (omega arith) c.fill.ensures
