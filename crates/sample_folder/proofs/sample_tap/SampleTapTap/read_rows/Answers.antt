use Rattle.std.proofs.Common.{rules}
use Rattle.tex_world.specs.Names.{name_at}
use Rattle.sample_folder.specs.Sample.{sample_count, sample_names, sample_len_of, sample_byte}
use Rattle.tex_world.proofs.TableLemmas.{rows_where}
use Rattle.sample_folder.proofs.sample_tap.SampleTapTap.read_rows.Goals as goal

pub returns-clause-bytes : goal.returns-clause-bytes
returns-clause-bytes c =
    let h = c.args.h.now in
    rows_where sample_count (name_at sample_names) sample_len_of (λ n g at. sample_byte n at) _ _ _
    h.of_table h.low h.high h.there c.args.at c.args.stride c.args.row c.fill_rows.new.buf (search rules) c.fill_rows.ensures
