use Rattle.std.proofs.Common.{◌≡◌, drop}
use Rattle.tex_world.specs.Table.{table_files}
use Rattle.tex_world.specs.TapPlan.{newest_at_first}
use Rattle.tex_world.proofs.rises.newest_at_first.Given as goal

-- None of the entries so far counts.
abbrev pub invariant-loop-e : goal.invariant-loop-e
invariant-loop-e g l =
    let t = g.T.FileTable in
    let files = table_files t.count_of t.name_of t.len_of t.byte_of in
    newest_at_first files (drop l.e-index l.entries) l.file ≡ newest_at_first files l.entries l.file
