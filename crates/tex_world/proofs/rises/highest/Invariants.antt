use Rattle.std.proofs.Common.{◌≡◌, take, fold, IsTrue}
use Rattle.tex_world.specs.World.{is_held}
use Rattle.tex_world.specs.Table.{table_files}
use Rattle.tex_world.specs.TapPlan.{after_rise}
use Rattle.tex_world.proofs.rises.highest.Given as goal

-- The rises so far have come, and the table holds the generation.
abbrev pub invariant-loop-e : goal.invariant-loop-e
invariant-loop-e g l =
    let t = g.T.FileTable in
    let files = table_files t.count_of t.name_of t.len_of t.byte_of in
    (l.newest ≡ fold (after_rise files l.file) l.first (take l.e-index l.risen))
    × IsTrue (is_held files l.file l.newest)
