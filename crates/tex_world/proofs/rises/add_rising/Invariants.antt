use Rattle.std.proofs.Common.{◌≡◌, ◌++◌, take, filter, vec_capacity}
use Rattle.tex_world.specs.Table.{table_files}
use Rattle.tex_world.specs.TapPlan.{is_rising}
use Rattle.tex_world.proofs.rises.add_rising.Given as goal

-- Those of the rises so far that come at the read were added.
abbrev pub invariant-loop-e : goal.invariant-loop-e
invariant-loop-e g l =
    let t = g.T.FileTable in
    let files = table_files t.count_of t.name_of t.len_of t.byte_of in
    let added = filter (is_rising files l.read) (take l.e-index l.rises) in
    (l.risen.items ≡ l.initial.risen.items ++ added)
    × (vec_capacity l.risen ≡ vec_capacity l.initial.risen)
