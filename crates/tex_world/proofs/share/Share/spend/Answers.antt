use Rattle.std.proofs.Common.{arith, refl}
use Rattle.std.proofs.lemmas.Grind.{common_steps}
use Rattle.std.proofs.lemmas.List.Filters.{length-filter_both}
use Rattle.tex_world.specs.Table.{table_files}
use Rattle.tex_world.specs.TapPlan.{is_rising}
use Rattle.tex_world.proofs.share.Share.spend.Goals as goal

pub invariant_of-self : goal.invariant_of-self
invariant_of-self g c =
    let t = g.T.FileTable in
    let files = table_files t.count_of t.name_of t.len_of t.byte_of in
    let both = length-filter_both (is_rising files c.args.read) _ (λ e. refl)
    c.args.self.now.rises.items in
    record { room = grind (arith, common_steps, both) }
