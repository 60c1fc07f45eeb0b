use Rattle.std.proofs.Common.{subst, arith}
use Rattle.std.specs.List.{All}
use Rattle.tile_store.specs.Marks.{IsOfOther}
use Rattle.tile_store.proofs.MarkLemmas.{other_below, others_in}
use Rattle.tile_store.proofs.order.Order.has_file.Goals as goal

pub returns : goal.returns
returns g c = λ _.
    let s = c.self.inside in
    let size = c.len-slot-end.ensures in
    let end = c.slots-test.false in
    subst (λ o. All (IsOfOther c.args.file) o.entries) c.self.view_is
    (others_in c.args.file s.slots.items s.links.order
    (other_below c.args.file s.slots.items (λ p low. c.slots.invariant p (omega arith))))
