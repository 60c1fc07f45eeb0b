use Rattle.std.proofs.Common.{◌≡◌, pos, arith}
use Rattle.std.proofs.lemmas.Int.{to_z-of_z}
use Rattle.texel_filter.specs.Coordinate.{index_before, fraction_of_next}
use Rattle.texel_filter.proofs.CallLemmas.{on_ok}
use Rattle.texel_filter.proofs.RoundLemmas.{wrapped_of_square, visits_of_square, sum_at}
use Rattle.texel_filter.proofs.weighted.Weighted.fetch.Goals as goal

pub returns-in-Some-Some-clause-told : goal.returns-in-Some-Some-clause-told
returns-in-Some-Some-clause-told g c = λ values is.
    let r = c.args.r.now in
    let l = c.args.level in
    let sizes = g.F.Fetch.sizes c.args.f.now in
    let w = c.of-self.ensures in
    let x = c.in-Some-Some.left in
    let y = c.in-Some-Some.top in
    let fits = rw c.size-width.ensures.value at c.in-Some-Some.ensures.inside in
    let gits = rw c.size-width.ensures.value at c.in-Some-Some.ensures'.inside in
    let across : index_before r.s (sizes.width l) ≡ pos x = grind (arith, to_z-of_z) in
    let down : index_before r.t (sizes.height l) ≡ pos y = grind (arith, to_z-of_z) in
    let f : c.at-across.result.fraction ≡ fraction_of_next r.s (sizes.width l) =
    grind (arith, to_z-of_z) in
    let h : c.at-down.result.fraction ≡ fraction_of_next r.t (sizes.height l) =
    grind (arith, to_z-of_z) in
    on_ok c.square.result (c.square.ensures.told values is)
    (λ corners. sum_at sizes values r l _ _ _ _ c.of-self.result
    (wrapped_of_square sizes r l x y across fits down gits values _ _ corners)
    f h w.left_top w.right_top w.left_bottom w.right_bottom)

pub returns-in-Some-Some-clause-left : goal.returns-in-Some-Some-clause-left
returns-in-Some-Some-clause-left g c =
    let r = c.args.r.now in
    let l = c.args.level in
    let sizes = g.F.Fetch.sizes c.args.f.now in
    let x = c.in-Some-Some.left in
    let y = c.in-Some-Some.top in
    let fits = rw c.size-width.ensures.value at c.in-Some-Some.ensures.inside in
    let gits = rw c.size-width.ensures.value at c.in-Some-Some.ensures'.inside in
    let across : index_before r.s (sizes.width l) ≡ pos x = grind (arith, to_z-of_z) in
    let down : index_before r.t (sizes.height l) ≡ pos y = grind (arith, to_z-of_z) in
    rw (← visits_of_square sizes r l x y across fits down gits)
    c.square.ensures.left

pub returns-in_ok-self-in_default-clause-told : goal.returns-in_ok-self-in_default-clause-told
returns-in_ok-self-in_default-clause-told g c = λ values is.
    let r = c.args.r.now in
    let l = c.args.level in
    let sizes = g.F.Fetch.sizes c.args.f.now in
    let w = c.of-self.ensures in
    let f : c.at-across.result.fraction ≡ fraction_of_next r.s (sizes.width l) =
    grind (arith, to_z-of_z) in
    let h : c.at-down.result.fraction ≡ fraction_of_next r.t (sizes.height l) =
    grind (arith, to_z-of_z) in
    sum_at sizes values r l _ _ _ _ c.of-self.result
    (c.in_ok-self-in_default.ensures.told values is)
    f h w.left_top w.right_top w.left_bottom w.right_bottom
