use Rattle.std.proofs.Common.{◌≡◌, pos, ap, subst, ◌∙◌, OnOk, arith}
use Rattle.std.proofs.lemmas.Int.{to_z-of_z}
use Rattle.texel_filter.specs.Coordinate.{index_at}
use Rattle.texel_filter.specs.Image.{image_of, AreValues}
use Rattle.texel_filter.specs.Filter.{closest_in_level, closest_value}
use Rattle.texel_filter.proofs.CallLemmas.{on_ok}
use Rattle.texel_filter.proofs.FilterLemmas.{closest_inside, visits_inside, values_like}
use Rattle.texel_filter.proofs.fine.closest_fine.Goals as goal

pub returns-in-Some-Some-clause-told : goal.returns-in-Some-Some-clause-told
returns-in-Some-Some-clause-told g c = λ values is.
    let r = c.args.r.now in
    let l = c.level_near-level.result in
    let sizes = g.F.Fetch.sizes c.args.f.now in
    let x = c.in-Some-Some.x in
    let y = c.in-Some-Some.y in
    let fits = rw c.size-width.ensures.value at c.in-Some-Some.ensures.inside in
    let gits = rw c.size-width.ensures.value at c.in-Some-Some.ensures'.inside in
    let across : index_at r.s (sizes.width l) ≡ pos x = grind (arith, to_z-of_z) in
    let down : index_at r.t (sizes.height l) ≡ pos y = grind (arith, to_z-of_z) in
    let level = rw c.levels.ensures.value at c.level_near-level.ensures.value in
    on_ok c.write_texel.result (c.write_texel.ensures.told values is)
    (values_like (values l x y) (closest_value (image_of sizes values) r) _
    (λ k. closest_inside sizes r l x y across fits down gits values k
    ∙ ap (λ m. closest_in_level (image_of sizes values) r m k) level))

pub returns-in-Some-Some-clause-left : goal.returns-in-Some-Some-clause-left
returns-in-Some-Some-clause-left g c =
    let r = c.args.r.now in
    let l = c.level_near-level.result in
    let sizes = g.F.Fetch.sizes c.args.f.now in
    let fits = rw c.size-width.ensures.value at c.in-Some-Some.ensures.inside in
    let gits = rw c.size-width.ensures.value at c.in-Some-Some.ensures'.inside in
    let across : index_at r.s (sizes.width l) ≡ pos c.in-Some-Some.x = grind (arith, to_z-of_z) in
    let down : index_at r.t (sizes.height l) ≡ pos c.in-Some-Some.y = grind (arith, to_z-of_z) in
    let level = rw c.levels.ensures.value at c.level_near-level.ensures.value in
    let visits = visits_inside sizes r l c.in-Some-Some.x c.in-Some-Some.y across fits down gits in
    rw (← level, ← visits) c.write_texel.ensures.left

pub returns-in_default-clause-told : goal.returns-in_default-clause-told
returns-in_default-clause-told g c = λ values is.
    let image = image_of (g.F.Fetch.sizes c.args.f.now) values in
    let level = rw c.levels.ensures.value at c.level_near-level.ensures.value in
    subst
    (λ l. OnOk c.write_wrapped.result
    (AreValues (closest_in_level image c.args.r.now l) c.write_wrapped.new.out))
    level (c.write_wrapped.ensures.told values is)
