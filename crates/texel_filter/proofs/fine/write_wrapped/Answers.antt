use Rattle.std.proofs.Common.{◌≡◌, arith}
use Rattle.std.proofs.lemmas.Int.{to_z-of_z}
use Rattle.texel_filter.specs.Coordinate.{index_at}
use Rattle.texel_filter.specs.Image.{image_of}
use Rattle.texel_filter.specs.WrapMode.{wrapped_index}
use Rattle.texel_filter.specs.Filter.{value_in, closest_in_level}
use Rattle.texel_filter.proofs.CallLemmas.{on_ok}
use Rattle.texel_filter.proofs.FilterLemmas.{closest_at, values_like}
use Rattle.texel_filter.proofs.fine.write_wrapped.Goals as goal

pub returns-clause-told : goal.returns-clause-told
returns-clause-told g c = λ values is.
    let r = c.args.r.now in
    let l = c.args.level in
    let sizes = g.F.Fetch.sizes c.args.f.now in
    let w = sizes.width l in
    let h = sizes.height l in
    let x = c.place_of-x.result in
    let y = c.place_of-y.result in
    let across : x ≡ wrapped_index r.swrap (index_at r.s w) w = grind (arith, to_z-of_z) in
    let down : y ≡ wrapped_index r.twrap (index_at r.t h) h = grind (arith, to_z-of_z) in
    let image = image_of sizes values in
    on_ok c.write_one.result (c.write_one.ensures.told values is)
    (values_like (value_in (values l) x y) (closest_in_level image r l) _
    (λ k. closest_at image r l x y k across down))
