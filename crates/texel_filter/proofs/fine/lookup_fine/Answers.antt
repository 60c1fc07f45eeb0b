use Rattle.std.proofs.Common.{sym, ap}
use Rattle.texel_filter.specs.Image.{image_of}
use Rattle.texel_filter.specs.Filter.{closest_value, bilinear_value, trilinear_value, lookup_value}
use Rattle.texel_filter.specs.Filter.{value_by}
use Rattle.texel_filter.proofs.CallLemmas.{on_ok}
use Rattle.texel_filter.proofs.FilterLemmas.{values_like}
use Rattle.texel_filter.proofs.fine.lookup_fine.Goals as goal

pub returns-in-Closest-clause-told : goal.returns-in-Closest-clause-told
returns-in-Closest-clause-told g c = λ values is.
    let image = image_of (g.F.Fetch.sizes c.args.f.now) values in
    let r = c.args.r.now in
    on_ok c.closest_fine.result (c.closest_fine.ensures.told values is)
    (values_like (closest_value image r) (lookup_value image r) _
    (λ k. ap (λ f. value_by f image r k) (sym c.in-Closest.is)))

pub returns-in-Bilinear-clause-told : goal.returns-in-Bilinear-clause-told
returns-in-Bilinear-clause-told g c = λ values is.
    let image = image_of (g.F.Fetch.sizes c.args.f.now) values in
    let r = c.args.r.now in
    on_ok c.bilinear_fine.result (c.bilinear_fine.ensures.told values is)
    (values_like (bilinear_value image r) (lookup_value image r) _
    (λ k. ap (λ f. value_by f image r k) (sym c.in-Bilinear.is)))

pub returns-in-Trilinear-clause-told : goal.returns-in-Trilinear-clause-told
returns-in-Trilinear-clause-told g c = λ values is.
    let image = image_of (g.F.Fetch.sizes c.args.f.now) values in
    let r = c.args.r.now in
    on_ok c.trilinear_fine.result (c.trilinear_fine.ensures.told values is)
    (values_like (trilinear_value image r) (lookup_value image r) _
    (λ k. ap (λ f. value_by f image r k) (sym c.in-Trilinear.is)))
