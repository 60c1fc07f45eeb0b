-- Three texels, one after another.
use Rattle.std.proofs.Common.{arith, ap, ◌∙◌, inl, inr, [], ◌∷◌}
use Rattle.std.proofs.lemmas.Result.{err_from_is_err_and}
use Rattle.texel_filter.specs.Image.{texel_of}
use Rattle.texel_filter.proofs.CallLemmas.{left_after, left_alone, first_of_part, on_ok}
use Rattle.image_cache.specs.Sizes.{values_known}
use Rattle.texture_sys.specs.Texels.{FetchesBy, RefusesBy}
use Rattle.texture_sys.proofs.cached_texels.CachedTexels.fetch_three.Goals as goal

pub returns-clause-left : goal.returns-clause-left
returns-clause-left g c =
    let q = c.args.square.now in
    let leaves = FetchesBy g.T.W.World.files in
    let refuses = RefusesBy g.T.W.World.files in
    let new = c.fetch_at-3.new.self in
    let second = texel_of q.level q.left q.bottom in
    let last = texel_of q.level q.right q.bottom in
    left_after leaves refuses c.args.self.now c.fetch_at.new.self new (texel_of q.level q.right q.top)
    (second ∷ last ∷ []) c.fetch_at-3.result c.in_ok-fetch_at.ensures.ok
    (left_after leaves refuses c.fetch_at.new.self c.fetch_at-2.new.self new second (last ∷ [])
    c.fetch_at-3.result c.in_ok-fetch_at-2.ensures.ok
    (left_alone leaves refuses c.fetch_at-2.new.self new last c.fetch_at-3.result
    c.fetch_at-3.ensures.ok c.fetch_at-3.ensures.err))

pub returns-in_err-fetch_at-2-clause-left : goal.returns-in_err-fetch_at-2-clause-left
returns-in_err-fetch_at-2-clause-left g c =
    let p = err_from_is_err_and c.from_residual-in_err-fetch_at-2.result
    c.from_residual-in_err-fetch_at-2.ensures.1 in
    rw (p.1, p.2)
    (inr (c.fetch_at.new.self, c.in_ok-fetch_at.ensures.ok, inl c.in_err-fetch_at-2.ensures.err))

pub returns-clause-told : goal.returns-clause-told
returns-clause-told g c = λ values is first.
    let files = g.T.W.World.files in
    let k1 = ap (values_known files) (ap (λ k. k.now) c.in_ok-fetch_at.ensures.ok.call.picture) ∙ is in
    let k2 = ap (values_known files) (ap (λ k. k.now) c.in_ok-fetch_at-2.ensures.ok.call.picture) ∙ k1 in
    let h1 = c.in_ok-fetch_at.ensures.told values is in
    let h2 = c.in_ok-fetch_at-2.ensures.told values k1 in
    let h3 = c.fetch_at-3.ensures.told values k2 in
    on_ok c.fetch_at-3.result h3 (λ last. record {
      left_top = first;
      right_top = first_of_part _ c.fetch_at.new.out _ c.args.channels (omega arith) h1;
      left_bottom = first_of_part _ c.fetch_at-2.new.out _ c.args.channels (omega arith) h2;
      right_bottom = first_of_part _ c.fetch_at-3.new.out _ c.args.channels (omega arith) last;
    })
