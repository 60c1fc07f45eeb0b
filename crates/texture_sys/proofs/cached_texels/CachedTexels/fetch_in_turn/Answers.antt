-- The first of four texels, and then the others.
use Rattle.std.proofs.Common.{arith, ap, ◌∙◌}
use Rattle.texel_filter.specs.Image.{texel_of}
use Rattle.texel_filter.proofs.CallLemmas.{left_after, first_of_part}
use Rattle.image_cache.specs.Sizes.{values_known}
use Rattle.image_cache.specs.Square.{rest_of}
use Rattle.texture_sys.specs.Texels.{FetchesBy, RefusesBy}
use Rattle.texture_sys.proofs.cached_texels.CachedTexels.fetch_in_turn.Goals as goal

pub returns-clause-left : goal.returns-clause-left
returns-clause-left g c =
    let q = c.args.square.now in
    left_after (FetchesBy g.T.W.World.files) (RefusesBy g.T.W.World.files) c.args.self.now
    c.fetch_at.new.self c.fetch_rest.new.self (texel_of q.level q.left q.top) (rest_of q)
    c.fetch_rest.result c.in_ok-fetch_at.ensures.ok c.fetch_rest.ensures.left

pub returns-clause-told : goal.returns-clause-told
returns-clause-told g c = λ values is.
    let files = g.T.W.World.files in
    let k1 = ap (values_known files) (ap (λ k. k.now) c.in_ok-fetch_at.ensures.ok.call.picture) ∙ is in
    let h1 = c.in_ok-fetch_at.ensures.told values is in
    c.fetch_rest.ensures.told values k1
    (first_of_part _ c.fetch_at.new.out _ c.args.channels (omega arith) h1)
