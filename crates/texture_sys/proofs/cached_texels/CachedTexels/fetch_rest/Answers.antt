-- The three texels after the first: all at once, or by three calls of `texel`.
use Rattle.std.proofs.Common.{◌≡◌, refl, subst, [], ◌∷◌}
use Rattle.std.specs.Option.{ForSome}
use Rattle.file_table.specs.Record.{RecordState}
use Rattle.tile_layout.specs.Value.{channel_value_of}
use Rattle.texel_filter.specs.Image.{Values, texel_of}
use Rattle.texel_filter.specs.Square.{AreCorners}
use Rattle.tile_source.specs.Pass.{PassState}
use Rattle.image_cache.specs.Square.{MeetsRest}
use Rattle.texture_sys.specs.Texels.{FetchesBy, RefusesBy}
use Rattle.texture_sys.specs.Texels.{moment}
use Rattle.texture_sys.proofs.FetchLemmas.{at_mapped, fetches_met, same_cache, fetches_from}
use Rattle.texture_sys.proofs.FetchLemmas.{refuses_from, left_from}
use Rattle.texture_sys.proofs.cached_texels.CachedTexels.fetch_rest.Goals as goal

pub returns-then-fetch_rest_local-clause-left : goal.returns-then-fetch_rest_local-clause-left
returns-then-fetch_rest_local-clause-left g c =
    let s = c.args.self.now in
    let files = g.T.W.World.files in
    let k = s.picture.now in
    let tap = g.T.Tap.state s.tap.now in
    let gate = s.cache.now.gate in
    let q = c.args.square.now in
    let old : PassState = s.pass.now in
    let new : PassState = c.fetch_rest_local.new.pass in
    let met : MeetsRest files k q old new = subst (λ (r : RecordState). MeetsRest files r q old new)
    c.record.ensures.value (c.fetch_rest_local.ensures.met c.if-fetch_rest_local.true) in
    let of_second = same_cache s.cache.now old met.second met.to_second.kept s.pass_of in
    let of_third = same_cache s.cache.now met.second met.third met.to_third.kept of_second in (
      record s { pass = record s.pass { now = met.second }; pass_of = of_second },
      record { call = record { cache = refl; picture = refl; pass_name = refl; tap_name = refl }; left = fetches_met files gate k (texel_of q.level q.right q.top) tap old met.second met.to_second },
      (
        record s { pass = record s.pass { now = met.third }; pass_of = of_third },
        record { call = record { cache = refl; picture = refl; pass_name = refl; tap_name = refl }; left = fetches_met files gate k (texel_of q.level q.left q.bottom) tap met.second met.third met.to_third },
        (
          record s {
            pass = record s.pass { now = new };
            pass_of = c.self-1.given.0;
            under = c.self-1.given.1.0;
          },
          record { call = record { cache = refl; picture = refl; pass_name = refl; tap_name = refl }; left = fetches_met files gate k (texel_of q.level q.right q.bottom) tap met.third new met.to_last },
          refl,
        ),
      ),
    )

pub returns-then-fetch_rest_local-clause-told : goal.returns-then-fetch_rest_local-clause-told
returns-then-fetch_rest_local-clause-told g c values is _ =
    let known = c.args.self.now.picture.now in
    let q = c.args.square.now in
    at_mapped channel_value_of (g.T.W.World.files.held known.file known.generation) values
    (λ (v : Values). AreCorners v q c.args.channels c.fetch_rest_local.new.out) is
    (subst (λ (r : RecordState). ForSome (g.T.W.World.files.held r.file r.generation)
    (λ bytes. AreCorners (channel_value_of bytes) q c.args.channels c.fetch_rest_local.new.out))
    c.record.ensures.value (c.fetch_rest_local.ensures.value c.if-fetch_rest_local.true))

pub returns-clause-left : goal.returns-clause-left
returns-clause-left g c =
    let s = c.args.self.now in
    let files = g.T.W.World.files in
    let k = s.picture.now in
    let tap = g.T.Tap.state s.tap.now in
    let gate = s.cache.now.gate in
    let q = c.args.square.now in
    let first = texel_of q.level q.right q.top in
    let old : PassState = s.pass.now in
    let mid : PassState = c.fetch_rest_local.new.pass in
    let same : mid ≡ old = (c.fetch_rest_local.ensures.same c.if-fetch_rest_local.false).0 in
    left_from (FetchesBy files) (RefusesBy files) s _ c.fetch_three.new.self first
    (texel_of q.level q.left q.bottom ∷ texel_of q.level q.right q.bottom ∷ []) c.fetch_three.result
    (λ m p. record {
      call = record {
        cache = p.call.cache;
        picture = p.call.picture;
        pass_name = p.call.pass_name;
        tap_name = p.call.tap_name;
      };
      left = fetches_from old mid same files gate k first tap (moment m) p.left;
    })
    (λ e m p. record {
      call = record {
        cache = p.call.cache;
        picture = p.call.picture;
        pass_name = p.call.pass_name;
        tap_name = p.call.tap_name;
      };
      left = refuses_from old mid same files gate k first tap (moment m) e p.left;
    })
    c.fetch_three.ensures.left
