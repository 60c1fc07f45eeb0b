-- The values are those that `fetch` promises.
use Rattle.std.proofs.Common.{refl, subst}
use Rattle.std.specs.Prelude.{OnOk}
use Rattle.std.specs.Option.{ForSome}
use Rattle.file_table.specs.Record.{RecordState}
use Rattle.texel_values.specs.Values.{AreValuesAt}
use Rattle.tile_layout.specs.Value.{channel_value_of}
use Rattle.texel_filter.specs.Image.{Values, AreValues}
use Rattle.texel_filter.specs.Image.{texel_of}
use Rattle.tile_source.specs.Source.{pass_tap}
use Rattle.texture_sys.proofs.FetchLemmas.{at_mapped, fetches_ok, refuses_err, on_ok}
use Rattle.texture_sys.proofs.LookLemmas.{by_error}
use Rattle.texture_sys.proofs.cached_texels.CachedTexels.fetch_at.Goals as goal

pub returns-clause-told : goal.returns-clause-told
returns-clause-told g c values is =
    let known = c.args.self.now.picture.now in
    at_mapped channel_value_of (g.T.W.World.files.held known.file known.generation) values
    (λ (v : Values). OnOk c.fetch.result (AreValues (v c.args.level c.args.x c.args.y) c.fetch.new.out))
    is (subst (λ (r : RecordState). ForSome (g.T.W.World.files.held r.file r.generation)
    (λ bytes. OnOk c.fetch.result (AreValuesAt bytes
    (record { level = c.args.level; x = c.args.x; y = c.args.y }) c.fetch.new.out)))
    c.record-known.ensures.value c.fetch.ensures.value)

pub returns-clause-ok : goal.returns-clause-ok
returns-clause-ok g c =
    let self = c.args.self.now in
    on_ok c.fetch.result (λ left. record {
      call = record { cache = refl; picture = refl; pass_name = refl; tap_name = refl };
      left = left;
    }) (fetches_ok g.T.W.World.files self.cache.now.gate c.record-known.result.now self.picture.now
    (texel_of c.args.level c.args.x c.args.y)
    (pass_tap self.pass.now (g.T.Tap.state self.tap.now))
    (pass_tap c.fetch.new.pass (g.T.Tap.state c.fetch.new.tap)) c.fetch.result
    c.record-known.ensures.value c.fetch.ensures.left)

pub returns-clause-err : goal.returns-clause-err
returns-clause-err g c =
    let self = c.args.self.now in
    by_error c.fetch.result (refuses_err g.T.W.World.files self.cache.now.gate
    c.record-known.result.now self.picture.now (texel_of c.args.level c.args.x c.args.y)
    (pass_tap self.pass.now (g.T.Tap.state self.tap.now))
    (pass_tap c.fetch.new.pass (g.T.Tap.state c.fetch.new.tap)) c.fetch.result
    c.record-known.ensures.value c.fetch.ensures.left)
    (λ e left. record {
      call = record { cache = refl; picture = refl; pass_name = refl; tap_name = refl };
      left = left;
    })
