-- What the fetches of a lookup leave, when they follow one another.
use Rattle.std.proofs.Common.{◌≡◌, ◌∙◌, ap, subst, rules}
use Rattle.std.specs.Prelude.{OnOk, IfErr, IsOkAnd}
use Rattle.std.specs.Option.{ForSome, option_map}
use Rattle.std.proofs.lemmas.Result.{err_from_is_err_and}
use Rattle.tile_layout.specs.Value.{channel_value_of}
use Rattle.tile_layout.specs.Cell.{CellsFit}
use Rattle.file_table.specs.Record.{RecordState, IsRecord}
use Rattle.image_cache.specs.Cause.{LookupRefuses}
use Rattle.texel_filter.specs.Image.{image_of}
use Rattle.texel_filter.proofs.CallLemmas.{on_ok}
use Rattle.tile_source.specs.Source.{pass_tap}
use Rattle.image_cache.specs.Sizes.{sizes_known, values_known}
use Rattle.texture_sys.specs.Asked.{AreValuesOn, AreFirstOn, whole}
use Rattle.texture_sys.specs.Needs.{visits_on}
use Rattle.texture_sys.proofs.Chains.{left_leaves}
use Rattle.texture_sys.proofs.Lent.{same_after, left_known}
use Rattle.texture_sys.proofs.LookLemmas.{lookups_told, first_told, by_error}
use Rattle.texture_sys.proofs.LooksLemmas.{looks_up, not_looked}
use Rattle.texture_sys.proofs.texturing.look_up.Goals as goal

pub returns-in_err-picture-clause-left : goal.returns-in_err-picture-clause-left
returns-in_err-picture-clause-left g c =
    let k : RecordState = c.args.on.now.known.value in
    let of_known : c.deref.result.now ≡ k = search rules in
    let p = err_from_is_err_and c.from_residual.result c.from_residual.ensures.1 in
    rw (p.1, p.2) (not_looked g.T.W.World.files c.args.cache.now.gate k c.args.on.now.lookups.now
    (pass_tap c.args.pass.now (g.T.Tap.state c.args.tap.now)) c.args.out.now
    c.in_err-picture.field-0.0 (subst (λ (x : RecordState).
    LookupRefuses x c.in_err-picture.field-0.0) of_known c.in_err-picture.ensures.err))

pub returns-clause-same : goal.returns-clause-same
returns-clause-same g c =
    let files = g.T.W.World.files in
    let r = c.args.on.now.lookups.now in
    let k : RecordState = c.args.on.now.known.value in
    let of_known : c.deref.result.now ≡ k = search rules in
    let same = same_after files c.lookups_for.new.f _ (λ x. visits_on x r) (whole c.lookups_for.result)
    _ _ c.lookups_for.ensures.left (λ a b t p. (p.call, p.left)) (λ a b t e p. (p.call, p.left)) in
    let left = left_known files c.lookups_for.new.f _ (λ x. visits_on x r)
    (whole c.lookups_for.result) _ _ c.lookups_for.ensures.left (λ a b t p. (p.call, p.left))
    (λ a b t e p. (p.call, p.left)) k (c.in_ok-picture.ensures.ok ∙ of_known) in
    let pass_back : c.lookups_for.new.f.pass.now ≡ c.pass-1.given.0 =
    search (rules, same.pass_name) in
    rw (← pass_back) ((left_leaves files c.args.cache.now.gate k (visits_on k r)
    (pass_tap c.args.pass.now (g.T.Tap.state c.args.tap.now))
    (pass_tap c.lookups_for.new.f.pass.now (g.T.Tap.state c.lookups_for.new.f.tap.now))
    (whole c.lookups_for.result) c.know.ensures.few left).pass)

pub returns-clause-left : goal.returns-clause-left
returns-clause-left g c =
    let files = g.T.W.World.files in
    let r = c.args.on.now.lookups.now in
    let k : RecordState = c.args.on.now.known.value in
    let out = c.lookups_for.new.out in
    let of_known : c.deref.result.now ≡ k = search rules in
    let of_picture : c.in_ok-picture.picture ≡ k = c.in_ok-picture.ensures.ok ∙ of_known in
    let honest = subst (λ (x : RecordState). IsRecord files x) of_picture c.know-2.ensures.told in
    let fits = subst (λ (x : RecordState). IsOkAnd x.layout (λ kept. CellsFit kept x.cut))
    of_picture c.know-2.ensures.serves in
    let told = subst (λ (x : RecordState). ForSome (values_known files x) (λ v.
    OnOk c.lookups_for.result (AreValuesOn (image_of (sizes_known x) v) r out)))
    of_picture c.lookups_for.ensures.told in
    let part = subst (λ (x : RecordState). ForSome (values_known files x) (λ v.
    IfErr c.lookups_for.result (λ s. AreFirstOn (image_of (sizes_known x) v) r s.done out)))
    of_picture c.lookups_for.ensures.part in
    let same = same_after files c.lookups_for.new.f _ (λ x. visits_on x r) (whole c.lookups_for.result)
    _ _ c.lookups_for.ensures.left (λ a b t p. (p.call, p.left)) (λ a b t e p. (p.call, p.left)) in
    let left = left_known files c.lookups_for.new.f _ (λ x. visits_on x r)
    (whole c.lookups_for.result) _ _ c.lookups_for.ensures.left (λ a b t p. (p.call, p.left))
    (λ a b t e p. (p.call, p.left)) k of_picture in
    let pass_back : c.lookups_for.new.f.pass.now ≡ c.pass-1.given.0 =
    search (rules, same.pass_name) in
    let tap_back : c.lookups_for.new.f.tap.now ≡ c.tap-1.given.0 =
    search (rules, same.tap_name) in
    rw (← pass_back, ← tap_back) (looks_up files c.args.cache.now.gate k r
    (pass_tap c.args.pass.now (g.T.Tap.state c.args.tap.now))
    (pass_tap c.lookups_for.new.f.pass.now (g.T.Tap.state c.lookups_for.new.f.tap.now))
    c.args.out.now out c.lookups_for.result c.know.ensures.few
    (record { needs = c.know.ensures.needs; hits = c.know.ensures.hits }) left
    (λ bytes held. on_ok c.lookups_for.result
    (told (channel_value_of bytes) (ap (option_map channel_value_of) held))
    (λ are. lookups_told files k r out bytes honest fits held are))
    (λ bytes held. by_error c.lookups_for.result
    (part (channel_value_of bytes) (ap (option_map channel_value_of) held))
    (λ s are. first_told files k r s.done out bytes honest fits held are))
    c.lookups_for.ensures.rest)
