-- The record was found, and then the lookup was made on it.
use Rattle.std.proofs.Common.{rules, refl}
use Rattle.std.proofs.lemmas.Result.{err_from_is_err_and}
use Rattle.file_table.specs.Calls.{sighted}
use Rattle.tile_source.specs.Pass.{PassState}
use Rattle.image_cache.proofs.UnreadLemmas.{recent_of, recent_same, at_kept, unread_between}
use Rattle.texture_sys.proofs.TextureLemmas.{texture_value, texture_part, texture_cause}
use Rattle.texture_sys.proofs.KeptRecord.{texture_kept, opening_cause, opening_kept}
use Rattle.texture_sys.proofs.Warm.{texture_warm}
use Rattle.texture_sys.proofs.LookLemmas.{by_error, ok_whole}
use Rattle.texture_sys.proofs.Visits.{visits_none, visits_after}
use Rattle.texture_sys.specs.Asked.{whole}
use Rattle.texture_sys.proofs.texturing.texture_at.Goals as goal

pub returns-clause-answers : goal.returns-clause-answers
returns-clause-answers g c = record {
  value =
      texture_value g.T.W.World.files c.args.at.now.file c.args.cache.now.gate.cut c.args.pass.now.view
      c.record_of.new.pass.view c.lookup_at.new.pass.view c.in_ok-known.known.value c.in_ok-known.ensures.ok
      c.lookup_at.ensures.same.view c.args.at.now.lookups c.lookup_at.new.out c.lookup_at.result
      (ok_whole c.lookup_at.result _ c.lookup_at.ensures.ok) c.lookup_at.ensures.left.value;
  cause =
      by_error (whole c.lookup_at.result) c.lookup_at.ensures.left.cause (λ e cause.
      texture_cause g.T.W.World.files c.args.at.now.file c.args.cache.now.gate.cut c.args.pass.now.view
      c.record_of.new.pass.view c.lookup_at.new.pass.view c.in_ok-known.known.value c.in_ok-known.ensures.ok
      c.lookup_at.ensures.same.view (g.T.Tap.state c.args.tap.now)
      (g.T.Tap.state c.record_of.new.tap) (g.T.Tap.state c.lookup_at.new.tap) e c.in_ok-known.ensures.tap
      cause);
  part =
      texture_part g.T.W.World.files c.args.at.now.file c.args.cache.now.gate.cut c.args.pass.now.view
      c.record_of.new.pass.view c.lookup_at.new.pass.view c.in_ok-known.known.value c.in_ok-known.ensures.ok
      c.lookup_at.ensures.same.view c.args.at.now.lookups c.lookup_at.new.out c.lookup_at.result
      c.lookup_at.ensures.of c.lookup_at.ensures.left.part;
  rest = search rules;
  warm =
      texture_warm c.args.at.now.file c.args.at.now.lookups c.args.pass.now c.record_of.new.pass
      c.lookup_at.new.pass (g.T.Tap.state c.args.tap.now) (g.T.Tap.state c.record_of.new.tap)
      (g.T.Tap.state c.lookup_at.new.tap) c.in_ok-known.known.value (whole c.lookup_at.result)
      (c.lookup_at.ensures.same.view.later c.args.at.now.file) c.in_ok-known.ensures.same.keeps.tiles.recent
      c.lookup_at.ensures.left.warm c.args.pass.now.latest c.in_ok-known.ensures.ready;
}

pub returns-clause-leaves : goal.returns-clause-leaves
returns-clause-leaves g c = record {
  cache = refl;
  same = search rules;
  kept =
      texture_kept g.T.W.World.files c.args.at.now.file c.args.cache.now.gate.cut c.args.pass.now
      c.record_of.new.pass c.lookup_at.new.pass (g.T.Tap.state c.args.tap.now)
      c.in_ok-known.known.value c.in_ok-known.ensures.ok
      c.lookup_at.ensures.same.view c.lookup_at.ensures.same.latest c.args.at.now.lookups
      (g.T.Tap.state c.record_of.new.tap) (g.T.Tap.state c.lookup_at.new.tap) (whole c.lookup_at.result)
      c.in_ok-known.ensures.same.keeps c.lookup_at.ensures.ok c.lookup_at.ensures.left.asks
      c.in_ok-known.ensures.tap c.lookup_at.ensures.left.cause;
  unread =
      let old : PassState = c.args.pass.now in
      let mid : PassState = c.record_of.new.pass in
      let new : PassState = c.lookup_at.new.pass in
      unread_between (whole c.lookup_at.result) old mid new new
      (recent_of old mid c.in_ok-known.ensures.same.keeps) (recent_same new) c.lookup_at.ensures.left.unread;
  memory = search rules;
  tap = search rules;
  visits =
      visits_after c.args.cache.now.gate c.args.pass.now.pinned.seat c.record_of.new.pass.pinned.seat
      c.lookup_at.new.pass.pinned.seat c.in_ok-known.ensures.same.keeps.seat c.lookup_at.ensures.left.visits;
}

pub returns-in_err-known-clause-answers : goal.returns-in_err-known-clause-answers
returns-in_err-known-clause-answers g c = record {
  value = search rules;
  cause =
      let p = err_from_is_err_and c.from_residual.result c.from_residual.ensures.1 in
      rw (p.1, p.2) (opening_cause g.T.W.World.files c.args.at.now.file c.args.cache.now.gate.cut
      (sighted c.args.pass.now.view (g.T.Tap.state c.args.tap.now))
      (sighted c.record_of.new.pass.view (g.T.Tap.state c.record_of.new.tap)) _
      c.in_err-known.ensures.cause);
  part = search rules;
  rest = search rules;
  warm = search rules;
}

pub returns-in_err-known-clause-leaves : goal.returns-in_err-known-clause-leaves
returns-in_err-known-clause-leaves g c = record {
  cache = refl;
  same = search rules;
  kept =
      let p = err_from_is_err_and c.from_residual.result c.from_residual.ensures.1 in
      rw (p.1, p.2) (opening_kept g.T.W.World.files c.args.at.now.file c.args.cache.now.gate.cut
      c.args.pass.now c.record_of.new.pass (g.T.Tap.state c.args.tap.now)
      (g.T.Tap.state c.record_of.new.tap) (record {
        latest = c.in_err-known.ensures.err;
        keeps = c.in_err-known.ensures.same.keeps;
        once = c.in_err-known.ensures.once;
      }) _ c.in_err-known.ensures.cause);
  unread =
      let p = err_from_is_err_and c.from_residual.result c.from_residual.ensures.1 in
      let old : PassState = c.args.pass.now in
      let new : PassState = c.record_of.new.pass in
      rw (p.1, p.2) (at_kept _ old new (recent_of old new c.in_err-known.ensures.same.keeps));
  memory = search rules;
  tap = search rules;
  visits =
      visits_none c.args.cache.now.gate c.args.pass.now.pinned.seat c.record_of.new.pass.pinned.seat
      c.in_err-known.ensures.same.keeps.seat;
}
