-- What was read by the record is read by the one that the pass keeps.
use Rattle.std.proofs.Common.{rules, ◌≡◌, ◌∙◌, ap, sym, subst, Some, refl, arith}
use Rattle.std.proofs.lemmas.Grind.{common_steps}
use Rattle.file_table.specs.Record.{RecordState}
use Rattle.file_table.specs.Calls.{GivesRecord}
use Rattle.image_cache.specs.Region.{ReadsRegion}
use Rattle.tile_source.proofs.VisitLemmas.{visits_same}
use Rattle.image_cache.proofs.FillLemmas.{keeps_given, reads_between}
use Rattle.image_cache.proofs.OpenLemmas.{after_call, same_holds, no_hand, keeps_one, looked}
use Rattle.image_cache.proofs.OpenLemmas.{falls_behind, of_look}
use Rattle.image_cache.proofs.cache.Cache.get_pixels.Goals as goal

pub returns-in_err-append-clause-leaves : goal.returns-in_err-append-clause-leaves
returns-in_err-append-clause-leaves g c = record {
  cache = refl;
  unread = grind (arith, common_steps);
  looked = grind (arith, common_steps);
  latest = keeps_one c.args.file c.args.pass.now c.open.new.pass c.read_region-answer.new.pass
      c.keep.new.pass (g.T.Tap.state c.open.new.tap) (g.T.Tap.state c.read_region-answer.new.tap)
      (ap (λ (r : RecordState). r.file) c.deref.ensures ∙ c.in_ok-known.ensures.ok.of_file)
      c.open.ensures.leaves.same c.open.ensures.leaves.looks c.read_region-answer.ensures.left
      c.keep.ensures.same c.keep.ensures.view c.args.self.now.gate.cut
      c.in_ok-known.known.value c.keep.ensures.kept c.in_ok-known.ensures.ok
      (g.T.Tap.state c.args.tap.now) (g.T.Tap.state c.read_region-answer.new.tap);
  same = after_call c.args.file c.args.pass.now c.open.new.pass c.read_region-answer.new.pass
      c.keep.new.pass (g.T.Tap.state c.open.new.tap) (g.T.Tap.state c.read_region-answer.new.tap)
      (ap (λ (r : RecordState). r.file) c.deref.ensures ∙ c.in_ok-known.ensures.ok.of_file)
      c.open.ensures.leaves.same c.open.ensures.leaves.looks c.read_region-answer.ensures.left
      c.keep.ensures.same c.keep.ensures.view;
  holds = same_holds c.args.file c.args.pass.now c.open.new.pass c.read_region-answer.new.pass
      c.keep.new.pass (g.T.Tap.state c.open.new.tap) (g.T.Tap.state c.read_region-answer.new.tap)
      (ap (λ (r : RecordState). r.file) c.deref.ensures ∙ c.in_ok-known.ensures.ok.of_file)
      c.open.ensures.leaves.same c.open.ensures.leaves.looks c.read_region-answer.ensures.left
      c.keep.ensures.same c.keep.ensures.view;
  hand = no_hand c.args.file c.args.pass.now c.open.new.pass c.read_region-answer.new.pass
      c.keep.new.pass (g.T.Tap.state c.open.new.tap) (g.T.Tap.state c.read_region-answer.new.tap)
      (ap (λ (r : RecordState). r.file) c.deref.ensures ∙ c.in_ok-known.ensures.ok.of_file)
      c.open.ensures.leaves.same c.open.ensures.leaves.looks c.read_region-answer.ensures.left
      c.keep.ensures.same c.keep.ensures.view;
  visits = search rules;
  tap =
      falls_behind (g.T.Tap.state c.args.tap.now) c.open.ensures.leaves.once
      c.read_region-answer.ensures.left;
}

pub returns-clause-leaves : goal.returns-clause-leaves
returns-clause-leaves g c = record {
  cache = refl;
  unread = search rules;
  looked = looked c.args.file c.args.pass.now c.open.new.pass c.read_region-answer.new.pass
      c.keep.new.pass (g.T.Tap.state c.open.new.tap) (g.T.Tap.state c.read_region-answer.new.tap)
      (ap (λ (r : RecordState). r.file) c.deref.ensures ∙ c.in_ok-known.ensures.ok.of_file)
      c.open.ensures.leaves.same c.open.ensures.leaves.looks c.read_region-answer.ensures.left
      c.keep.ensures.same c.keep.ensures.view;
  latest = keeps_one c.args.file c.args.pass.now c.open.new.pass c.read_region-answer.new.pass
      c.keep.new.pass (g.T.Tap.state c.open.new.tap) (g.T.Tap.state c.read_region-answer.new.tap)
      (ap (λ (r : RecordState). r.file) c.deref.ensures ∙ c.in_ok-known.ensures.ok.of_file)
      c.open.ensures.leaves.same c.open.ensures.leaves.looks c.read_region-answer.ensures.left
      c.keep.ensures.same c.keep.ensures.view c.args.self.now.gate.cut
      c.in_ok-known.known.value c.keep.ensures.kept c.in_ok-known.ensures.ok
      (g.T.Tap.state c.args.tap.now) (g.T.Tap.state c.read_region-answer.new.tap);
  same = after_call c.args.file c.args.pass.now c.open.new.pass c.read_region-answer.new.pass
      c.keep.new.pass (g.T.Tap.state c.open.new.tap) (g.T.Tap.state c.read_region-answer.new.tap)
      (ap (λ (r : RecordState). r.file) c.deref.ensures ∙ c.in_ok-known.ensures.ok.of_file)
      c.open.ensures.leaves.same c.open.ensures.leaves.looks c.read_region-answer.ensures.left
      c.keep.ensures.same c.keep.ensures.view;
  holds = same_holds c.args.file c.args.pass.now c.open.new.pass c.read_region-answer.new.pass
      c.keep.new.pass (g.T.Tap.state c.open.new.tap) (g.T.Tap.state c.read_region-answer.new.tap)
      (ap (λ (r : RecordState). r.file) c.deref.ensures ∙ c.in_ok-known.ensures.ok.of_file)
      c.open.ensures.leaves.same c.open.ensures.leaves.looks c.read_region-answer.ensures.left
      c.keep.ensures.same c.keep.ensures.view;
  hand = no_hand c.args.file c.args.pass.now c.open.new.pass c.read_region-answer.new.pass
      c.keep.new.pass (g.T.Tap.state c.open.new.tap) (g.T.Tap.state c.read_region-answer.new.tap)
      (ap (λ (r : RecordState). r.file) c.deref.ensures ∙ c.in_ok-known.ensures.ok.of_file)
      c.open.ensures.leaves.same c.open.ensures.leaves.looks c.read_region-answer.ensures.left
      c.keep.ensures.same c.keep.ensures.view;
  visits = search rules;
  tap =
      falls_behind (g.T.Tap.state c.args.tap.now) c.open.ensures.leaves.once
      c.read_region-answer.ensures.left;
}

pub returns-clause-answers : goal.returns-clause-answers
returns-clause-answers g c = record {
  ok =
      let files = g.T.W.World.files in
      let file = c.args.file in
      let cut = c.args.self.now.gate.cut in
      let region = c.args.region.now in
      let channels = c.in_ok-read.read.channels in
      let old = c.args.pass.now in
      let mid = c.open.new.pass in
      let after = c.read_region-answer.new.pass in
      let new = c.keep.new.pass in
      let r = c.deref.result.now in
      let is : r ≡ c.in_ok-known.known.value = c.deref.ensures in
      let given : GivesRecord files file cut old.view mid.view r =
      subst (λ (k : RecordState). GivesRecord files file cut old.view mid.view k) (sym is)
      c.in_ok-known.ensures.ok in
      keeps_given files file cut old mid after new r c.generation-generation.result
      (ReadsRegion files region channels old new) (c.keep.ensures.kept ∙ ap Some (sym is)) given
      given.of_file c.read_region-answer.ensures.left.need.view c.keep.ensures.view
      (c.generation-generation.ensures.value
      ∙ ap (λ (k : RecordState). k.generation) (c.deref-2.ensures ∙ sym is))
      (reads_between files region channels old mid after new r c.open.ensures.leaves.same.tiles.recent
      c.open.ensures.leaves.same.counts c.keep.ensures.same.tiles.recent c.keep.ensures.same.counts
      c.in_ok-read.ensures.ok);
  count = grind (arith, common_steps);
  value = λ bytes held.
      let files = g.T.W.World.files in
      let r = c.deref.result.now in
      let file : r.file ≡ c.args.file = ap (λ (k : RecordState). k.file) c.deref.ensures
      ∙ c.in_ok-known.ensures.ok.of_file in
      let generation : r.generation ≡ c.generation-generation.result =
      sym (c.generation-generation.ensures.value ∙ ap (λ (k : RecordState). k.generation)
      (c.deref-2.ensures ∙ sym c.deref.ensures)) in (
        c.in_ok-read.read.values.items,
        c.in_ok-append.ensures.ok,
        c.in_ok-read.ensures.value bytes (rw (file, generation) held),
      );
  as_new = of_look c.args.file c.args.pass.now c.open.new.pass c.read_region-answer.new.pass
      c.keep.new.pass (g.T.Tap.state c.open.new.tap) (g.T.Tap.state c.read_region-answer.new.tap)
      (ap (λ (r : RecordState). r.file) c.deref.ensures ∙ c.in_ok-known.ensures.ok.of_file)
      c.open.ensures.leaves.same c.open.ensures.leaves.looks c.read_region-answer.ensures.left
      c.keep.ensures.same c.keep.ensures.view c.generation-generation.result (omega (
        arith,
        c.in_ok-known.ensures.as_new,
        c.generation-generation.ensures.value,
        ap (λ (k : RecordState). k.generation) c.deref-2.ensures,
      ));
  cause = tt;
  too_large = search rules;
  err = tt;
}

pub returns-then-is_too_large-clause-leaves : goal.returns-then-is_too_large-clause-leaves
returns-then-is_too_large-clause-leaves g c = record {
  cache = refl;
  unread = search rules;
  looked = tt;
  latest = search rules;
  same = search rules;
  holds = refl;
  hand = search rules;
  visits =
      visits_same c.args.self.now.gate c.args.pass.now.pinned.seat c.args.pass.now.pinned.seat
      refl;
  tap = search rules;
}

pub returns-in_err-known-clause-leaves : goal.returns-in_err-known-clause-leaves
returns-in_err-known-clause-leaves g c = record {
  cache = refl;
  unread = grind (arith, common_steps);
  looked = grind (arith, common_steps);
  latest = grind (arith, common_steps);
  same = grind (arith, common_steps);
  holds = search rules;
  hand = grind (arith, common_steps);
  visits =
      visits_same c.args.self.now.gate c.args.pass.now.pinned.seat c.open.new.pass.pinned.seat
      c.open.ensures.leaves.same.seat;
  tap = grind (arith, common_steps);
}

pub returns-in_err-append-clause-answers : goal.returns-in_err-append-clause-answers
returns-in_err-append-clause-answers g c = record {
  ok = grind (arith, common_steps);
  count = grind (arith, common_steps);
  value = grind (arith, common_steps);
  as_new = grind (arith, common_steps);
  cause = grind (arith, common_steps);
  too_large = search rules;
  err = grind (arith, common_steps);
}
