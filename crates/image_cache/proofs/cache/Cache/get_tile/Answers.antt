-- The file is opened, and its record is kept.
use Rattle.std.proofs.Common.{refl, rules}
use Rattle.tile_source.proofs.VisitLemmas.{visits_same, visits_from, visits_to}
use Rattle.image_cache.proofs.cache.Cache.get_tile.Goals as goal

pub returns-then-held_count-eq-MAX_HOLDS-clause-leaves : goal.returns-then-held_count-eq-MAX_HOLDS-clause-leaves
returns-then-held_count-eq-MAX_HOLDS-clause-leaves g c = record {
  cache = refl;
  looked = tt;
  err = refl;
  latest = search rules;
  same = search rules;
  recent = search rules;
  hand = search rules;
  visits =
      visits_same c.args.self.now.gate c.args.pass.now.pinned.seat c.args.pass.now.pinned.seat
      refl;
  tap = search rules;
}

pub returns-in_err-known-clause-leaves : goal.returns-in_err-known-clause-leaves
returns-in_err-known-clause-leaves g c = record {
  cache = refl;
  looked = search rules;
  err = search rules;
  latest = search rules;
  same = search rules;
  recent = search rules;
  hand = search rules;
  visits =
      visits_same c.args.self.now.gate c.args.pass.now.pinned.seat c.open.new.pass.pinned.seat
      c.open.ensures.leaves.same.seat;
  tap = search rules;
}

pub returns-clause-leaves : goal.returns-clause-leaves
returns-clause-leaves g c =
    let gate = c.args.self.now.gate in
    let opened = c.open.new.pass.pinned.seat in
    let after = c.hold_cell-answer.new.pass.pinned.seat in
    record {
      cache = refl;
      looked = search rules;
      err = search rules;
      latest = search rules;
      same = search rules;
      recent = search rules;
      hand = search rules;
      visits =
          visits_from gate c.args.pass.now.pinned.seat opened c.keep.new.pass.pinned.seat
          c.open.ensures.leaves.same.seat
          (visits_to gate opened after c.keep.new.pass.pinned.seat
          c.hold_cell-answer.ensures.visits c.keep.ensures.same.seat);
      tap = search rules;
    }
