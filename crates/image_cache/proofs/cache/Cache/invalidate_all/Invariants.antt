-- The files so far were looked at, and of each that is known the newest generation was asked for.
use Rattle.std.proofs.Common.{ℕ, ◌<◌, ◌≤◌, slice_index}
use Rattle.gen_board.specs.View.{IsLater}
use Rattle.tile_source.specs.Pass.{IsPassOf}
use Rattle.image_cache.specs.Invalid.{IsEmptied, MayAsk, RisesBy, seen_count}
use Rattle.tile_source.specs.Source.{pass_tap}
use Rattle.image_cache.specs.InvalidAll.{RenewsUpTo}
use Rattle.image_cache.proofs.cache.Cache.invalidate_all.Given as goal

abbrev pub invariant-loop-file : goal.invariant-loop-file
invariant-loop-file g l = record {
  pass : IsPassOf l.self l.pass;
  emptied : IsEmptied g.row.V-Busy.Denot l.fn.pass l.pass;
  later : IsLater l.fn.pass.view.seen l.pass.view.seen;
  least : (f : ℕ) → slice_index l.fn.pass.view.steps f ≤ slice_index l.pass.view.steps f;
  steps : (f : ℕ) → f < l.file
      → slice_index l.fn.pass.view.steps f < slice_index l.pass.view.steps f;
  asks : RisesBy (seen_count l.pass.view l.file) (g.T.Tap.state l.fn.tap).asks
      (g.T.Tap.state l.tap).asks;
  all : RenewsUpTo g.T.W.World.files l.self.gate l.file
      (pass_tap l.fn.pass (g.T.Tap.state l.fn.tap)) (pass_tap l.pass (g.T.Tap.state l.tap));
  tap : MayAsk (g.T.Tap.state l.fn.tap) (g.T.Tap.state l.tap);
}
