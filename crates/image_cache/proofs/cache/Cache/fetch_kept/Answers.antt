-- The microcache had the key of the cell.
use Rattle.std.proofs.Common.{ℕ, true, ◌∷◌, [], sym, subst, rules}
use Rattle.micro.specs.Runs.{IsAsked}
use Rattle.pinned_tiles.specs.Pinned.{key_in, PinnedState}
use Rattle.tile_source.specs.Pass.{PassState}
use Rattle.tile_source.specs.Call.{CountsNeed, Needs}
use Rattle.tile_source.proofs.NeedLemmas.{needs_hit}
use Rattle.tile_source.proofs.TexelLemmas.{at_cell}
use Rattle.image_cache.proofs.cache.Cache.fetch_kept.Goals as goal

pub returns-clause-met : goal.returns-clause-met
returns-clause-met g c = λ _.
    let files = g.T.W.World.files in
    let cell = c.args.cell.now in
    let old : PassState = c.args.pass.now in
    let new : PassState = c.count_need.new.self in
    let asked : IsAsked key_in old.pinned.recent cell.key true new.pinned.recent =
    subst (λ (s : PassState). IsAsked key_in s.pinned.recent cell.key true new.pinned.recent)
    c.pass.view_is
    (subst (λ (q : PinnedState). IsAsked key_in c.pass.inside.pinned.recent cell.key true q.recent)
    (sym c.count_need.ensures.kept.pinned) (c.turn_to.ensures.asked c.if-not-turn_to.false)) in
    let counts : CountsNeed true old new = search rules in
    record {
      had = search rules;
      need = counts;
      apart = search rules;
      asked = search rules;
      turned = search rules;
      moved = search rules;
      kept = search rules;
      needs = at_cell (λ (key : ℕ). Needs files (key ∷ []) old new) c.args.known.now c.args.at cell
          c.requires.cell.is (needs_hit files cell.key old new asked counts);
    }
