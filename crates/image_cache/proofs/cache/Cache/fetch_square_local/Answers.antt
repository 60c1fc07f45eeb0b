-- The microcache is turned to the cell of all four.
use Rattle.std.proofs.Common.{◌≡◌, true, refl, sym, subst, ◌∙◌, rules}
use Rattle.micro.specs.Runs.{IsAsked}
use Rattle.pinned_tiles.specs.Pinned.{key_in, PinnedState, AsksFor, StaysAskedFor}
use Rattle.pinned_tiles.specs.Cell.{has_cell, StandsFirst}
use Rattle.tile_source.specs.Pass.{PassState}
use Rattle.tile_source.specs.Pass.{KeepsAllBut, recent_and_counts}
use Rattle.file_table.specs.Record.{RecordState}
use Rattle.tile_source.specs.Texel.{IsCellIn}
use Rattle.image_cache.specs.Square.{left_top, LieInOneOf}
use Rattle.image_cache.proofs.SquareLemmas.{meets_square, has_at}
use Rattle.image_cache.proofs.cache.Cache.fetch_square_local.Goals as goal

pub returns-clause-met : goal.returns-clause-met
returns-clause-met g c = λ _.
    let cell = c.in-Some.cell in
    let is_cell = subst (λ (r : RecordState). IsCellIn r (left_top c.args.square.now) cell)
    c.of-picture.ensures c.in-Some.ensures.cell.is in
    let one = subst (λ (r : RecordState). LieInOneOf r c.args.square.now) c.of-picture.ensures
    (c.in-Some.ensures.one.0 refl) in
    let old : PassState = c.args.pass.now in
    let new : PassState = c.count_four.new.self in
    let is = c.if-not-turn_to.false in
    let was = c.pass.view_is in
    let pinned = c.count_four.ensures.kept.pinned in
    let kept : KeepsAllBut recent_and_counts old new = search rules in
    meets_square g.T.W.World.files c.args.known.now c.args.square.now cell old new is_cell one
    (subst (λ (s : PassState). has_cell cell s.pinned.recent ≡ true) was
    (sym c.turn_to.ensures.has ∙ is))
    (subst (λ (s : PassState). IsAsked key_in s.pinned.recent cell.key true new.pinned.recent) was
    (subst (λ (q : PinnedState). IsAsked key_in c.pass.inside.pinned.recent cell.key true q.recent)
    (sym pinned) (c.turn_to.ensures.asked is)))
    (subst (λ (s : PassState). AsksFor cell.key s.pinned.recent new.pinned.recent) was
    (subst (λ (q : PinnedState). AsksFor cell.key c.pass.inside.pinned.recent q.recent)
    (sym pinned) (c.turn_to.ensures.latest is)))
    (subst (λ (q : PinnedState). StandsFirst cell q.recent) (sym pinned)
    (c.turn_to.ensures.first is))
    (subst (λ (q : PinnedState). StaysAskedFor cell.key q.recent) (sym pinned)
    (c.turn_to.ensures.again is))
    kept (search rules) (search rules) (search rules)

pub returns-clause-has : goal.returns-clause-has
returns-clause-has g c = (
  λ _. (
    subst (λ (r : RecordState). LieInOneOf r c.args.square.now) c.of-picture.ensures
        (c.in-Some.ensures.one.0 refl),
    has_at c.args.known.now (left_top c.args.square.now) c.in-Some.cell
        c.args.pass.now.pinned.recent
        (subst (λ (r : RecordState). IsCellIn r (left_top c.args.square.now) c.in-Some.cell)
        c.of-picture.ensures c.in-Some.ensures.cell.is)
        ∙ subst (λ (s : PassState). has_cell c.in-Some.cell s.pinned.recent ≡ true)
        c.pass.view_is (sym c.turn_to.ensures.has ∙ c.if-not-turn_to.false),
  ),
  λ _. refl,
)
