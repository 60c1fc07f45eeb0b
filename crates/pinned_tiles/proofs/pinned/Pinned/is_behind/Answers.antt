-- The second tile is the only other one.
use Rattle.std.proofs.Common.{◌≡◌, ◌&&◌, true, false, nat_eq, Some, None, IsTrue, sym, ap, subst}
use Rattle.std.proofs.Common.{◌∙◌}
use Rattle.std.specs.Prelude.{slice_get}
use Rattle.std.proofs.lemmas.Bool.{eqb-true}
use Rattle.tile_store.specs.Tile.{CachedTile}
use Rattle.micro.specs.Items.{AreItems}
use Rattle.pinned_tiles.specs.Pinned.{PinnedState, key_in}
use Rattle.pinned_tiles.specs.Cell.{has_cell, is_tile_of}
use Rattle.pinned_tiles.proofs.TurnLemmas.{behind, none_behind, there_behind}
use Rattle.pinned_tiles.proofs.pinned.Pinned.is_behind.Goals as goal

pub returns-then-eq-clause-value : goal.returns-then-eq-clause-value
returns-then-eq-clause-value g c =
    let cell = c.args.cell.now in
    let tiles = c.args.self.now.recent in
    let b : CachedTile = c.in-Some.recent.now in
    let e : c.self.inside.recent ≡ tiles = ap (λ (p : PinnedState). p.recent) c.self.view_is in
    let at : slice_get tiles 1 ≡ Some b =
    ap (λ l. slice_get l 1) (sym e) ∙ sym c.in-Some.ensures.value in
    let are : AreItems key_in tiles = subst (AreItems key_in) e c.has.ensures.valid in
    let key : nat_eq b.key cell.key ≡ true =
    ap (λ (t : CachedTile). nat_eq t.key cell.key) (sym c.tile.ensures.value)
    ∙ (ap (λ n. nat_eq n cell.key) (sym c.key.ensures.value) ∙ (sym c.eq.ensures ∙ c.if-eq.true)) in
    let is : has_cell cell tiles ≡ is_tile_of cell b =
    behind cell tiles b are c.requires at ∙ ap (λ t. t && is_tile_of cell b) key in
    let same : c.is_tile_of.result ≡ has_cell cell tiles =
    c.is_tile_of.ensures ∙ (ap (is_tile_of cell) c.tile-then-eq.ensures.value ∙ sym is) in
    (subst IsTrue same, subst IsTrue (sym same))

pub returns-then-eq-clause-has : goal.returns-then-eq-clause-has
returns-then-eq-clause-has g c = λ _.
    let cell = c.args.cell.now in
    let tiles = c.args.self.now.recent in
    let b : CachedTile = c.in-Some.recent.now in
    let e : c.self.inside.recent ≡ tiles = ap (λ (p : PinnedState). p.recent) c.self.view_is in
    let at : slice_get tiles 1 ≡ Some b =
    ap (λ l. slice_get l 1) (sym e) ∙ sym c.in-Some.ensures.value in
    let key : nat_eq b.key cell.key ≡ true =
    ap (λ (t : CachedTile). nat_eq t.key cell.key) (sym c.tile.ensures.value)
    ∙ (ap (λ n. nat_eq n cell.key) (sym c.key.ensures.value) ∙ (sym c.eq.ensures ∙ c.if-eq.true)) in
    there_behind cell.key tiles b at (eqb-true b.key cell.key key)

pub returns-else-eq-clause-value : goal.returns-else-eq-clause-value
returns-else-eq-clause-value g c =
    let cell = c.args.cell.now in
    let tiles = c.args.self.now.recent in
    let b : CachedTile = c.in-Some.recent.now in
    let e : c.self.inside.recent ≡ tiles = ap (λ (p : PinnedState). p.recent) c.self.view_is in
    let at : slice_get tiles 1 ≡ Some b =
    ap (λ l. slice_get l 1) (sym e) ∙ sym c.in-Some.ensures.value in
    let are : AreItems key_in tiles = subst (AreItems key_in) e c.has.ensures.valid in
    let key : nat_eq b.key cell.key ≡ false =
    ap (λ (t : CachedTile). nat_eq t.key cell.key) (sym c.tile.ensures.value)
    ∙ (ap (λ n. nat_eq n cell.key) (sym c.key.ensures.value) ∙ (sym c.eq.ensures ∙ c.if-eq.false)) in
    let is : has_cell cell tiles ≡ false =
    behind cell tiles b are c.requires at ∙ ap (λ t. t && is_tile_of cell b) key in
    let same : c.eq.result ≡ has_cell cell tiles = c.if-eq.false ∙ sym is in
    (subst IsTrue same, subst IsTrue (sym same))

pub returns-in-None-clause-value : goal.returns-in-None-clause-value
returns-in-None-clause-value g c =
    let cell = c.args.cell.now in
    let tiles = c.args.self.now.recent in
    let e : c.self.inside.recent ≡ tiles = ap (λ (p : PinnedState). p.recent) c.self.view_is in
    let at : slice_get tiles 1 ≡ None =
    ap (λ l. slice_get l 1) (sym e) ∙ sym c.in-None.ensures.value in
    let same : false ≡ has_cell cell tiles = sym (none_behind cell tiles c.requires at) in
    (subst IsTrue same, subst IsTrue (sym same))
