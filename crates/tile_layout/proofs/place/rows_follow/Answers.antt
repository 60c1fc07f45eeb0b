use Rattle.std.proofs.Common.{◌≡◌, ℕ, ◌+◌, ◌-◌, ◌%◌, ◌<◌, arith, inl, inr, refl, subst}
use Rattle.std.proofs.lemmas.Bool.{cases_lt}
use Rattle.std.proofs.lemmas.Nat.{mod_below}
use Rattle.tiff_format.specs.Shown.{shown, shown_shape}
use Rattle.tile_layout.specs.WholeRows.{block_rows, RowFollows}
use Rattle.tile_layout.specs.Plane.{plane_level}
use Rattle.tile_layout.proofs.PlaneBlocks.{each_of}
use Rattle.tile_layout.proofs.BlockLemmas.{sound}
use Rattle.tile_layout.proofs.WholeRowLemmas.{follows_in_block, next_block, block_behind}
use Rattle.tile_layout.proofs.place.rows_follow.Goals as goal

pub below-init : goal.below-init
below-init c =
    let dir = c.args.dir.now in
    let rect = c.args.rect in
    let rows = c.block_rows-rows.result in
    let is = c.block_rows-rows.ensures.value in
    let some = c.block_rows-rows.ensures.some in
    record {
      some = omega (arith, mod_below rect.y rows some);
      first = λ lt.
          subst (λ (n : ℕ). (rect.y + (rows - rect.y % rows)) % n ≡ 0) is
          (next_block rect.y rows some);
      follow = λ j down on.
          follows_in_block (plane_level (shown dir) c.args.plane) rect
          (sound dir c.args.plane c.requires.plane) c.requires.on
          (each_of (shown_shape c.args.dir.now) c.args.plane c.args.rect c.requires.each) rect.y j j refl
          (subst (λ (n : ℕ). rect.y % n + (j + 1) < n) is (omega (arith, down)));
    }

pub below-preserved : goal.below-preserved
below-preserved c =
    let dir = c.args.dir.now in
    let rect = c.args.rect in
    let rows = block_rows (shown_shape dir) in
    let is = c.block_rows-rows.ensures.value in
    let some = c.block_rows-rows.ensures.some in
    let row = c.below.row in
    let before = c.below.invariant in
    let next = c.saturating_add-row.ensures in
    let first : (rect.y + row) % rows ≡ 0 = before.first c.below-test.true in
    record {
      some = omega (arith, next, before.some);
      first = λ lt.
          let at : rect.y + c.saturating_add-row.result ≡ rect.y + row + rows =
          omega (arith, next, lt, is, c.requires.on.down, dir.shape_in.height.high) in
          rw at (block_behind (rect.y + row) rows (omega (arith, is, some)) first);
      follow = λ j down on.
          elim (cases_lt (j + 1) row) [
            | inl lt ↦ before.follow j lt on
            | inr ge ↦ elim (cases_lt j row) [
              | inl last ↦
                  let at : row - 1 ≡ j = omega (arith, ge, last) in
                  subst (λ (k : ℕ). RowFollows (plane_level (shown dir) c.args.plane) rect k) at
                  (c.row_follows.ensures.value.0 c.if-not-row_follows.false)
              | inr behind ↦
                  follows_in_block (plane_level (shown dir) c.args.plane) rect
                  (sound dir c.args.plane c.requires.plane) c.requires.on
                  (each_of (shown_shape c.args.dir.now) c.args.plane c.args.rect c.requires.each)
                  (rect.y + row) (j - row) j (omega (arith, behind))
                  (omega (arith, first, down, next, is, behind))
            ]
          ];
    }
