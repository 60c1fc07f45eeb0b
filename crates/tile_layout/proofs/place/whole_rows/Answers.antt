use Rattle.std.proofs.Common.{◌≡◌, ◌%◌, arith, subst, sym, ℕ}
use Rattle.tiff_format.specs.Shown.{shown}
use Rattle.tile_layout.specs.WholeRows.{AreWholeRows, StandsWhole}
use Rattle.tile_layout.specs.Plane.{plane_level}
use Rattle.tile_layout.proofs.BlockLemmas.{sound}
use Rattle.tile_layout.proofs.WholeRowLemmas.{stands_whole}
use Rattle.tile_layout.proofs.place.whole_rows.Goals as goal

pub returns-then-rows_follow-clause-place : goal.returns-then-rows_follow-clause-place
returns-then-rows_follow-clause-place c =
    let level = plane_level (shown c.args.dir.now) c.args.plane in
    let rect = c.args.rect in
    let whole : AreWholeRows level rect = record {
      each = record {
        left = subst (λ (n : ℕ). rect.x % n ≡ 0) c.block_width-width.ensures.value
            c.if-rect-width-eq0.true;
        width = omega (arith, c.block_width-width.ensures.value, c.if-rect-width.true);
      };
      rows = c.rows_follow.ensures.value.0 c.if-rows_follow.true;
    } in
    subst (λ (at : ℕ). StandsWhole level rect at) (sym c.place.ensures)
    (stands_whole level rect (sound c.args.dir.now c.args.plane c.requires.plane)
    c.requires.on whole.each c.requires.some whole)
