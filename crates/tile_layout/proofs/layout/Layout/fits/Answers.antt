use Rattle.std.proofs.Common.{ℕ, sym, subst, ◌∙◌, arith}
use Rattle.std.proofs.lemmas.Bool.{false≢true}
use Rattle.tile_layout.specs.Cell.{channels_in, CutLevel, cut_level_in, CellsFitOn}
use Rattle.tile_layout.specs.Grid.{shown_grid}
use Rattle.tile_layout.proofs.layout.Layout.fits.Goals as goal

pub returns-then-not-fits : goal.returns-then-not-fits
returns-then-not-fits c = record {
  value = (
    λ no. absurd (false≢true no),
    λ fit.
        let file = c.args.self.now in
        let level = c.loop-level.level in
        let here : CellsFitOn (channels_in file) (cut_level_in file c.args.cut level) =
        fit level (omega (arith, c.levels-level-end.ensures.value, c.loop-level-test.true)) in
        let on_grid : CellsFitOn (channels_in file) (shown_grid c.grid.result) =
        subst (λ (l : CutLevel). CellsFitOn (channels_in file) l) (sym c.grid.ensures.value) here in
        sym c.if-not-fits.true
        ∙ c.fits.ensures.1
        (subst (λ (n : ℕ). CellsFitOn n (shown_grid c.grid.result))
        (sym c.channels-channels.ensures.first) on_grid),
  );
}
