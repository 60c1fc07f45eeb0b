use Rattle.std.proofs.Common.{ℕ, ◌<◌}
use Rattle.tile_layout.specs.Cell.{channels_in, cut_level_in, CellsFitOn}
use Rattle.tile_layout.proofs.layout.Layout.fits.Given as goal

abbrev pub invariant-loop-level : goal.invariant-loop-level
invariant-loop-level l =
    (k : ℕ) → k < l.level → CellsFitOn (channels_in l.self) (cut_level_in l.self l.cut k)
