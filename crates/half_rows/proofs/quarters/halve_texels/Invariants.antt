use Rattle.std.proofs.Common.{◌≡◌, ℕ, ◌+◌, ◌*◌, ◌<◌, length}
use Rattle.tile_store.specs.SampleRow.{top_of, bottom_of}
use Rattle.half_rows.specs.Quarters.{row_sample, row_average}
use Rattle.half_rows.proofs.quarters.halve_texels.Given as goal

abbrev pub invariant-loop-i : goal.invariant-loop-i
invariant-loop-i l =
    record {
      long : length l.out ≡ length l.fn.out;
      each : (i c : ℕ) → i < l.i → c < l.channels → row_sample l.channels l.out i c
          ≡ row_average l.channels (top_of l.rows) (bottom_of l.rows) (2 * i) (2 * i + 1) c;
    }
