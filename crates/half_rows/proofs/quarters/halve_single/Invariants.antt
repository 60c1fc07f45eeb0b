use Rattle.std.proofs.Common.{◌≡◌, ℕ, ◌<◌, length, slice_index}
use Rattle.tile_store.specs.SampleRow.{top_of, bottom_of}
use Rattle.half_rows.specs.Quarters.{row_average}
use Rattle.half_rows.proofs.quarters.halve_single.Given as goal

abbrev pub invariant-loop-c : goal.invariant-loop-c
invariant-loop-c l =
    record {
      long : length l.out ≡ length l.fn.out;
      each : (c : ℕ) → c < l.c → slice_index l.out c
          ≡ row_average l.channels (top_of l.rows) (bottom_of l.rows) 0 0 c;
    }
