use Rattle.std.proofs.Common.{◌≡◌, length}
use Rattle.rect_read.specs.RectSamples.{samples_of}
use Rattle.tile_load.specs.CellSamples.{most_of, sample_bits}
use Rattle.tile_load.specs.PartPlace.{HalvesRows}
use Rattle.tile_load.proofs.halve_part.halve_part.Given as goal

abbrev pub invariant-loop-j : goal.invariant-loop-j
invariant-loop-j g l =
    record {
      halves : HalvesRows l.place.part l.place.cell l.place.channels l.tile.texels
          (most_of l.fn.samples) 0 l.j (samples_of l.fn.samples) (samples_of l.samples);
      depth : sample_bits l.samples ≡ sample_bits l.fn.samples;
      room : length l.scratch ≡ length l.fn.scratch;
    }
