-- What are the size and the levels of a file?
use Rattle.std.specs.Prelude.{ℕ}
use Rattle.tiff_format.specs.declared.cut.Cut.{Cut}
use Rattle.tiff_format.specs.declared.info.Info.{Info}
use Rattle.tile_layout.specs.Kept.{Kept, stored_count}
use Rattle.tile_layout.specs.Level.{width_in, height_in, level_count_in}
use Rattle.tile_layout.specs.Cell.{channels_in, bit_depth_in}

-- the width and height of level 0, the samples and their bits, the number of stored levels, and the
-- number of levels under the cut
abbrev pub info_of : ℕ → Kept → Cut → Info
info_of generation kept cut = record {
  generation = generation;
  width = width_in kept 0;
  height = height_in kept 0;
  channels = channels_in kept;
  depth = bit_depth_in kept;
  stored = stored_count kept;
  levels = level_count_in kept cut.automip;
}
