-- Which levels has a file under a cut, how large are they, and which values have their texels?
-- (docs/FILTERING.md)
use Rattle.std.specs.Prelude.{Option, Result, Ok, Err}
use Rattle.std.specs.Option.{option_map}
use Rattle.tex_world.specs.World.{Files}
use Rattle.tiff_format.specs.declared.fault.TiffFault.{TiffFault}
use Rattle.tiff_format.specs.declared.cut.Cut.{Cut}
use Rattle.tile_layout.specs.Kept.{Kept}
use Rattle.tile_layout.specs.Level.{width_in, height_in, level_count_in}
use Rattle.tile_layout.specs.Value.{channel_value_of}
use Rattle.file_table.specs.Record.{RecordState}
use Rattle.texel_filter.specs.Image.{Sizes, Values}

-- the levels and their sizes, from what the cache keeps of a file
abbrev pub sizes_in : Kept → Cut → Sizes
sizes_in file cut = record {
  levels = level_count_in file cut.automip;
  width = width_in file;
  height = height_in file;
}

-- the sizes of a file with a fault, which is never looked up
abbrev pub no_sizes : Sizes
no_sizes = record { levels = 1; width = λ l. 1; height = λ l. 1 }

abbrev pub sizes_by : Cut → Result Kept TiffFault → Sizes
sizes_by cut (Ok kept) = sizes_in kept cut
sizes_by cut (Err fault) = no_sizes

-- the levels of a record, and their sizes
abbrev pub sizes_known : RecordState → Sizes
sizes_known state = sizes_by state.cut state.layout

-- the values of the record's texels, if the world is modelled
abbrev pub values_known : Files → RecordState → Option Values
values_known files state = option_map channel_value_of (files.held state.file state.generation)
