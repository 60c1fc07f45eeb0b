-- What do the folder of the sample files and its taps count? They never fail and their files never
-- change, so their I/O errors and moves are always 0.
use Rattle.std.specs.Prelude.{false, string_bytes, option_map}
use Rattle.tex_world.specs.Folder.{FolderState}
use Rattle.tex_world.specs.MemFolder.{size_once_entered, names_once_entered}
use Rattle.tex_world.specs.Number.{number_in}
use Rattle.sample_folder.specs.Sample.{sample_count, sample_names}
use Rattle.tex_world.specs.Names.{name_at}
use Rattle.tex_world.specs.Tap.{TapState}
use Rattle.tex_world.specs.TapCounters.{counted}
use Rattle.sample_folder.specs.declared.sample_folder.SampleFolder.{SampleFolder}
use Rattle.sample_folder.specs.declared.sample_tap.SampleTap.{SampleTap}

-- the counts of a tap, and its last answer of a newest generation
abbrev pub sample_tap : SampleTap → TapState
sample_tap tap = counted tap.counters

-- the counts of the folder, which has all files once it is entered and none before
abbrev pub sample_folder : SampleFolder → FolderState
sample_folder folder = record {
  faults = 0;
  moves = 0;
  made = folder.made;
  returned = folder.returned;
  over = false;
  entered = option_map string_bytes folder.entered;
  size = size_once_entered sample_count folder.entered;
  number_of = number_in (names_once_entered sample_count (name_at sample_names) folder.entered);
}
