-- Which share and which cut does the tag of a shard encode?
use Rattle.std.specs.Prelude.{ℕ, ◌+◌, ◌*◌, ◌/◌, ◌%◌, ◌==◌, if◌then◌else◌}
use Rattle.tiff_format.specs.declared.cut.Cut.{Cut}
use Rattle.tiff_format.specs.Cut.{autotile_step}

-- the number of tags per share
abbrev pub share_step : ℕ
share_step = 1024

-- the tag of a share and a cut
unfoldable pub tag_of : ℕ → Cut → ℕ
tag_of share cut =
    share_step * share + 2 * (cut.autotile / autotile_step) + (if cut.automip then 1 else 0)

-- the bytes that the unpinned tiles of a shard with this tag may take
unfoldable pub share_in_tag : ℕ → ℕ
share_in_tag tag = tag / share_step

-- the cut of the levels that its tiles belong to
unfoldable pub cut_of : ℕ → Cut
cut_of tag = record {
  autotile = autotile_step * (tag % share_step / 2);
  automip = tag % 2 == 1;
}
