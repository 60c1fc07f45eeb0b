-- When do the places of samples fit their format?
use Rattle.std.specs.Prelude.{◌≢◌, ◌≤◌}
use Rattle.tile_layout.specs.declared.texel_format.TexelFormat.{TexelFormat}
use Rattle.piece_samples.specs.declared.places.Places.{Places}

-- if there are several planes, the format is that of a single one
abbrev pub FitsPlaces : Places → TexelFormat → Type 0
FitsPlaces places format = places.step ≢ 1 → format.invert ≤ 1
