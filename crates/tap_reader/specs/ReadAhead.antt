-- How do contracts see a file's read-ahead?
use Rattle.std.specs.Prelude.{◌≡◌, ℕ, ◌≤◌, List, [], length, sum_by, Vec}
use Rattle.std.specs.Global.{Global}
use Rattle.std.specs.Arc.{arc_value}
use Rattle.std.specs.List.{All}
use Rattle.std.specs.Option.{ForSome, option_map_or}
use Rattle.tex_world.specs.World.{Files}
use Rattle.tiff_format.specs.Bytes.{IsPartAt}
use Rattle.tex_world.specs.Tap.{HoldsRows}
use Rattle.tap_reader.specs.declared.rows.Rows.{Rows}
use Rattle.tap_reader.specs.declared.stretch.Stretch.{Stretch}

-- the most bytes of read-ahead that are kept for one file: 4 MiB
abbrev pub max_ahead_bytes : ℕ
max_ahead_bytes = 4194304

-- the file and the generation of the bytes, and their number
pub record AheadState : Type 0 where
  pub file : ℕ
  pub generation : ℕ
  pub count : ℕ

-- the bytes are of this generation of this file
pub record IsOf (file generation : ℕ) (ahead : AheadState) : Type 0 where
  pub of_file : ahead.file ≡ file
  pub of_generation : ahead.generation ≡ generation

-- if the world is modelled, a generation of a file has these bytes at this place
abbrev pub StandAt : Files → ℕ → ℕ → ℕ → List ℕ → Type 0
StandAt files file generation at part =
    ForSome (files.held file generation) (λ bytes. IsPartAt bytes at part)

-- these are the bytes of such rows, as far as they go
abbrev pub AreRowsOf : List ℕ → Rows → List ℕ → Type 0
AreRowsOf bytes rows part = HoldsRows bytes rows.at rows.stride rows.row part

-- if the world is modelled, these are the bytes of rows of a generation of a file
abbrev pub StandAsRows : Files → ℕ → ℕ → Rows → List ℕ → Type 0
StandAsRows files file generation rows part =
    ForSome (files.held file generation) (λ bytes. AreRowsOf bytes rows part)

-- the bytes of a stretch, which may be shared
abbrev pub held_in : Stretch → List ℕ
held_in stretch = option_map_or (λ b. (arc_value {X = Vec ℕ Global} b).items) stretch.bytes []

-- the number of bytes in all stretches
abbrev pub bytes_of : List Stretch → ℕ
bytes_of stretches = sum_by (λ s. length (held_in s)) stretches

-- if the world is modelled, each stretch has bytes of this generation of the file
abbrev pub AreStretchesOf : Files → ℕ → ℕ → List Stretch → Type 0
AreStretchesOf files file generation stretches =
    All (λ s. StandAsRows files file generation s.rows (held_in s)) stretches

-- The stretches together have no more bytes than may be kept. If the world is modelled, the bytes
-- are those of the file.
pub record AreAhead (files : Files) (file generation : ℕ) (stretches : List Stretch) : Type 0 where
  pub few : bytes_of stretches ≤ max_ahead_bytes
  pub told : AreStretchesOf files file generation stretches
