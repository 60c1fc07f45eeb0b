-- What has been written when a status is returned?
use Rattle.std.specs.Prelude.{◌≡◌, ◌⊎◌, ℕ, ◌≤◌, List}
use Rattle.tex_world.specs.Counts.{Rises}
use Rattle.tex_world.specs.Stream.{Appends, AppendsPart}
use Rattle.tex_make.specs.Sink.{SinkState}
use Rattle.tex_make.specs.Status as status

-- the texture was written
pub record IsWritten (texture : List ℕ) (old new : SinkState) : Type 0 where
  pub written : Appends texture old.holds new.holds
  pub faults : old.faults ≤ new.faults

-- the output failed after a first part of the texture
pub record IsCut (texture : List ℕ) (old new : SinkState) : Type 0 where
  pub part : AppendsPart texture old.holds new.holds
  pub failed : Rises old.faults new.faults

-- one of the two, or memory ran out and nothing was written
abbrev pub PutsPicture : List ℕ → SinkState → SinkState → ℕ → Type 0
PutsPicture texture old new ends =
    ((ends ≡ status.made) × IsWritten texture old new)
    ⊎ (((ends ≡ status.not_written) × IsCut texture old new)
    ⊎ ((ends ≡ status.no_memory) × (new ≡ old)))
