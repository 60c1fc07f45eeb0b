-- Which version of a file is known after a look at it?
use Rattle.std.specs.Prelude.{◌≡◌, ◌⊎◌, ℕ, ◌+◌, ◌==◌, nat_le, nat_lt, ◌&&◌, Bool, true, false}
use Rattle.std.specs.Prelude.{Option, Some, None, if◌then◌else◌}
use Rattle.tex_world.specs.World.{last_generation}
use Rattle.file_stamp.specs.declared.version.FileStamp.{FileStamp}
use Rattle.file_stamp.specs.declared.version.FileVersion.{FileVersion}

-- two looks found the same file, which nobody has written to between them
abbrev pub are_same : FileStamp → FileStamp → Bool
are_same one other =
    (one.device == other.device) && (one.inode == other.inode) && (one.size == other.size)
    && (one.modified == other.modified) && (one.changed == other.changed)

-- the file was looked at before, and this look finds the same version
abbrev pub is_of : FileVersion → FileStamp → Bool
is_of known seen = nat_lt 0 known.generation && are_same known.stamp seen

-- The version after a look: the known one if the look finds it, otherwise the next generation;
-- `None` after the last generation.
abbrev pub version_after : FileVersion → FileStamp → Option FileVersion
version_after known seen =
    if is_of known seen then Some known
    else (if nat_le last_generation known.generation then None
    else Some (record { generation = known.generation + 1; stamp = seen }))

-- What a look says, and the version that is known behind it: 0 the known one, 1 a newer one, 2 none,
-- because the generations are used up.
pub record SaysVersion (seen : FileStamp) (code : ℕ) (old new : FileVersion) : Type 0 where
  pub one : (code ≡ 0) ⊎ ((code ≡ 1) ⊎ (code ≡ 2))
  pub known : code ≡ 0 → (is_of old seen ≡ true) × (new ≡ old)
  pub newer : code ≡ 1 → (is_of old seen ≡ false) × (version_after old seen ≡ Some new)
  pub used_up : code ≡ 2 → (version_after old seen ≡ None) × (new ≡ old)

-- The generation of an open file, whose descriptor has this stamp; 0 if it is not the known version.
abbrev pub opened_at : FileVersion → FileStamp → ℕ
opened_at known seen = if is_of known seen then known.generation else 0

-- Bytes answer a need of this generation if the file was opened in it, and a look after the reading
-- still finds it.
abbrev pub may_answer : FileVersion → ℕ → ℕ → Bool
may_answer known opened needed =
    nat_lt 0 needed && (opened == needed) && (known.generation == needed)
