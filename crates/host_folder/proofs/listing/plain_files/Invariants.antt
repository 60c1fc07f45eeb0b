use Rattle.std.proofs.Common.{◌≤◌, length}
use Rattle.tex_world.specs.World.{max_files}
use Rattle.host_folder.proofs.listing.plain_files.Given as goal

abbrev pub invariant-loop-entry : goal.invariant-loop-entry
invariant-loop-entry g l = length l.files.items ≤ max_files
