-- What does a handle of a caller's file name?
use Rattle.tex_world.specs.Tap.{Named}
use Rattle.supplied_tap.specs.declared.handle.SuppliedHandle.{SuppliedHandle}

-- the file, the generation, and the file's length in that generation
abbrev pub handle_named : SuppliedHandle → Named
handle_named h = record { file = h.file; generation = h.generation; len = h.len }
