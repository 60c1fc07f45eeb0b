-- What does an open file of a real folder name?
use Rattle.tex_world.specs.Tap.{Named}
use Rattle.host_folder.specs.declared.handle.RealHandle.{RealHandle}

-- the file, the generation, and the length seen in that generation
abbrev pub handle_named : RealHandle → Named
handle_named h = record { file = h.file; generation = h.generation; len = h.look.len }
