-- What does a handle in memory name?
use Rattle.tex_world.specs.Tap.{Named}
use Rattle.tex_world.specs.declared.mem_handle.MemHandle.{MemHandle}

-- the file, the generation and the length
abbrev pub handle_named : {T : Type 0} {table : _} → MemHandle T table → Named
handle_named handle = record {
  file = handle.file;
  generation = handle.generation;
  len = handle.len;
}
