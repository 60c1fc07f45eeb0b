-- Which part of a row holds a texel of a record, and which samples has the texel?
use Rattle.std.specs.Prelude.{ℕ, ◌/◌, List}
use Rattle.tex_world.specs.World.{Files}
use Rattle.file_table.specs.Record.{RecordState}
use Rattle.texel_values.specs.declared.texel_at.TexelAt.{TexelAt}
use Rattle.tile_slots.specs.declared.part_key.PartKey.{PartKey}
use Rattle.tile_slots.specs.RowPart.{part_texels, AreToldAt}

-- the part of its row that holds the texel
abbrev pub part_at : RecordState → TexelAt → PartKey
part_at state at = record {
  generation = state.generation;
  file = state.file;
  level = at.level;
  part = at.x / part_texels;
  row = at.y;
}

-- if the world is modelled, these are the samples of the texel in the record's generation
abbrev pub AreSamplesAt : Files → RecordState → TexelAt → List ℕ → Type 0
AreSamplesAt files state at samples = AreToldAt files (part_at state at) at.x samples
