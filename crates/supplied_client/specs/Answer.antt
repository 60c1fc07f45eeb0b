-- What does an answer to C say about an error, and about what the call needs?
use Rattle.std.specs.Prelude.{◌≡◌, ℕ}
use Rattle.tiff_format.specs.Fault.{code_of}
use Rattle.tiff_format.specs.declared.fault.TiffFault.{TiffFault}
use Rattle.tiff_format.specs.declared.fault.TiffFault.TheVariants as fault
use Rattle.tile_source.specs.declared.error.CacheError.{CacheError}
use Rattle.tile_source.specs.declared.error.CacheError.TheVariants as refused
use Rattle.supplied_client.specs.declared.answer.TexAnswer.{TexAnswer}
use Rattle.supplied_tap.specs.declared.supply.Need.{Need}
use Rattle.supplied_tap.specs.declared.supply.Need.TheVariants.{Look, Bytes, Rows}

-- an answer with all fields 0
abbrev pub blank : TexAnswer
blank = record {
  generation = 0;
  newer = 0;
  detail = 0;
  part = 0;
  value = 0;
  channels = 0;
  need = 0;
  need_file = 0;
  need_generation = 0;
  need_at = 0;
  need_least = 0;
  need_most = 0;
  need_stride = 0;
  need_row = 0;
}

-- an answer that names this generation
abbrev pub of_generation : ℕ → TexAnswer
of_generation generation = record blank { generation = generation }

-- ---- errors

-- the tag or the level that a file fault names
abbrev pub part_of : TiffFault → ℕ
part_of (fault.FieldMissing tag) = tag
part_of (fault.FieldShape tag) = tag
part_of (fault.Unsupported tag value) = tag
part_of (fault.DataOutside level index) = level
part_of f = 0

-- the value or the index that a file fault names
abbrev pub value_of : TiffFault → ℕ
value_of (fault.Unsupported tag value) = value
value_of (fault.DataOutside level index) = index
value_of f = 0

-- the fields that go with a file fault
abbrev pub answer_of_fault : ℕ → TiffFault → TexAnswer
answer_of_fault generation f = record blank {
  generation = generation;
  detail = code_of f;
  part = part_of f;
  value = value_of f;
}

-- the fields that go with an error
abbrev pub of_refusal : {B : Type 0} → CacheError B → TexAnswer
of_refusal (refused.BadFile generation f) = answer_of_fault generation f
of_refusal (refused.TileTooLarge generation) = of_generation generation
of_refusal (refused.NoLevel generation levels) =
    record blank { generation = generation; detail = levels }
of_refusal (refused.Outside generation) = of_generation generation
of_refusal (refused.Again from to) = record blank { generation = from; newer = to }
of_refusal e = blank

-- ---- what a call needs

-- The answer names what the call needs: a freshness check of a file that shows at least this
-- generation, bytes of one generation from a place on, or rows of it.
abbrev pub SaysNeed : TexAnswer → Need → Type 0
SaysNeed a (Look file least) = (a.need ≡ 1) × (a.need_file ≡ file) × (a.need_generation ≡ least)
SaysNeed a (Bytes file generation at least most) = (a.need ≡ 2) × (a.need_file ≡ file)
    × (a.need_generation ≡ generation) × (a.need_at ≡ at) × (a.need_least ≡ least)
    × (a.need_most ≡ most)
SaysNeed a (Rows rows size) = (a.need ≡ 3) × (a.need_file ≡ rows.file)
    × (a.need_generation ≡ rows.generation) × (a.need_at ≡ rows.at) × (a.need_least ≡ size)
    × (a.need_most ≡ size) × (a.need_stride ≡ rows.stride) × (a.need_row ≡ rows.row)
