-- What is the text of an answer? (docs/REQUESTS.md, "The answer lines")
use Rattle.std.specs.Prelude.{ℕ, codes, List, [], ◌∷◌, ◌++◌}
use Rattle.std.specs.List.{flat_map}
use Rattle.tiff_format.specs.Fault.{code_of}
use Rattle.tiff_format.specs.declared.fault.TiffFault.{TiffFault}
use Rattle.tiff_format.specs.declared.fault.TiffFault.TheVariants.{FieldMissing, FieldShape}
use Rattle.tiff_format.specs.declared.fault.TiffFault.TheVariants.{Unsupported, DataOutside}
use Rattle.tiff_format.specs.declared.info.Info as layout
use Rattle.tiff_format.specs.declared.rect.Rect.{Rect}
use Rattle.tiff_format.specs.declared.shard_count.ShardCount.{ShardCount}
use Rattle.request_lang.specs.declared.cause.BadList.{BadList}
use Rattle.short_text.specs.Number.{fields, numbers_behind}
use Rattle.request_lang.specs.Grammar.{line_feed}
use Rattle.request_lang.specs.declared.answer.Answer.{Answer}
use Rattle.request_lang.specs.declared.answer.Answer.TheVariants.{Tex, Texd, Pixels, Info, Held}
use Rattle.request_lang.specs.declared.answer.Answer.TheVariants.{Dropped, Invalidated, Renewed}
use Rattle.request_lang.specs.declared.answer.Answer.TheVariants.{InvalidatedAll, Stat, Synced}
use Rattle.request_lang.specs.declared.answer.Answer.TheVariants.{NoSuchFile, BadFile, TileTooLarge}
use Rattle.request_lang.specs.declared.answer.Answer.TheVariants.{NoLevel, Outside, RegionTooLarge}
use Rattle.request_lang.specs.declared.answer.Answer.TheVariants.{HoldsFull, NothingHeld, Again}
use Rattle.request_lang.specs.declared.answer.Answer.TheVariants.{ReadFault, NoMemory}

-- ---- parts of a line

-- the numbers that belong to a fault
abbrev pub own_numbers : TiffFault → List ℕ
own_numbers (FieldMissing tag) = tag ∷ []
own_numbers (FieldShape tag) = tag ∷ []
own_numbers (Unsupported tag value) = tag ∷ value ∷ []
own_numbers (DataOutside level index) = level ∷ index ∷ []
own_numbers _ = []

-- the numbers of a fault: its place in the order of faults, and then its own
abbrev pub fault_numbers : TiffFault → List ℕ
fault_numbers fault = code_of fault ∷ own_numbers fault

-- the numbers that describe a file
abbrev pub info_numbers : layout.Info → List ℕ
info_numbers i =
    i.generation ∷ i.width ∷ i.height ∷ i.channels ∷ i.depth ∷ i.stored ∷ i.levels ∷ []

-- the numbers of a rectangle
abbrev pub rect_numbers : Rect → List ℕ
rect_numbers rect = rect.x ∷ rect.y ∷ rect.w ∷ rect.h ∷ []

-- the byte between the numbers of a shard
abbrev pub comma : ℕ
comma = 44

-- the counts of a shard: the first after a space, the others after commas
abbrev pub shard_text : ShardCount → List ℕ
shard_text shard =
    fields (shard.tiles ∷ []) ++ numbers_behind comma (shard.pins ∷ shard.loose ∷ shard.share ∷ [])

-- ---- a line

-- the 16-bit values at the end of a line, if it has any
abbrev pub values_in : Answer → List ℕ
values_in (Tex generation values) = values
values_in (Texd generation values) = values
values_in (Pixels generation channels values) = values
values_in _ = []

-- The line of an answer up to these values.
unfoldable pub head_of : Answer → List ℕ
head_of (Tex generation values) = codes "tex" ++ fields (generation ∷ [])
head_of (Texd generation values) = codes "texd" ++ fields (generation ∷ [])
head_of (Pixels generation channels values) =
    codes "pixels" ++ fields (generation ∷ channels ∷ [])
head_of (Info info) = codes "info" ++ fields (info_numbers info)
head_of (Held generation rect) = codes "held" ++ fields (generation ∷ rect_numbers rect)
head_of Dropped = codes "dropped"
head_of (Invalidated generation) = codes "invalidated" ++ fields (generation ∷ [])
head_of (Renewed generation) = codes "renewed" ++ fields (generation ∷ [])
head_of InvalidatedAll = codes "invalidated all"
head_of (Stat shards) = codes "stat" ++ flat_map shard_text shards
head_of Synced = codes "sync"
head_of NoSuchFile = codes "no such file"
head_of (BadFile generation fault) = codes "bad file" ++ fields (generation ∷ fault_numbers fault)
head_of (TileTooLarge generation) = codes "tile too large" ++ fields (generation ∷ [])
head_of (NoLevel generation levels) = codes "no level" ++ fields (generation ∷ levels ∷ [])
head_of (Outside generation) = codes "outside" ++ fields (generation ∷ [])
head_of RegionTooLarge = codes "region too large"
head_of HoldsFull = codes "holds full"
head_of NothingHeld = codes "nothing held"
head_of (Again from to) = codes "again" ++ fields (from ∷ to ∷ [])
head_of ReadFault = codes "read fault"
head_of NoMemory = codes "no memory"

-- The line of an answer, without its line feed.
abbrev pub text_of : Answer → List ℕ
text_of answer = head_of answer ++ fields (values_in answer)

-- The line with its line feed.
abbrev pub line_of : Answer → List ℕ
line_of answer = text_of answer ++ line_feed ∷ []

-- The line that says why a list is invalid, with its line feed: the number of the line, or 0 for
-- the whole list, and the cause.
abbrev pub bad_list_line : BadList → List ℕ
bad_list_line bad = codes "bad list" ++ fields (bad.line ∷ bad.why ∷ []) ++ line_feed ∷ []
