-- What is kept of the entries of a directory, and which faults do they have?
use Rattle.std.specs.Prelude.{◌≡◌, ℕ, ◌+◌, ◌*◌, ◌<◌, ◌≤◌, ◌==◌, ◌&&◌, nat_le, nat_lt}
use Rattle.std.specs.Prelude.{Bool, true, List, [], ◌∷◌, length, slice_index, slice_index_or}
use Rattle.std.specs.Prelude.{Option, Some, None, ⊤, if◌then◌else◌}
use Rattle.std.specs.Option.{option_or}
use Rattle.std.specs.List.{list_any}
use Rattle.tiff_format.specs.declared.form.Form.{Form}
use Rattle.tiff_entries.specs.declared.place.FilePlace.{FilePlace}
use Rattle.tiff_entries.specs.declared.tag.TheConstants.{TAGS}
use Rattle.tiff_entries.specs.declared.entry.Entry.{Entry}
use Rattle.tiff_entries.specs.declared.directory.Directory.{Directory}
use Rattle.tiff_format.specs.declared.fault.TiffFault.{TiffFault}
use Rattle.tiff_format.specs.DirectoryFault.{first_of, missing_fault, shape_fault}
use Rattle.tiff_format.specs.Bytes.{number_at}
use Rattle.tiff_format.specs.Form.{entry_bytes, offset_bytes, offset_at, value_field_at}
use Rattle.tiff_format.specs.Directory.{lies_inside, next_place}
use Rattle.tiff_format.specs.Field.{is_read, type_of, count_of, type_size}
use Rattle.tiff_format.specs.Field.{values_place, first_entry, field_place}

-- ---- an entry

-- an entry as it is kept agrees with the one at its place in the file
pub record IsEntry (bytes : List ℕ) (place : ℕ) (entry : Entry) : Type 0 where
  pub kind : entry.kind ≡ type_of entry.form bytes place
  pub count : entry.count ≡ count_of entry.form bytes place
  pub start : entry.start ≡ values_place entry.form bytes place
  pub inner : (k : ℕ) → k < offset_bytes entry.form
      → slice_index entry.inner k ≡ slice_index bytes (place + value_field_at entry.form + k)

-- the bytes per value
abbrev pub value_bytes : Entry → ℕ
value_bytes entry = type_size entry.form entry.kind

-- the bytes of all its values
abbrev pub entry_size : Entry → ℕ
entry_size entry = entry.count * value_bytes entry

-- the type is one that is read, there is at least one value, and the values lie in a file of this
-- length
abbrev pub is_shaped : ℕ → Entry → Bool
is_shaped file entry =
    is_read entry.form entry.kind
    && (nat_lt 0 entry.count && nat_le (entry.start + entry_size entry) file)

-- value k among the bytes of the values
abbrev pub part_value : Entry → List ℕ → ℕ → ℕ
part_value entry part k =
    number_at entry.form.big (value_bytes entry) part (value_bytes entry * k)

-- the bytes are those of these values
abbrev pub SpellValues : Entry → List ℕ → (ℕ → ℕ) → Type 0
SpellValues entry part value =
    (k : ℕ) → value_bytes entry * k + value_bytes entry ≤ length part
    → part_value entry part k ≡ value k

-- ---- the entries that were found

-- the tags that are read
abbrev pub tags : List ℕ
tags = TAGS

-- the number of tags
abbrev pub tag_count : ℕ
tag_count = 13

-- whether the tag is one of them
abbrev pub is_known : ℕ → Bool
is_known tag = list_any (λ t. tag == t) tags

-- an entry is kept if and only if there is one
abbrev pub IsKept : Form → List ℕ → Option Entry → Option ℕ → Type 0
IsKept form bytes None None = ⊤
IsKept form bytes (Some entry) (Some place) = (entry.form ≡ form) × IsEntry bytes place entry
IsKept form bytes None (Some place) = ⊥
IsKept form bytes (Some entry) None = ⊥

-- of the first n entries after a place, the first with each tag is kept at the tag's index
abbrev pub Covers : Form → List ℕ → ℕ → ℕ → List (Option Entry) → Type 0
Covers form bytes first n entries =
    (t : ℕ) → t < tag_count → IsKept form bytes (slice_index_or entries t None)
    (first_entry form (slice_index_or tags t 0) bytes first n)

-- of all entries of a directory, the first with each tag is kept at the tag's index
abbrev pub HasEntries : Form → List ℕ → ℕ → List (Option Entry) → Type 0
HasEntries form bytes at entries =
    (t : ℕ) → t < tag_count → IsKept form bytes (slice_index_or entries t None)
    (field_place form bytes at (slice_index_or tags t 0))

-- what is kept at a tag's index after one more entry
abbrev pub noted : ℕ → Entry → ℕ → Option Entry → Option Entry
noted tag entry t old = if tag == slice_index_or tags t 0 then option_or old (Some entry) else old

-- `more` entries from a place on were added, and this is the offset after them
pub record AddsBlock (place : FilePlace) (bytes : List ℕ) (more : ℕ) (old new : List (Option Entry))
    (offset : ℕ) : Type 0
  where
    pub covers : (first done : ℕ) → place.at ≡ first + entry_bytes place.form * done
        → Covers place.form bytes first done old → Covers place.form bytes first (done + more) new
    pub behind : offset ≡ offset_at place.form bytes (place.at + entry_bytes place.form * more)

-- ---- the directory

-- the place is that of the next directory, as this one names it; 0 if none exists
pub record IsLinkAt (form : Form) (bytes : List ℕ) (at : ℕ) (link : FilePlace) : Type 0 where
  pub same : link.form ≡ form
  pub inside : lies_inside form bytes at ≡ true
  pub next : link.at ≡ offset_at form bytes (next_place form bytes at)

-- the first n entries after a place are kept, with the place that the offset after them names
pub record AreEntriesAt (form : Form) (bytes : List ℕ) (first n : ℕ) (directory : Directory)
    : Type 0
  where
    pub covers : Covers form bytes first n directory.found.entries
    pub same : directory.next.form ≡ form
    pub next : directory.next.at ≡ offset_at form bytes (first + entry_bytes form * n)

-- what is kept of a directory before its fields are read
pub record IsDirectoryAt (form : Form) (bytes : List ℕ) (at : ℕ) (directory : Directory) : Type 0
  where
    pub link : IsLinkAt form bytes at directory.next
    pub entries : HasEntries form bytes at directory.found.entries

-- the faults 5 and 6 of a directory: a field is missing, or its values cannot be read
abbrev pub entries_fault : Form → List ℕ → ℕ → Option TiffFault
entries_fault form bytes at =
    first_of (missing_fault form bytes at ∷ shape_fault form bytes at ∷ [])
