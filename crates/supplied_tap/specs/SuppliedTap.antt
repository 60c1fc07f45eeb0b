-- What does a tap with supplied bytes count, and what was supplied to it?
use Rattle.std.specs.Prelude.{◌≡◌, ℕ, ◌+◌, ◌-◌, ◌<◌, ◌≤◌, true, false, None, Some, IsSomeAnd}
use Rattle.std.specs.Prelude.{List, [], ◌∷◌, ◌++◌, length, slice_get}
use Rattle.tex_world.specs.Tap.{Named, TapState}
use Rattle.tex_world.specs.TapCounters.{counted}
use Rattle.tex_world.specs.declared.fault.ReadError.{ReadError}
use Rattle.tex_world.specs.declared.fault.ReadError.TheVariants as reading
use Rattle.supplied_tap.specs.declared.supply.Need.{Need}
use Rattle.supplied_tap.specs.declared.supply.Need.TheVariants.{Bytes}
use Rattle.supplied_tap.specs.declared.supply.FileVersion.{FileVersion}
use Rattle.supplied_tap.specs.declared.supply.SuppliedBytes.{SuppliedBytes}
use Rattle.supplied_tap.specs.declared.supply.RowsAt.{RowsAt}
use Rattle.supplied_tap.specs.declared.supply.SuppliedRows.{SuppliedRows}
use Rattle.supplied_tap.specs.declared.supply.Seen.{Seen}
use Rattle.supplied_tap.specs.declared.tap.SuppliedTap.{SuppliedTap}

-- the counts, and the last answer of a newest generation
abbrev pub tap_state : SuppliedTap → TapState
tap_state tap = counted tap.counters

-- the freshness checks that were supplied for the current call, or kept from a handle
abbrev pub looks_of : SuppliedTap → List FileVersion
looks_of tap = tap.looks.items

-- the parts that were supplied for the current call
abbrev pub parts_of : SuppliedTap → List SuppliedBytes
parts_of tap = tap.parts.items

-- the rows that were supplied for the current call
abbrev pub rows_of : SuppliedTap → List SuppliedRows
rows_of tap = tap.rows.items

-- The supplied bytes and rows are unchanged, and so is whether the caller said that something
-- cannot be read.
pub record KeepsBytes (old new : SuppliedTap) : Type 0 where
  pub parts : parts_of new ≡ parts_of old
  pub rows : rows_of new ≡ rows_of old
  pub failed : new.failed ≡ old.failed

-- All that was supplied is unchanged.
pub record KeepsSupplies (old new : SuppliedTap) : Type 0 where
  pub looks : looks_of new ≡ looks_of old
  pub bytes : KeepsBytes old new

-- What was supplied, what is needed and the counts are unchanged.
pub record KeepsTap (old new : SuppliedTap) : Type 0 where
  pub state : tap_state new ≡ tap_state old
  pub need : new.need ≡ old.need
  pub supplies : KeepsSupplies old new

-- Nothing is needed, and nothing is supplied.
pub record HasNoSupplies (tap : SuppliedTap) : Type 0 where
  pub need : tap.need ≡ None
  pub failed : tap.failed ≡ false
  pub looks : looks_of tap ≡ []
  pub parts : parts_of tap ≡ []
  pub rows : rows_of tap ≡ []

-- ---- supplies that are taken

-- A freshness check was supplied. It is kept behind the earlier ones, and nothing is needed now.
pub record TakesLook (file generation len : ℕ) (old new : SuppliedTap) : Type 0 where
  pub look : FileVersion
  pub added : looks_of new ≡ looks_of old ++ look ∷ []
  pub of_file : look.file ≡ file
  pub of_generation : look.generation ≡ generation
  pub long : look.len ≡ len
  pub need : new.need ≡ None
  pub state : tap_state new ≡ tap_state old
  pub bytes : KeepsBytes old new

-- the look has these numbers
abbrev pub IsLookOf : FileVersion → Seen → Type 0
IsLookOf look seen = (look.file ≡ seen.file) × (look.generation ≡ seen.generation)
    × (look.len ≡ seen.len)

-- the look has the numbers of the first of these
abbrev pub IsFirstOf : List Seen → FileVersion → Type 0
IsFirstOf seen look = IsSomeAnd (slice_get seen 0) (IsLookOf look)

-- Some looks were added behind the earlier ones.
pub record Extends (old new : List FileVersion) : Type 0 where
  pub more : List FileVersion
  pub added : new ≡ old ++ more

-- Freshness checks of several files were supplied. The first is kept behind the earlier ones, some
-- of the others follow, and nothing is needed now.
pub record TakesLooks (seen : List Seen) (old new : SuppliedTap) : Type 0 where
  pub look : FileVersion
  pub more : List FileVersion
  pub added : looks_of new ≡ (looks_of old ++ look ∷ []) ++ more
  pub first : IsFirstOf seen look
  pub need : new.need ≡ None
  pub state : tap_state new ≡ tap_state old
  pub bytes : KeepsBytes old new

-- Bytes were supplied. They are kept behind the earlier ones, and nothing is needed now.
pub record TakesBytes (file generation at : ℕ) (bytes : List ℕ) (old new : SuppliedTap)
    : Type 0 where
  pub part : SuppliedBytes
  pub added : parts_of new ≡ parts_of old ++ part ∷ []
  pub of_file : part.file ≡ file
  pub of_generation : part.generation ≡ generation
  pub from : part.at ≡ at
  pub are : part.bytes.items ≡ bytes
  pub need : new.need ≡ None
  pub state : tap_state new ≡ tap_state old
  pub looks : looks_of new ≡ looks_of old
  pub rows : rows_of new ≡ rows_of old
  pub failed : new.failed ≡ old.failed

-- Rows were supplied. They are kept behind the earlier ones, and nothing is needed now.
pub record TakesRows (place : RowsAt) (bytes : List ℕ) (old new : SuppliedTap) : Type 0 where
  pub part : SuppliedRows
  pub added : rows_of new ≡ rows_of old ++ part ∷ []
  pub of_place : part.place ≡ place
  pub are : part.bytes.items ≡ bytes
  pub need : new.need ≡ None
  pub state : tap_state new ≡ tap_state old
  pub looks : looks_of new ≡ looks_of old
  pub parts : parts_of new ≡ parts_of old
  pub failed : new.failed ≡ old.failed

-- The caller said that what is needed cannot be read. So nothing is needed now.
pub record TakesFault (old new : SuppliedTap) : Type 0 where
  pub failed : new.failed ≡ true
  pub need : new.need ≡ None
  pub state : tap_state new ≡ tap_state old
  pub looks : looks_of new ≡ looks_of old
  pub parts : parts_of new ≡ parts_of old
  pub rows : rows_of new ≡ rows_of old

-- ---- supplies that are read

-- the look is one of these
pub record IsOneOf (look : FileVersion) (looks : List FileVersion) : Type 0 where
  pub place : ℕ
  pub there : slice_get looks place ≡ Some look

-- none of the looks at this file has this generation or a newer one
abbrev pub LacksLookAt : List FileVersion → ℕ → ℕ → Type 0
LacksLookAt looks file least = (k : ℕ) (look : FileVersion) → slice_get looks k ≡ Some look
    → look.file ≡ file → look.generation < least

-- The part has the bytes of this generation of a file, from this place on.
pub record Covers (part : SuppliedBytes) (file generation at size : ℕ) : Type 0 where
  pub of_file : part.file ≡ file
  pub of_generation : part.generation ≡ generation
  pub low : part.at ≤ at
  pub high : at + size ≤ part.at + length part.bytes.items

-- none of the parts has these bytes
abbrev pub LacksPartAt : List SuppliedBytes → Named → ℕ → ℕ → Type 0
LacksPartAt parts h at size = (k : ℕ) (part : SuppliedBytes) → slice_get parts k ≡ Some part
    → ¬ Covers part h.file h.generation at size

-- The part has these rows, with this number of bytes.
pub record HasRows (part : SuppliedRows) (place : RowsAt) (size : ℕ) : Type 0 where
  pub of_place : part.place ≡ place
  pub long : length part.bytes.items ≡ size

-- none of the parts has these rows
abbrev pub LacksRowsAt : List SuppliedRows → RowsAt → ℕ → Type 0
LacksRowsAt parts place size = (k : ℕ) (part : SuppliedRows) → slice_get parts k ≡ Some part
    → ¬ HasRows part place size

-- the rows of a handle's file
abbrev pub rows_at : Named → ℕ → ℕ → ℕ → RowsAt
rows_at h at stride row = record {
  file = h.file;
  generation = h.generation;
  at = at;
  stride = stride;
  row = row;
}

-- what a read of this many bytes from a place on needs: at least these, at most all up to the end
abbrev pub bytes_needed : Named → ℕ → ℕ → Need
bytes_needed h at size = Bytes h.file h.generation at size (h.len - at)

-- the looks that were supplied are kept, in their order, before any others
abbrev pub KeepsLooks : SuppliedTap → SuppliedTap → Type 0
KeepsLooks old new = Extends (looks_of old) (looks_of new)

-- A look at the file was supplied, in this generation.
pub record WasSeen (looks : List FileVersion) (file generation : ℕ) : Type 0 where
  pub look : FileVersion
  pub one : IsOneOf look looks
  pub of_file : look.file ≡ file
  pub of_generation : look.generation ≡ generation

-- Why a read fails: the bytes were not supplied. Or a look at a newer generation was supplied, which
-- is answered.
abbrev pub IsUnread : SuppliedTap → ℕ → Type 0 → ReadError → Type 0
IsUnread tap file Lacks reading.Failed = Lacks
IsUnread tap file Lacks (reading.Gone to) = WasSeen (looks_of tap) file to
