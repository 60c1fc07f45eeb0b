-- What do a tap's calls answer, when may they fail, and which counts do they raise?
use Rattle.std.specs.Prelude.{◌≡◌, ◌⊎◌, ℕ, ◌+◌, ◌*◌, ◌/◌, ◌%◌, ◌<◌, ◌≤◌, List, length, slice_index}
use Rattle.std.specs.Prelude.{Result, Ok, Err, ⊤}
use Rattle.std.specs.Option.{ForSome}
use Rattle.tex_world.specs.Counts.{Rises, RisesByOne}
use Rattle.tex_world.specs.World.{Files, IsReal}
use Rattle.tex_world.specs.declared.fault.OpenError.{OpenError}
use Rattle.tex_world.specs.declared.fault.OpenError.TheVariants as opening
use Rattle.tex_world.specs.declared.fault.ReadError.{ReadError}
use Rattle.tex_world.specs.declared.fault.ReadError.TheVariants as reading

-- what a handle names, and its number of bytes
pub record Named : Type 0 where
  pub file : ℕ
  pub generation : ℕ
  pub len : ℕ

-- A handle's generation exists, and its length is that of the generation's bytes.
pub record IsHandle (files : Files) (handle : Named) : Type 0 where
  pub real : IsReal files handle.file handle.generation
  pub len : ForSome (files.held handle.file handle.generation) (λ bytes. handle.len ≡ length bytes)

-- the least generation that a caller asks for: 0, or one that exists
abbrev pub IsLeast : Files → ℕ → ℕ → Type 0
IsLeast files file least = (least ≡ 0) ⊎ IsReal files file least

-- The counts of a tap, none of which falls, and its last answer of a newest generation.
pub record TapState : Type 0 where
  -- failed calls
  pub faults : ℕ
  -- calls
  pub calls : ℕ
  -- calls of `open`
  pub opens : ℕ
  -- successful calls of `newest`
  pub asks : ℕ
  -- how often a newer generation was met
  pub moves : ℕ
  -- reads that answered `Gone`; each is also a move
  pub lost : ℕ
  -- the file and the generation that the last successful `newest` answered
  pub newest : ℕ × ℕ

-- the counts of a new tap
pub record IsNew (tap : TapState) : Type 0 where
  pub faults : tap.faults ≡ 0
  pub calls : tap.calls ≡ 0
  pub opens : tap.opens ≡ 0
  pub asks : tap.asks ≡ 0
  pub moves : tap.moves ≡ 0
  pub lost : tap.lost ≡ 0

-- ---- open

-- The handle names this file and a generation of at least `least`.
pub record Opens (files : Files) (file least : ℕ) (handle : Named) : Type 0 where
  pub of_file : handle.file ≡ file
  pub new_enough : least ≤ handle.generation
  pub honest : IsHandle files handle

-- why an `open` fails
abbrev pub OpenCause : TapState → TapState → OpenError → Type 0
OpenCause old new opening.Failed = Rises old.faults new.faults
OpenCause old new opening.NoMemory = ⊤

-- the opened generation is newer than a `least` that is not 0
abbrev pub IsMove : ℕ → ℕ → Type 0
IsMove least generation = (0 < least) × (least < generation)

-- An `open` counts as a call and an open. If it succeeds, no I/O error is counted. The moves rise if
-- and only if it opens a newer generation than `least`; the count of lost generations is unchanged.
pub record AfterOpen {H : Type 0} (named : H → Named) (least : ℕ) (old new : TapState)
    (result : Result H OpenError) : Type 0 where
  pub faults : old.faults ≤ new.faults
  pub faultless : (h : H) → result ≡ Ok h → new.faults ≡ old.faults
  pub calls : RisesByOne old.calls new.calls
  pub opens : RisesByOne old.opens new.opens
  pub asks : new.asks ≡ old.asks
  pub newest : new.newest ≡ old.newest
  pub lost : new.lost ≡ old.lost
  pub moved : (h : H) → result ≡ Ok h → IsMove least (named h).generation
      → Rises old.moves new.moves
  pub unmoved : (h : H) → result ≡ Ok h → (IsMove least (named h).generation → ⊥)
      → new.moves ≡ old.moves
  pub refused : (e : OpenError) → result ≡ Err e → new.moves ≡ old.moves

-- ---- newest

-- A successful `newest` counts as a call and an ask, and its answer is then the last one. A failed
-- one counts only as a call.
pub record AfterNewest {E : Type 0} (file : ℕ) (old new : TapState) (result : Result ℕ E)
    : Type 0 where
  pub faults : old.faults ≤ new.faults
  pub calls : RisesByOne old.calls new.calls
  pub opens : new.opens ≡ old.opens
  pub moves : new.moves ≡ old.moves
  pub lost : new.lost ≡ old.lost
  pub asks : (g : ℕ) → result ≡ Ok g → RisesByOne old.asks new.asks
  pub newest : (g : ℕ) → result ≡ Ok g → new.newest ≡ (file, g)
  pub not_asked : (e : E) → result ≡ Err e → new.asks ≡ old.asks
  pub not_newest : (e : E) → result ≡ Err e → new.newest ≡ old.newest

-- ---- read_at and read_rows

-- why a read fails
abbrev pub ReadCause : Files → Named → TapState → TapState → ReadError → Type 0
ReadCause files handle old new reading.Failed = Rises old.faults new.faults
ReadCause files handle old new (reading.Gone to) =
    IsReal files handle.file to × (handle.generation < to) × Rises old.moves new.moves
    × Rises old.lost new.lost

-- a failed read names no generation, or one that exists and is newer than the handle's
abbrev pub NamesNewer : Files → Named → ReadError → Type 0
NamesNewer files handle reading.Failed = ⊤
NamesNewer files handle (reading.Gone to) =
    IsReal files handle.file to × (handle.generation < to)

-- the error is not that the generation is gone
abbrev pub IsFault : ReadError → Type 0
IsFault reading.Failed = ⊤
IsFault (reading.Gone to) = ⊥

-- A read counts as one call, whatever its number of rows, and neither as an open nor as an ask. If it
-- succeeds, no I/O error is counted. The moves and the lost generations rise if and only if it
-- answers `Gone`.
pub record AfterRead (old new : TapState) (result : Result (Unit {0}) ReadError) : Type 0 where
  pub faults : old.faults ≤ new.faults
  pub faultless : result ≡ Ok tt → new.faults ≡ old.faults
  pub calls : RisesByOne old.calls new.calls
  pub opens : new.opens ≡ old.opens
  pub asks : new.asks ≡ old.asks
  pub newest : new.newest ≡ old.newest
  pub answered : result ≡ Ok tt → new.moves ≡ old.moves
  pub failed : (e : ReadError) → result ≡ Err e → IsFault e → new.moves ≡ old.moves
  pub gone : (e : ReadError) → result ≡ Err e → (IsFault e → ⊥) → Rises old.moves new.moves
  pub lost_later : old.lost ≤ new.lost
  pub lost_answered : result ≡ Ok tt → new.lost ≡ old.lost
  pub lost_failed : (e : ReadError) → result ≡ Err e → IsFault e → new.lost ≡ old.lost

-- where byte k of rows of `row` bytes lies, each of which begins `stride` bytes after the one
-- before
abbrev pub place_in_rows : ℕ → ℕ → ℕ → ℕ → ℕ
place_in_rows at stride row k = at + k / row * stride + k % row

-- The bytes are whole rows that do not overlap, and each row lies below the length.
pub record AreRows (at stride row count len : ℕ) : Type 0 where
  pub some : 1 ≤ row
  pub apart : row ≤ stride
  pub whole : count % row ≡ 0
  pub below : (k : ℕ) → k < count → at + k / row * stride + row ≤ len

-- these are the bytes of such rows
abbrev pub HoldsRows : List ℕ → ℕ → ℕ → ℕ → List ℕ → Type 0
HoldsRows bytes at stride row rows = (k : ℕ) → k < length rows
    → slice_index rows k ≡ slice_index bytes (place_in_rows at stride row k)
