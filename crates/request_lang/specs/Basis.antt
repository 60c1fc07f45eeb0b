-- What is an answer based on, is it a refusal, and which generations does it print?
use Rattle.std.specs.Prelude.{ℕ, Bool, true, false, Option, Some, None}
use Rattle.request_lang.specs.declared.answer.Answer.{Answer}
use Rattle.request_lang.specs.declared.answer.Answer.TheVariants.{Tex, Texd, Pixels, Info, Held}
use Rattle.request_lang.specs.declared.answer.Answer.TheVariants.{Dropped, Invalidated, Renewed}
use Rattle.request_lang.specs.declared.answer.Answer.TheVariants.{InvalidatedAll, Stat, Synced}
use Rattle.request_lang.specs.declared.answer.Answer.TheVariants.{NoSuchFile, BadFile, TileTooLarge}
use Rattle.request_lang.specs.declared.answer.Answer.TheVariants.{NoLevel, Outside, RegionTooLarge}
use Rattle.request_lang.specs.declared.answer.Answer.TheVariants.{HoldsFull, NothingHeld, Again}
use Rattle.request_lang.specs.declared.answer.Answer.TheVariants.{ReadFault, NoMemory}

-- What an answer is based on: the bytes of a generation; a generation that was asked for but not
-- read; a newer generation that was met; the names of the folder; the request's own words; the
-- worker's holds; the shards; an I/O error; or out of memory.
pub data Basis : Type 0 where
  OnBytes : ℕ → Basis
  OnNewest : ℕ → Basis
  OnNewer : ℕ → ℕ → Basis
  OnNames : Basis
  OnWords : Basis
  OnHolds : Basis
  OnShards : Basis
  OnFault : Basis
  OnMemory : Basis

-- whether an answer is a refusal, and what it is based on
pub record Kind : Type 0 where
  pub refusal : Bool
  pub basis : Basis

-- an answer that is not a refusal
abbrev pub answer_on : Basis → Kind
answer_on basis = record { refusal = false; basis = basis }

-- an answer that is a refusal
abbrev pub refusal_on : Basis → Kind
refusal_on basis = record { refusal = true; basis = basis }

-- The table of the answers. Everything else about them follows from it.
abbrev pub kind_of : Answer → Kind
kind_of (Tex generation values) = answer_on (OnBytes generation)
kind_of (Texd generation values) = answer_on (OnBytes generation)
kind_of (Pixels generation channels values) = answer_on (OnBytes generation)
kind_of (Info info) = answer_on (OnBytes info.generation)
kind_of (Held generation rect) = answer_on (OnBytes generation)
kind_of Dropped = answer_on OnHolds
kind_of (Invalidated generation) = answer_on (OnNewest generation)
kind_of (Renewed generation) = answer_on (OnNewest generation)
kind_of InvalidatedAll = answer_on OnWords
kind_of (Stat shards) = answer_on OnShards
kind_of Synced = answer_on OnWords
kind_of NoSuchFile = refusal_on OnNames
kind_of (BadFile generation fault) = refusal_on (OnBytes generation)
kind_of (TileTooLarge generation) = refusal_on (OnBytes generation)
kind_of (NoLevel generation levels) = refusal_on (OnBytes generation)
kind_of (Outside generation) = refusal_on (OnBytes generation)
kind_of RegionTooLarge = refusal_on OnWords
kind_of HoldsFull = refusal_on OnHolds
kind_of NothingHeld = refusal_on OnHolds
kind_of (Again from to) = refusal_on (OnNewer from to)
kind_of ReadFault = refusal_on OnFault
kind_of NoMemory = refusal_on OnMemory

-- whether the answer is a refusal
abbrev pub is_refusal : Answer → Bool
is_refusal answer = (kind_of answer).refusal

-- what the answer is based on
abbrev pub basis_of : Answer → Basis
basis_of answer = (kind_of answer).basis

-- ---- of a basis

-- the earliest generation that is printed, if one is
abbrev pub earliest : Basis → Option ℕ
earliest (OnBytes generation) = Some generation
earliest (OnNewest generation) = Some generation
earliest (OnNewer from to) = Some from
earliest _ = None

-- the latest generation that is printed, if one is
abbrev pub latest : Basis → Option ℕ
latest (OnBytes generation) = Some generation
latest (OnNewest generation) = Some generation
latest (OnNewer from to) = Some to
latest _ = None

-- whether it is an I/O error
abbrev pub is_fault : Basis → Bool
is_fault OnFault = true
is_fault _ = false

-- whether it is a newer generation that was met
abbrev pub is_move : Basis → Bool
is_move (OnNewer from to) = true
is_move _ = false
