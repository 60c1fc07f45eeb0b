-- Which generation has a file whose stamp was just read?
use Rattle.std.specs.Prelude.{◌≡◌, ℕ, ◌+◌, ◌*◌, ◌/◌, ◌%◌, ◌^◌, ◌==◌, nat_lt, ◌&&◌, Bool}
use Rattle.std.specs.Prelude.{Option, Some, None, if◌then◌else◌}
use Rattle.std.specs.Option.{option_and_then}
use Rattle.tex_world.specs.World.{last_generation}

-- the number of stamps
abbrev pub stamps : ℕ
stamps = 2 ^ 44

-- a bound of the times in nanoseconds that the system gives
abbrev pub nanos_end : ℕ
nanos_end = 2 ^ 94

-- the weight of a nanosecond in a stamp
abbrev pub nano_weight : ℕ
nano_weight = 1000003

-- the stamp of a file with this length in bytes and this time of change in nanoseconds
abbrev pub stamp_of_file : ℕ → ℕ → ℕ
stamp_of_file len nanos = (len + nano_weight * nanos) % stamps

-- the stamp belongs to this length and to some time that the system can give
pub record HasStamp (len stamp : ℕ) : Type 0 where
  pub nanos : ℕ
  pub value : stamp ≡ stamp_of_file len nanos

-- the generation in a word; 0 if none
abbrev pub word_generation : ℕ → ℕ
word_generation word = word / stamps

-- the stamp in a word
abbrev pub word_stamp : ℕ → ℕ
word_stamp word = word % stamps

-- the word has a generation, and this stamp
abbrev pub is_of_stamp : ℕ → ℕ → Bool
is_of_stamp word stamp = nat_lt 0 (word_generation word) && (word_stamp word == stamp)

-- The generation in a word, if the word has this stamp.
abbrev pub generation_by : ℕ → ℕ → Option ℕ
generation_by word stamp = if is_of_stamp word stamp then Some (word_generation word) else None

-- The word after a freshness check: unchanged if the stamp is the same, otherwise with the next
-- generation; `None` after the last generation.
abbrev pub settled_word : ℕ → ℕ → Option ℕ
settled_word word stamp =
    if is_of_stamp word stamp then Some word
    else (if word_generation word == last_generation then None
    else Some ((word_generation word + 1) * stamps + stamp))

-- The generation of a file with this stamp, after the attempt to exchange its word. If the word was
-- still the one that was read, the new word's generation counts. Otherwise another tap was first,
-- and its word counts if it has the same stamp.
abbrev pub generation_after : ℕ → ℕ → ℕ → Option ℕ
generation_after loaded found stamp =
    if found == loaded
    then option_and_then (λ word. generation_by word stamp) (settled_word loaded stamp)
    else generation_by found stamp
