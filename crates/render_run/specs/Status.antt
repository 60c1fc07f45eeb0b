-- What does each exit status mean? (docs/REQUESTS.md, "Statuses")
use Rattle.std.specs.Prelude.{ℕ}

-- the whole list was answered, and no line is a refusal
abbrev pub all_answered : ℕ
all_answered = 0

-- the whole list was answered, and some line is a refusal
abbrev pub with_refusals : ℕ
with_refusals = 1

-- the arguments are not those of the command
abbrev pub bad_words : ℕ
bad_words = 2

-- the list is not valid
abbrev pub bad_list : ℕ
bad_list = 3

-- the folder or the feed failed, or the folder has too many files
abbrev pub input_fault : ℕ
input_fault = 4

-- the sink failed
abbrev pub not_written : ℕ
not_written = 5

-- out of memory, and nothing was written
abbrev pub no_memory : ℕ
no_memory = 6
