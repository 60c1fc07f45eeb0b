-- What does each exit status mean?
use Rattle.std.specs.Prelude.{ℕ}

-- the whole file was written
abbrev pub made : ℕ
made = 0

-- the arguments are not of the right form
abbrev pub bad_words : ℕ
bad_words = 2

-- the folder failed
abbrev pub folder_fault : ℕ
folder_fault = 4

-- the sink failed
abbrev pub not_written : ℕ
not_written = 5

-- out of memory
abbrev pub no_memory : ℕ
no_memory = 6

-- the folder has no file with this name
abbrev pub no_such_file : ℕ
no_such_file = 7

-- the bytes of the file have a fault
abbrev pub bad_file : ℕ
bad_file = 8

-- level 0 has too many samples
abbrev pub too_large : ℕ
too_large = 9

-- the file was changed while it was read
abbrev pub gone : ℕ
gone = 10

-- the folder has too many files
abbrev pub too_many : ℕ
too_many = 11
