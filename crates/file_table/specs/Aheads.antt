-- How much read-ahead is kept of files that nobody reads?
use Rattle.std.specs.Prelude.{ℕ, List, sum_by}
use Rattle.std.specs.Map.{values_of}
use Rattle.tap_reader.specs.ReadAhead.{AheadState}

-- the greatest number of files
abbrev pub max_aheads : ℕ
max_aheads = 256

-- the most bytes of all files together: 16 MiB
abbrev pub max_kept_bytes : ℕ
max_kept_bytes = 16777216

-- the number of bytes kept, for read-ahead listed by file
abbrev pub kept_bytes : List (ℕ × AheadState) → ℕ
kept_bytes aheads = sum_by (λ a. a.count) (values_of aheads)
