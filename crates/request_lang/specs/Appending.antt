-- How long may the parts of a line be?
use Rattle.std.specs.Prelude.{ℕ}

-- the number of 16-bit values that are converted before they are appended
abbrev pub room_values : ℕ
room_values = 256

-- how many 16-bit values count as few: as many as a lookup can have
abbrev pub few_values : ℕ
few_values = 8

-- the most bytes of a part of a line: with few values, or of `room_values` values
abbrev pub max_part_bytes : ℕ
max_part_bytes = 8192

-- the most bytes of a line without its values
abbrev pub max_head_bytes : ℕ
max_head_bytes = 8000

-- the most bytes of the number of uncached needs
abbrev pub max_apart_bytes : ℕ
max_apart_bytes = 27

-- the most bytes of the counts of a shard
abbrev pub max_shard_bytes : ℕ
max_shard_bytes = 84

-- the most shards of a cache
abbrev pub max_shards : ℕ
max_shards = 64
