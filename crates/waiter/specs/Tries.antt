-- How often does a call try that waits for ever?
use Rattle.std.specs.Prelude.{ℕ, ◌-◌, ◌^◌}

-- the greatest value of a u64: more tries than any program makes
abbrev pub max_tries : ℕ
max_tries = 2 ^ 64 - 1
