-- Which numbers are drawn? (docs/REQUESTS.md, "The sample program")
use Rattle.std.specs.Prelude.{ℕ, ◌+◌, ◌*◌, ◌/◌, ◌%◌, ◌^◌}

-- states are below this number
abbrev pub states : ℕ
states = 2 ^ 31

-- the state before the first draw
abbrev pub first_state : ℕ
first_state = 1

-- the state after a draw
unfoldable pub next_state : ℕ → ℕ
next_state state = (state * 1103515245 + 12345) % states

-- the number drawn in the draw that led to this state
abbrev pub drawn : ℕ → ℕ
drawn state = state / 256
