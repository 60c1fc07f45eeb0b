-- What is the text of numbers?
use Rattle.std.specs.Prelude.{ℕ, List, ◌∷◌}
use Rattle.std.specs.List.{flat_map}
use Rattle.std.specs.Fmt.{decimal}
use Rattle.short_text.specs.Words.{space}

-- a byte and a number, in decimal without leading zeros
abbrev pub number_behind : ℕ → ℕ → List ℕ
number_behind byte n = byte ∷ decimal n

-- numbers, each after the byte
abbrev pub numbers_behind : ℕ → List ℕ → List ℕ
numbers_behind byte ns = flat_map (number_behind byte) ns

-- numbers, each after a space
abbrev pub fields : List ℕ → List ℕ
fields ns = numbers_behind space ns
