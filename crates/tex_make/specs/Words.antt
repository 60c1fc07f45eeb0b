-- What do the arguments ask for? There are two or three: the folder, the name of the file, and the
-- side of the tiles.
use Rattle.std.specs.Prelude.{ℕ, ◌+◌, ◌-◌, ◌*◌, ◌%◌, ◌==◌, ◌&&◌, ◌||◌, nat_le, Bool, false}
use Rattle.std.specs.Prelude.{List, [], ◌∷◌, length, Option, Some, None, if◌then◌else◌}
use Rattle.std.specs.List.{list_all}

-- the path of a folder, the name of a file of it, and the side of tiles
pub record Wanted : Type 0 where
  pub path : List ℕ
  pub name : List ℕ
  pub side : ℕ

-- the side of the tiles if no argument gives it
abbrev pub default_side : ℕ
default_side = 64

-- a decimal digit
abbrev pub is_digit : ℕ → Bool
is_digit byte = nat_le 48 byte && nat_le byte 57

-- the number that digits make, after those of another number
abbrev pub digits_behind : ℕ → List ℕ → ℕ
digits_behind n [] = n
digits_behind n (digit ∷ digits) = digits_behind (n * 10 + (digit - 48)) digits

-- whether the argument is 1 to 10 decimal digits
abbrev pub is_number : List ℕ → Bool
is_number word = nat_le 1 (length word) && (nat_le (length word) 10 && list_all is_digit word)

-- whether tiles may have this side: a multiple of 16 from 16 to 256
abbrev pub is_made_side : ℕ → Bool
is_made_side side = nat_le 16 side && (nat_le side 256 && (side % 16 == 0))

-- the side that an argument gives, if it gives one
abbrev pub side_of : List ℕ → Option ℕ
side_of word =
    if is_number word && is_made_side (digits_behind 0 word) then Some (digits_behind 0 word)
    else None

-- whether the argument begins like an option
abbrev pub is_option : List ℕ → Bool
is_option [] = false
is_option (byte ∷ bytes) = byte == 45

-- what these arguments ask for, if neither looks like an option
abbrev pub wanted : List ℕ → List ℕ → ℕ → Option Wanted
wanted path name side =
    if is_option path || is_option name then None
    else Some (record { path = path; name = name; side = side })

-- what they ask for with this side, if it is given
abbrev pub wanted_by : List ℕ → List ℕ → Option ℕ → Option Wanted
wanted_by path name None = None
wanted_by path name (Some side) = wanted path name side

-- what the arguments ask for, if they have this form
abbrev pub wanted_in : List (List ℕ) → Option Wanted
wanted_in (path ∷ name ∷ []) = wanted path name default_side
wanted_in (path ∷ name ∷ side ∷ []) = wanted_by path name (side_of side)
wanted_in _ = None
