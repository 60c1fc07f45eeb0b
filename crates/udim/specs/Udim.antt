-- Which file does a name with a UDIM mark mean? (docs/REQUESTS.md, "UDIM names")
use Rattle.std.specs.Prelude.{ℕ, suc, ◌+◌, ◌*◌, ◌&&◌, nat_le, nat_lt, ℤ, pos, codes}
use Rattle.std.specs.Prelude.{List, [], ◌∷◌, ◌++◌, length, take, drop, Bool, true, false}
use Rattle.std.specs.Prelude.{Option, Some, None, if◌then◌else◌, ⊤, ◌≤ℤ◌, ◌<ℤ◌}
use Rattle.std.specs.Option.{option_map}
use Rattle.std.specs.Str.{bytes_eq}
use Rattle.std.specs.Fmt.{decimal}
use Rattle.texel_filter.specs.Coordinate.{unit, rounded_down, left_over}
use Rattle.udim.specs.declared.file.Udim.{Udim}
use Rattle.udim.specs.declared.file.Udim.TheVariants.{Plain, Outside, Tile}

-- ---- the mark in a name

-- the mark: what a name has in place of a tile's number
abbrev pub mark : List ℕ
mark = codes "<UDIM>"

-- whether a text begins with the mark
abbrev pub begins_with_mark : List ℕ → Bool
begins_with_mark text = bytes_eq mark (take (length mark) text)

-- the number of bytes before the first mark of a name, if it has one
unfoldable pub mark_at : List ℕ → Option ℕ
mark_at [] = None
mark_at (byte ∷ name) =
    if begins_with_mark (byte ∷ name) then Some 0 else option_map suc (mark_at name)

-- the name with a number in place of the mark, which comes after this many bytes
abbrev pub numbered : List ℕ → ℕ → ℕ → List ℕ
numbered name at number = take at name ++ (decimal number ++ drop (at + length mark) name)

-- ---- tiles

-- the number of the first tile
abbrev pub first_number : ℕ
first_number = 1001

-- the number of tiles in a row
abbrev pub tiles_across : ℕ
tiles_across = 10

-- the greatest number of a tile
abbrev pub max_number : ℕ
max_number = 9999

-- the number of the tile in this column (utile) and row (vtile), if there is one
abbrev pub number_of : ℤ → ℤ → Option ℕ
number_of (pos utile) (pos vtile) =
    let number = first_number + utile + tiles_across * vtile in
    if nat_lt utile tiles_across && nat_le number max_number then Some number else None
number_of _ _ = None

-- the number of the tile that contains the coordinates, if there is one
unfoldable pub tile_number : ℤ → ℤ → Option ℕ
tile_number s t = number_of (rounded_down s unit) (rounded_down t unit)

-- where a coordinate is within its tile
abbrev pub within_tile : ℤ → ℤ
within_tile z = pos (left_over z unit)

-- the file of the tile with this number; the mark comes after this many bytes of the name
abbrev pub tile_of : List ℕ → ℤ → ℤ → ℕ → Option ℕ → Udim
tile_of name s t at None = Outside
tile_of name s t at (Some number) =
    Tile (numbered name at number) (within_tile s) (within_tile t)

-- the file of the tile if the name has a mark, otherwise the file with this name
abbrev pub marked : List ℕ → ℤ → ℤ → Option ℕ → Udim
marked name s t None = Plain
marked name s t (Some at) = tile_of name s t at (tile_number s t)

-- What a name means for a lookup at S and T: the file with this name, no file, or the file of a
-- tile with the place in it. Later marks are left as they are.
unfoldable pub udim_of : List ℕ → ℤ → ℤ → Udim
udim_of name s t = marked name s t (mark_at name)

-- a coordinate lies within a tile
pub record IsWithinTile (z : ℤ) : Type 0 where
  pub low : pos 0 ≤ℤ z
  pub high : z <ℤ pos unit

-- if it is the file of a tile, the place lies within that tile
abbrev pub LiesWithin : Udim → Type 0
LiesWithin (Tile name s t) = IsWithinTile s × IsWithinTile t
LiesWithin Plain = ⊤
LiesWithin Outside = ⊤

-- whether it is the file of a tile
abbrev pub is_tile : Udim → Bool
is_tile (Tile name s t) = true
is_tile Plain = false
is_tile Outside = false
