-- Which files does a table have, and which bytes has each generation?
use Rattle.std.specs.Prelude.{ℕ, Bool, true, ◌&&◌, nat_lt, nat_le, if◌then◌else◌, List, map}
use Rattle.std.specs.Prelude.{Option, Some, None}
use Rattle.std.specs.List.{range_with_len}
use Rattle.tex_world.specs.World.{Files, last_generation}

-- the number is in the range of generations
abbrev pub is_generation : ℕ → Bool
is_generation g = nat_le 1 g && nat_le g last_generation

-- The bytes at the places below a length. It is no `abbrev`, so that proofs do not expand a large
-- file.
unfoldable pub bytes_below : ℕ → (ℕ → ℕ) → List ℕ
bytes_below len byte = map byte (range_with_len 0 len)

-- as many bytes as the length says, if there is one
abbrev pub table_bytes : (ℕ → ℕ) → Option ℕ → Option (List ℕ)
table_bytes byte None = None
table_bytes byte (Some len) = Some (bytes_below len byte)

-- The bytes of a file's generation. There are none for numbers past the last file or generations
-- out of range.
abbrev pub table_held :
    ℕ → (ℕ → ℕ → Option ℕ) → (ℕ → ℕ → ℕ → ℕ) → ℕ → ℕ → Option (List ℕ)
table_held count len byte n g =
    if nat_lt n count && is_generation g then table_bytes (byte n g) (len n g) else None

-- the names of a table's files, by number
abbrev pub table_names : ℕ → (ℕ → List ℕ) → List (List ℕ)
table_names count name = map name (range_with_len 0 count)

-- the files of a table, which are modelled
abbrev pub table_files : ℕ → (ℕ → List ℕ) → (ℕ → ℕ → Option ℕ) → (ℕ → ℕ → ℕ → ℕ) → Files
table_files count name len byte = record {
  tells = true;
  count = count;
  name = name;
  held = table_held count len byte;
}
