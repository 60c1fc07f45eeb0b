-- When is what the caller supplies true?
use Rattle.std.specs.Prelude.{◌≡◌, ℕ, ◌+◌, ◌<◌, List, length, slice_index}
use Rattle.std.specs.List.{All}
use Rattle.supplied_tap.specs.declared.supply.RowsAt.{RowsAt}
use Rattle.supplied_tap.specs.declared.supply.Seen.{Seen}
use Rattle.tex_world.specs.Tap.{place_in_rows}
use Rattle.supplied_tap.specs.SuppliedWorld.{held_by_caller}

-- The bytes agree with a file's bytes from a place on, up to the end of the file.
pub record AgreesAt (held : List ℕ) (at : ℕ) (bytes : List ℕ) : Type 0 where
  pub each : (k : ℕ) → k < length bytes → at + k < length held
      → slice_index bytes k ≡ slice_index held (at + k)

-- The bytes agree with rows of a file, up to the end of the file.
pub record AgreesInRows (held : List ℕ) (at stride row : ℕ) (bytes : List ℕ) : Type 0 where
  pub each : (k : ℕ) → k < length bytes → place_in_rows at stride row k < length held
      → slice_index bytes k ≡ slice_index held (place_in_rows at stride row k)

-- The generation of the file has this length.
abbrev pub IsTrueLook : ℕ → ℕ → ℕ → Type 0
IsTrueLook file generation len = len ≡ length (held_by_caller file generation)

-- Each of these generations has the length that is stated.
abbrev pub AreTrueLooks : List Seen → Type 0
AreTrueLooks looks = All (λ seen. IsTrueLook seen.file seen.generation seen.len) looks

-- The bytes are those of this generation of the file, from the place on.
abbrev pub AreTrueBytes : ℕ → ℕ → ℕ → List ℕ → Type 0
AreTrueBytes file generation at bytes = AgreesAt (held_by_caller file generation) at bytes

-- The bytes are those of these rows of the file.
abbrev pub AreTrueRows : RowsAt → List ℕ → Type 0
AreTrueRows p bytes = AgreesInRows (held_by_caller p.file p.generation) p.at p.stride p.row bytes
