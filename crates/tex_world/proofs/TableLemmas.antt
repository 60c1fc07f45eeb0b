-- What is a buffer that was filled byte by byte from a generation of a table, and which number has
-- a name?
use Rattle.std.proofs.Common.{◌≡◌, ◌≢◌, ℕ, ◌+◌, ◌<◌, ◌≤◌, List, length, get_or}
use Rattle.std.proofs.Common.{Option, Some, None}
use Rattle.std.proofs.Common.{EachIndex, sym, ap, ◌∙◌, arith}
use Rattle.std.proofs.lemmas.Option.{same_Some}
use Rattle.tex_world.specs.World.{last_generation}
use Rattle.tex_world.specs.Tap.{AreRows, HoldsRows, place_in_rows}
use Rattle.tex_world.specs.Table.{bytes_below, table_held, table_names}
use Rattle.tex_world.specs.TableLaws.{get_or-bytes_below, held_where}
use Rattle.tex_world.specs.TableLaws.{length-table_names, get_or-table_names}
use Rattle.tex_world.specs.Number.{number_in}
use Rattle.tex_world.specs.NumberLaws.{number_where, no_number_where}

module _ (count : ℕ) (name : ℕ → List ℕ) (len : ℕ → ℕ → Option ℕ) (byte : ℕ → ℕ → ℕ → ℕ) where
  -- A buffer that was filled with the bytes from a place on is that part of the generation's bytes.
  pub part_where : (n g size : ℕ) → n < count → 1 ≤ g → g ≤ last_generation → len n g ≡ Some size
      → (at : ℕ) (part : List ℕ) → at + length part ≤ size
      → ((k : ℕ) → k < length part → get_or part k 0 ≡ byte n g (at + k))
      → (bytes : List ℕ) → table_held count len byte n g ≡ Some bytes
      → EachIndex part (λ k. get_or part k 0 ≡ get_or bytes (at + k) 0)
  part_where n g size file low high there at part within filled bytes held =
      let there_held = held_where count name len byte n g size file low high there in
      let same : bytes_below size (byte n g) ≡ bytes = same_Some _ _ (sym there_held ∙ held) in
      λ k h.
      filled k h
      ∙ sym (get_or-bytes_below size (byte n g) (at + k) (omega (arith, h, within)))
      ∙ ap (λ (l : List ℕ). get_or l (at + k) 0) same

  -- a buffer that was filled with rows of a generation has those rows
  pub rows_where : (n g size : ℕ) → n < count → 1 ≤ g → g ≤ last_generation → len n g ≡ Some size
      → (at stride row : ℕ) (rows : List ℕ) → AreRows at stride row (length rows) size
      → ((k : ℕ) → k < length rows → get_or rows k 0 ≡ byte n g (place_in_rows at stride row k))
      → (bytes : List ℕ) → table_held count len byte n g ≡ Some bytes
      → HoldsRows bytes at stride row rows
  rows_where n g size file low high there at stride row rows are filled bytes held =
      let there_held = held_where count name len byte n g size file low high there in
      let same : bytes_below size (byte n g) ≡ bytes = same_Some _ _ (sym there_held ∙ held) in
      λ k h.
      let place = place_in_rows at stride row k in
      filled k h
      ∙ sym (get_or-bytes_below size (byte n g) place (omega (arith, are.below k h, are.some)))
      ∙ ap (λ (l : List ℕ). get_or l place 0) same

module _ (count : ℕ) (name : ℕ → List ℕ) (wanted : List ℕ) where
  -- The first file of a name has its number.
  pub table_number_where : (n : ℕ) → n < count → name n ≡ wanted
      → ((k : ℕ) → k < n → name k ≢ wanted)
      → number_in (table_names count name) wanted ≡ Some n
  table_number_where n low same before =
      number_where (table_names count name) wanted n
      (omega (arith, low, length-table_names count name))
      (get_or-table_names count name n low ∙ same)
      (λ k h other. before k h
      (sym (get_or-table_names count name k (omega (arith, h, low))) ∙ other))

  -- If no file has a name, the name has no number.
  pub no_table_number_where : ((k : ℕ) → k < count → name k ≢ wanted)
      → number_in (table_names count name) wanted ≡ None
  no_table_number_where nowhere =
      no_number_where (table_names count name) wanted
      (λ k h other. let low : k < count = omega (arith, h, length-table_names count name) in
      nowhere k low (sym (get_or-table_names count name k low) ∙ other))
