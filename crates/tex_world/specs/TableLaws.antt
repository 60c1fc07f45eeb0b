-- Why are the files of a table a world, and why are its handles honest?
use Rattle.std.specs.Prelude.{◌≡◌, ℕ, ◌<◌, ◌≤◌, List, [], Option, Some, IsSome, IsTrue}
use Rattle.std.proofs.Common.{length, get_or, sym, ap, ◌∙◌, arith}
use Rattle.std.proofs.lemmas.List.FromFn.{length-map-range_with_len, get_or-map-range_with_len}
use Rattle.std.proofs.lemmas.Option.{same_Some}
use Rattle.std.proofs.lemmas.Bool.Decides.{nat_tests}
use Rattle.tex_world.specs.World.{IsWorld, IsReal, is_held, last_generation, max_files}
use Rattle.tex_world.specs.Tap.{IsHandle}
use Rattle.tex_world.specs.Table.{bytes_below, table_held, table_names, table_files}

-- `bytes_below` has as many bytes as the length says.
pub length-bytes_below : (len : ℕ) (byte : ℕ → ℕ) → length (bytes_below len byte) ≡ len
unfolding bytes_below
length-bytes_below len byte = length-map-range_with_len byte 0 len

-- Each byte of `bytes_below` is the one at its place.
pub get_or-bytes_below : (len : ℕ) (byte : ℕ → ℕ) (at : ℕ) → at < len
    → get_or (bytes_below len byte) at 0 ≡ byte at
unfolding bytes_below
get_or-bytes_below len byte at low = get_or-map-range_with_len byte 0 len at at 0 low (omega arith)

module _ (count : ℕ) (name : ℕ → List ℕ) where
  -- A table has as many names as files.
  pub length-table_names : length (table_names count name) ≡ count
  length-table_names = length-map-range_with_len name 0 count

  -- Each name is that of its file.
  pub get_or-table_names : (n : ℕ) → n < count → get_or (table_names count name) n [] ≡ name n
  get_or-table_names n low = get_or-map-range_with_len name 0 count n n [] low (omega arith)

module _ (count : ℕ) (name : ℕ → List ℕ) (len : ℕ → ℕ → Option ℕ) (byte : ℕ → ℕ → ℕ → ℕ) where
  -- The files are a world if they are few enough and their names are distinct.
  pub table_is_world : count ≤ max_files
      → ((m n : ℕ) → m < count → n < count → name m ≡ name n → m ≡ n)
      → IsWorld (table_files count name len byte)
  table_is_world few distinct = record {
    few = few;
    distinct = λ _. distinct;
    untold = λ silent. absurd (cc silent);
  }

  -- A generation in range with a length has as many bytes.
  pub held_where : (n g size : ℕ) → n < count → 1 ≤ g → g ≤ last_generation → len n g ≡ Some size
      → table_held count len byte n g ≡ Some (bytes_below size (byte n g))
  held_where n g size file low high there = grind (arith, nat_tests)

  -- A generation in range with a length exists.
  pub real_where : (n g : ℕ) → n < count → 1 ≤ g → g ≤ last_generation → IsSome (len n g)
      → IsReal (table_files count name len byte) n g
  real_where n g file low high there = record {
    low = low;
    high = high;
    held = λ _. grind (arith, nat_tests);
  }

  -- A generation with bytes exists.
  pub held_is_real : (n g : ℕ) → IsTrue (is_held (table_files count name len byte) n g)
      → IsReal (table_files count name len byte) n g
  held_is_real n g held = record {
    low = grind (arith, nat_tests);
    high = grind (arith, nat_tests);
    held = λ _. grind (arith, nat_tests);
  }

  -- A handle is honest if its generation is in range and its length is that of the generation.
  pub handle_is_honest : (n g size : ℕ) → n < count → 1 ≤ g → g ≤ last_generation
      → len n g ≡ Some size
      → IsHandle (table_files count name len byte) (record { file = n; generation = g; len = size })
  handle_is_honest n g size file low high there = record {
    real = real_where n g file low high (grind arith);
    len = λ bytes held.
        let there_held = held_where n g size file low high there in
        let same : bytes_below size (byte n g) ≡ bytes = same_Some _ _ (sym there_held ∙ held) in
        sym (length-bytes_below size (byte n g)) ∙ ap length same;
  }
