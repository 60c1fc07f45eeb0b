-- Why does a folder in memory have the files of its table once it is entered?
use Rattle.std.specs.Prelude.{◌≡◌, ◌≢◌, ℕ, ◌<◌, ◌≤◌, List, Option, Some, None, IsSome}
use Rattle.std.specs.Option.{ForSome}
use Rattle.std.proofs.Common.{refl, sym, ◌∙◌, arith}
use Rattle.tex_world.specs.World.{max_files}
use Rattle.tex_world.specs.Folder.{IsFolder}
use Rattle.tex_world.specs.Number.{number_in}
use Rattle.tex_world.specs.NumberLaws.{stands_at_number, stands_nowhere}
use Rattle.tex_world.specs.Table.{table_names, table_files}
use Rattle.tex_world.specs.TableLaws.{length-table_names, get_or-table_names}
use Rattle.tex_world.specs.MemFolder.{folder_state, size_once_entered, names_once_entered}
use Rattle.tex_world.specs.declared.mem_folder.MemFolder.{MemFolder}

module _ (count : ℕ) (name : ℕ → List ℕ) where
  module _ {A : Type 0} where
    pub few_files : count ≤ max_files → (o : Option A) → size_once_entered count o ≤ max_files
    few_files few None = omega arith
    few_files few (Some path) = few

    -- The number of a name belongs to a file with this name, and exists only once the folder is
    -- entered.
    pub numbered : (o : Option A) (wanted : List ℕ)
        → ForSome (number_in (names_once_entered count name o) wanted)
        (λ n. (n < size_once_entered count o) × (name n ≡ wanted))
    numbered None wanted n found = absurd (cc found)
    numbered (Some path) wanted n found =
        let at = stands_at_number (table_names count name) wanted n found in
        let low : n < count = omega (arith, at.0, length-table_names count name) in
        (low, sym (get_or-table_names count name n low) ∙ at.1)

    -- Before the folder is entered, no name has a number.
    pub unnumbered : (o : Option A) → o ≡ None → (wanted : List ℕ)
        → number_in (names_once_entered count name o) wanted ≡ None
    unnumbered None none wanted = refl
    unnumbered (Some path) none wanted = absurd (cc none)

    -- Once the folder is entered, a name without a number belongs to no file.
    pub unnamed : (o : Option A) → IsSome o → (wanted : List ℕ)
        → number_in (names_once_entered count name o) wanted ≡ None
        → (n : ℕ) → n < count → name n ≢ wanted
    unnamed None entered wanted none n low same = absurd (cc entered)
    unnamed (Some path) entered wanted none n low same =
        stands_nowhere (table_names count name) wanted none n
        (omega (arith, low, length-table_names count name))
        (get_or-table_names count name n low ∙ same)

module _ {T : Type 0} (count : ℕ) (name : ℕ → List ℕ) (len : ℕ → ℕ → Option ℕ)
    (byte : ℕ → ℕ → ℕ → ℕ) where
  -- A folder over a table with few enough files obeys the laws of a folder.
  pub folder_is_lawful : count ≤ max_files → (folder : MemFolder T)
      → IsFolder (table_files count name len byte) (folder_state count name folder)
  folder_is_lawful few folder = record {
    few = few_files count name few folder.entered;
    before = grind arith;
    told = grind arith;
    numbered = λ wanted n found. (numbered count name folder.entered wanted n found).0;
    unnumbered = λ before. unnumbered count name folder.entered (grind arith);
    named = λ _ wanted n found. (numbered count name folder.entered wanted n found).1;
    unnamed = λ entered _. unnamed count name folder.entered (grind arith);
  }
