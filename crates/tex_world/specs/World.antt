-- What is a world? The contracts' model of a folder: its files, and the bytes of each generation.
use Rattle.std.specs.Prelude.{◌≡◌, ℕ, ◌<◌, ◌≤◌, Bool, IsTrue, IsFalse, List}
use Rattle.std.specs.Prelude.{Option, None, IsSome, is_some}

-- The content of a world. If it is not modelled, nothing is said of names and bytes, and `held` is
-- `None` everywhere.
pub record Files : Type 0 where
  -- whether the world is modelled
  pub tells : Bool
  -- the number of files, which are numbered from 0
  pub count : ℕ
  -- the bytes of a file's name
  pub name : ℕ → List ℕ
  -- the bytes of a file's generation, if it exists
  pub held : ℕ → ℕ → Option (List ℕ)

-- the first generation of a file
abbrev pub first_generation : ℕ
first_generation = 1

-- the last generation that a file can have
abbrev pub last_generation : ℕ
last_generation = 1048575

-- the most files that a folder can have
abbrev pub max_files : ℕ
max_files = 4096

-- The laws of a world. It has at most 4096 files. If it is modelled, their names are distinct;
-- otherwise `held` is `None` everywhere.
pub record IsWorld (files : Files) : Type 0 where
  pub few : files.count ≤ max_files
  pub distinct : IsTrue files.tells → (m n : ℕ) → m < files.count → n < files.count
      → files.name m ≡ files.name n → m ≡ n
  pub untold : IsFalse files.tells → (n g : ℕ) → files.held n g ≡ None

-- A generation exists if it is in range and, in a modelled world, has bytes.
pub record IsReal (files : Files) (file generation : ℕ) : Type 0 where
  pub low : 1 ≤ generation
  pub high : generation ≤ last_generation
  pub held : IsTrue files.tells → IsSome (files.held file generation)

-- the world has bytes for this generation of a file
abbrev pub is_held : Files → ℕ → ℕ → Bool
is_held files file generation = is_some (files.held file generation)

-- the file is one of the world's, if the world is modelled
abbrev pub IsFile : Files → ℕ → Type 0
IsFile files file = IsTrue files.tells → file < files.count

-- No file of the world has this name.
abbrev pub HasNoFile : Files → List ℕ → Type 0
HasNoFile files name = (n : ℕ) → n < files.count → files.name n ≡ name → ⊥
