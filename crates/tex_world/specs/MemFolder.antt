-- What are the counts of a folder in memory, and which of its calls fail?
use Rattle.std.specs.Prelude.{◌≡◌, ℕ, Bool, true, false, IsTrue, IsFalse, List, []}
use Rattle.std.specs.Prelude.{Option, Some, None, Result, Err, string_bytes, option_map}
use Rattle.tex_world.specs.Counts.{RisesByOne}
use Rattle.tex_world.specs.Folder.{FolderState}
use Rattle.tex_world.specs.Number.{number_in}
use Rattle.tex_world.specs.Table.{table_names}
use Rattle.tex_world.specs.TapPlan.{TapPlan}
use Rattle.tex_world.specs.Plan.{share_of, IsUnnamed}
use Rattle.tex_world.specs.declared.fault.EnterError.{EnterError}
use Rattle.tex_world.specs.declared.fault.EnterError.TheVariants.{Failed}
use Rattle.tex_world.specs.declared.plan.Plan.{Plan}
use Rattle.tex_world.specs.declared.mem_folder.MemFolder.{MemFolder}

-- the bytes of the path that was entered
abbrev pub entered_path : {T : Type 0} → MemFolder T → Option (List ℕ)
entered_path folder = option_map string_bytes folder.entered

-- the number of files once the folder is entered, for a table of `count` files; 0 before
abbrev pub size_once_entered : {A : Type 0} → ℕ → Option A → ℕ
size_once_entered count None = 0
size_once_entered count (Some path) = count

-- the names of the files once the folder is entered; none before
abbrev pub names_once_entered : {A : Type 0} → ℕ → (ℕ → List ℕ) → Option A → List (List ℕ)
names_once_entered count name None = []
names_once_entered count name (Some path) = table_names count name

-- The counts in the folder's fields, over a table of this many files with these names. It never
-- finds too many files.
abbrev pub folder_state : {T : Type 0} → ℕ → (ℕ → List ℕ) → MemFolder T → FolderState
folder_state count name folder = record {
  faults = folder.faults;
  moves = folder.moves;
  made = folder.made;
  returned = folder.returned;
  over = false;
  entered = entered_path folder;
  size = size_once_entered count folder.entered;
  number_of = number_in (names_once_entered count name folder.entered);
}

-- the number of calls of the taps given back
abbrev pub calls_returned : {T : Type 0} → MemFolder T → ℕ
calls_returned folder = folder.calls

-- the plan that the folder was made with
abbrev pub folder_plan : {T : Type 0} → MemFolder T → Plan
folder_plan folder = folder.plan

-- the part of the plan for the next tap
abbrev pub next_share : {T : Type 0} → MemFolder T → TapPlan
next_share folder = share_of (folder_plan folder) folder.made

-- the plan has no entry for the next tap
abbrev pub IsNextUnnamed : {T : Type 0} → MemFolder T → Type 0
IsNextUnnamed folder = IsUnnamed (folder_plan folder) folder.made

-- whether `enter` was called before
abbrev pub is_tried : {T : Type 0} → MemFolder T → Bool
is_tried folder = folder.tried

-- No call failed, and no tap came back.
pub record IsSteady {T : Type 0} (old new : MemFolder T) : Type 0 where
  pub faults : new.faults ≡ old.faults
  pub calls : calls_returned new ≡ calls_returned old

-- The plan is unchanged, and so is whether `enter` was called before.
pub record KeepsPlan {T : Type 0} (old new : MemFolder T) : Type 0 where
  pub plan : folder_plan new ≡ folder_plan old
  pub tried : is_tried new ≡ is_tried old

-- The next `enter` is the first, and is planned to fail.
pub record IsPlannedEnter {T : Type 0} (folder : MemFolder T) : Type 0 where
  pub fail_enter : IsTrue (folder_plan folder).fail_enter
  pub first : IsFalse (is_tried folder)

-- A failed `enter` is counted as an I/O error, a successful one is not. The plan is unchanged, and
-- no later `enter` is the first.
pub record CountsEnter {T R : Type 0} (old new : MemFolder T) (result : Result R EnterError)
    : Type 0 where
  pub failed : result ≡ Err Failed → RisesByOne old.faults new.faults
  pub steady : (result ≡ Err Failed → ⊥) → new.faults ≡ old.faults
  pub calls : calls_returned new ≡ calls_returned old
  pub plan : folder_plan new ≡ folder_plan old
  pub tried : is_tried new ≡ true
