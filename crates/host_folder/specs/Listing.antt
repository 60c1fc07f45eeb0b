-- Which files does a listing have, in which order, and under which names?
use Rattle.std.specs.Prelude.{◌≡◌, ℕ, true, List, map, string_bytes}
use Rattle.std.specs.List.{All, Any, AllPairs}
use Rattle.std.specs.List.Sorted.{IsSortedBy}
use Rattle.std.specs.Ordering.{nat_cmp, is_lt}
use Rattle.std.specs.Cmp.Lexicographic.{slice_cmp}
use Rattle.std.specs.declared.cmp.Ordering.{Ordering}
use Rattle.host_folder.specs.declared.listed.Listed.{Listed}

-- the bytes of a file's name
abbrev pub listed_name : Listed → List ℕ
listed_name file = string_bytes file.name

-- the names of the files, in the order of their numbers
abbrev pub listed_names : List Listed → List (List ℕ)
listed_names files = map listed_name files

-- how the names of two files compare, byte by byte
abbrev pub by_name : Listed → Listed → Ordering
by_name a b = slice_cmp nat_cmp (listed_name a) (listed_name b)

-- no name is less than the one before it
abbrev pub AreSorted : List Listed → Type 0
AreSorted files = IsSortedBy (λ a b. is_lt (by_name a b)) files

-- each name is less than all later ones, so there are no duplicates
abbrev pub AreInOrder : List Listed → Type 0
AreInOrder files = AllPairs (λ a b. is_lt (by_name a b) ≡ true) files

-- each old name is still the name of a file
abbrev pub KeepsNames : List Listed → List Listed → Type 0
KeepsNames old new = All (λ file. Any (λ kept. listed_name kept ≡ listed_name file) new) old
