-- What does a real folder count, and what do contracts know of it?
use Rattle.std.specs.Prelude.{◌≡◌, ℕ, ◌<◌, ◌≤◌, List, [], length, Option, Some, None}
use Rattle.std.specs.Prelude.{string_bytes}
use Rattle.std.specs.Option.{ForSome}
use Rattle.std.proofs.Common.{arith, refl}
use Rattle.std.proofs.lemmas.List.{length-map}
use Rattle.std.specs.Arc.{arc_value}
use Rattle.std.specs.declared.sync.Arc.{Arc}
use Rattle.tex_world.specs.World.{max_files}
use Rattle.tex_world.specs.Folder.{FolderState, IsFolder}
use Rattle.tex_world.specs.Number.{number_in}
use Rattle.tex_world.specs.NumberLaws.{stands_at_number}
use Rattle.host_folder.specs.Listing.{listed_name, listed_names}
use Rattle.host_folder.specs.RealWorld.{untold_files}
use Rattle.host_folder.specs.declared.listed.Listed.{Listed}
use Rattle.host_folder.specs.declared.listing.Listing.{Listing}
use Rattle.host_folder.specs.declared.folder.RealFolder.{RealFolder}

-- the path of a listing, if there is one
abbrev pub listed_path : {A : Type 0} → Option (Arc Listing A) → Option (List ℕ)
listed_path None = None
listed_path (Some listing) = Some (string_bytes (arc_value listing).path)

-- the files of a listing; none if there is no listing
abbrev pub listed_in : {A : Type 0} → Option (Arc Listing A) → List Listed
listed_in None = []
listed_in (Some listing) = (arc_value listing).files.items

-- the number of files of a listing; 0 if there is no listing
abbrev pub listed_files : {A : Type 0} → Option (Arc Listing A) → ℕ
listed_files None = 0
listed_files (Some listing) = length (arc_value listing).files.items

-- The counts in the folder's fields. The folder is entered if it has a listing.
abbrev pub folder_state : {R : Type 0} → RealFolder R → FolderState
folder_state folder = record {
  faults = folder.faults;
  moves = folder.moves;
  made = folder.made;
  returned = folder.returned;
  over = folder.over;
  entered = listed_path folder.listing;
  size = listed_files folder.listing;
  number_of = number_in (listed_names (listed_in folder.listing));
}

few_listed : {A : Type 0} (listing : Option (Arc Listing A)) → listed_files listing ≤ max_files
few_listed None = omega arith
few_listed (Some listing) = (arc_value listing).few

none_before : {A : Type 0} (listing : Option (Arc Listing A)) → listed_path listing ≡ None
    → listed_files listing ≡ 0
none_before None same = refl
none_before (Some listing) same = cc

-- A name's number belongs to a file of the listing.
numbered : {A : Type 0} (listing : Option (Arc Listing A)) (name : List ℕ)
    → ForSome (number_in (listed_names (listed_in listing)) name) (λ n. n < listed_files listing)
numbered None name n found = absurd (cc found)
numbered (Some listing) name n found =
    let files = (arc_value listing).files.items in
    let at = stands_at_number (listed_names files) name n found in
    omega (arith, at.0, length-map files listed_name)

unnumbered : {A : Type 0} (listing : Option (Arc Listing A)) → listed_path listing ≡ None
    → (name : List ℕ) → number_in (listed_names (listed_in listing)) name ≡ None
unnumbered None before name = refl
unnumbered (Some listing) before name = absurd (cc before)

-- A listing has few enough files; without a listing there are none.
pub folder_is_lawful : {R : Type 0} (folder : RealFolder R)
    → IsFolder untold_files (folder_state folder)
folder_is_lawful folder = record {
  few = few_listed folder.listing;
  before = none_before folder.listing;
  told = λ entered told. cc;
  numbered = numbered folder.listing;
  unnumbered = unnumbered folder.listing;
  named = λ told. cc;
  unnamed = λ entered told. cc;
}
