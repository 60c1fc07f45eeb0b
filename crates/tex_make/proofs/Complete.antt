-- If nothing failed and the file can be made into a texture, it was.
use Rattle.std.proofs.Common.{◌≡◌, ℕ, List, IsSome, Option, Some, None}
use Rattle.std.proofs.Common.{refl, sym, ◌∙◌, subst, arith}
use Rattle.std.specs.Option.{ForSome}
use Rattle.tex_world.specs.Counts.{Rises}
use Rattle.tex_world.specs.World.{Files, IsWorld}
use Rattle.tex_world.specs.Folder.{FolderState, IsFolder}
use Rattle.tex_make.specs.declared.ending.MakeError.{MakeError}
use Rattle.tex_make.specs.declared.ending.MakeError.TheVariants.{Failed, NoMemory, NoSuchFile}
use Rattle.tex_make.specs.declared.ending.MakeError.TheVariants.{BadFile, TooLarge, Gone, TooMany}
use Rattle.tex_make.specs.Words.{Wanted}
use Rattle.tex_make.specs.MakeError.{status_of}
use Rattle.tex_make.specs.Reading.{IsSource, IsLargeSource, IsBadSource}
use Rattle.tex_make.specs.Make.{Around, Reads, HasCause, HasSource, StaysAt, IsCalm}

-- a count that stays has not risen
stays : (old new : ℕ) → StaysAt old new → Rises old new → ⊥
stays old new same rose =
    let more = rose.rose same.short in
    omega (arith, more, same.same)

-- a bad file is no source, nor is a large one
not_bad : (bytes : List ℕ) → IsSource bytes → IsBadSource bytes → ⊥
not_bad bytes source bad = let good = source.good in cc (good, bad)

not_large : (bytes : List ℕ) → IsSource bytes → IsLargeSource bytes → ⊥
not_large bytes source large = omega (arith, source.small, large.large)

module _ (files : Files) (world : IsWorld files) (asked : Wanted) (folder : FolderState)
    (lawful : IsFolder files folder) (source : HasSource files asked) where
  -- the file that was read is the one that is there
  file_is : (fact : List ℕ → Type 0) → (reads : Reads files asked folder fact)
      → reads.file ≡ source.file
  file_is fact reads =
      let entered : IsSome folder.entered = subst IsSome (sym reads.entered) refl in
      let size = lawful.told entered source.tells in
      let low = lawful.numbered asked.name reads.file reads.named in
      world.distinct source.tells reads.file source.file (omega (arith, low, size)) source.there
      (lawful.named source.tells asked.name reads.file reads.named ∙ sym source.named)

  -- what was read of the file excludes the other cases
  no_other : (fact : List ℕ → Type 0) → ((bytes : List ℕ) → IsSource bytes → fact bytes → ⊥)
      → Reads files asked folder fact → ⊥
  no_other fact never reads =
      let g = reads.read.generation in
      with_bytes (files.held reads.file g) (reads.read.real.held source.tells) reads.read.told
      (subst (λ (n : ℕ). ForSome (files.held n g) IsSource) (sym (file_is fact reads)) (source.each g))
    where
      with_bytes : (held : Option (List ℕ)) → IsSome held → ForSome held fact
          → ForSome held IsSource → ⊥
      with_bytes None some told good = absurd (cc some)
      with_bytes (Some bytes) some told good = never bytes (good bytes refl) (told bytes refl)

-- the ending is out of memory
pub ending_is : (files : Files) → IsWorld files → (asked : Wanted) (old new : Around)
    → IsFolder files new.folder → HasSource files asked → IsCalm old new → (ending : MakeError)
    → HasCause files asked old.folder new.folder ending → status_of ending ≡ 6
ending_is files world asked old new lawful source calm Failed cause =
    absurd (stays old.folder.faults new.folder.faults calm.faults cause)
ending_is files world asked old new lawful source calm NoMemory cause = refl
ending_is files world asked old new lawful source calm NoSuchFile cause =
    absurd (lawful.unnamed (subst IsSome (sym cause.entered) refl) source.tells asked.name cause.none
    source.file source.there source.named)
ending_is files world asked old new lawful source calm BadFile cause =
    absurd (no_other files world asked new.folder lawful source IsBadSource not_bad cause)
ending_is files world asked old new lawful source calm TooLarge cause =
    absurd (no_other files world asked new.folder lawful source IsLargeSource not_large cause)
ending_is files world asked old new lawful source calm Gone cause =
    absurd (stays old.folder.moves new.folder.moves calm.moves cause)
ending_is files world asked old new lawful source calm TooMany cause =
    absurd (cause.untold source.tells)
