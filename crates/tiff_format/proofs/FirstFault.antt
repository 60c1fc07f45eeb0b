-- The first fault of two lists of faults, and the case without faults.
use Rattle.std.proofs.Common.{◌≡◌, List, [], ◌∷◌, ◌++◌, Option, Some, None, refl, sym, ap, ◌∙◌}
use Rattle.std.specs.Option.{option_or}
use Rattle.std.proofs.lemmas.Option.{none-some}
use Rattle.tiff_format.specs.declared.fault.TiffFault.{TiffFault}
use Rattle.tiff_format.specs.DirectoryFault.{first_of}

pub or_assoc : (a b c : Option TiffFault)
    → option_or (option_or a b) c ≡ option_or a (option_or b c)
or_assoc None b c = refl
or_assoc (Some x) b c = refl

pub or_none : (a : Option TiffFault) → option_or a None ≡ a
or_none None = refl
or_none (Some x) = refl

-- one list after the other
pub first_of_both : (xs ys : List (Option TiffFault))
    → first_of (xs ++ ys) ≡ option_or (first_of xs) (first_of ys)
first_of_both [] ys = refl
first_of_both (x ∷ xs) ys =
    ap (option_or x) (first_of_both xs ys) ∙ sym (or_assoc x (first_of xs) (first_of ys))

-- neither of two is there
pub none_of_two : {A : Type 0} (a b : Option A) → option_or a b ≡ None → (a ≡ None) × (b ≡ None)
none_of_two None b none = (refl, none)
none_of_two (Some x) b none = absurd (none-some x (sym none))
