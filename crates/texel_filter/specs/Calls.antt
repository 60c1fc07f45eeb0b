-- What do several calls of `texel` leave, one after another, and what is a lawful `Fetch`?
use Rattle.std.specs.Prelude.{◌≡◌, ◌⊎◌, List, [], ◌∷◌, Option, Result, Ok, Err}
use Rattle.texel_filter.specs.Image.{Sizes, Values, Texel}

-- all these texels were answered, one after another
abbrev pub EachAnswered : {S : Type 0} → (S → Texel → S → Type 0) → S → List Texel → S → Type 0
EachAnswered leaves old [] new = new ≡ old
EachAnswered {S} leaves old (texel ∷ rest) new =
    (mid : S) × leaves old texel mid × EachAnswered leaves mid rest new

-- one of these texels was refused with an error, after those before it were answered
abbrev pub OneRefused : {S E : Type 0} → (S → Texel → S → Type 0) → (S → Texel → E → S → Type 0)
    → S → List Texel → E → S → Type 0
OneRefused leaves refuses old [] e new = ⊥
OneRefused {S} leaves refuses old (texel ∷ rest) e new =
    refuses old texel e new
    ⊎ ((mid : S) × leaves old texel mid × OneRefused leaves refuses mid rest e new)

-- what the calls for these texels leave, by their result
abbrev pub LeftBy : {S T E : Type 0} → (S → Texel → S → Type 0) → (S → Texel → E → S → Type 0)
    → S → List Texel → S → Result T E → Type 0
LeftBy leaves refuses old texels new (Ok done) = EachAnswered leaves old texels new
LeftBy leaves refuses old texels new (Err e) = OneRefused leaves refuses old texels e new

-- No call changes the levels, their sizes or the values.
pub record IsFetch {S E : Type 0} (sizes : S → Sizes) (values : S → Option Values)
    (leaves : S → Texel → S → Type 0) (refuses : S → Texel → E → S → Type 0) : Type 0 where
  pub same_sizes : (s t : S) (at : Texel) → leaves s at t → sizes t ≡ sizes s
  pub same_values : (s t : S) (at : Texel) → leaves s at t → values t ≡ values s
  pub sizes_refused : (s t : S) (at : Texel) (e : E) → refuses s at e t → sizes t ≡ sizes s
  pub values_refused : (s t : S) (at : Texel) (e : E) → refuses s at e t → values t ≡ values s
