-- Which supplies are what a call needs, and why is another one not accepted?
use Rattle.std.specs.Prelude.{◌≡◌, ◌⊎◌, ℕ, ◌+◌, ◌<◌, ◌≤◌, ⊤, Option, None, Some, List, [], ◌∷◌}
use Rattle.tex_world.specs.World.{last_generation}
use Rattle.supplied_tap.specs.declared.supply.Need.{Need}
use Rattle.supplied_tap.specs.declared.supply.Need.TheVariants.{Look, Bytes, Rows}
use Rattle.supplied_tap.specs.declared.supply.RowsAt.{RowsAt}
use Rattle.supplied_tap.specs.declared.supply.Seen.{Seen}
use Rattle.supplied_tap.specs.declared.supply.SupplyError.{SupplyError}
use Rattle.supplied_tap.specs.declared.supply.SupplyError.TheVariants as refused

-- The call needs a freshness check, or bytes for which a newer generation may be supplied instead.
-- `P` holds of the file and of the least generation.
abbrev pub LacksLook : Option Need → (ℕ → ℕ → Type 0) → Type 0
LacksLook None P = ⊥
LacksLook (Some (Look file least)) P = P file least
LacksLook (Some (Bytes file generation at least most)) P = P file (generation + 1)
LacksLook (Some (Rows rows size)) P = P rows.file (rows.generation + 1)

-- this look shows a possible generation of the file, and is what the call needs
abbrev pub FitsLook : Option Need → ℕ → ℕ → Type 0
FitsLook need file generation =
    LacksLook need (λ f least. (f ≡ file) × (least ≤ generation))
    × (1 ≤ generation) × (generation ≤ last_generation)

-- why a look is not accepted
abbrev pub LookCause : Option Need → ℕ → ℕ → SupplyError → Type 0
LookCause need file generation refused.NotNeeded = need ≡ None
LookCause need file generation refused.OtherPlace = LacksLook need (λ f _. ¬ (f ≡ file))
LookCause need file generation refused.Older = LacksLook need (λ _ least. generation < least)
LookCause need file generation refused.OtherGeneration =
    (generation ≡ 0) ⊎ (last_generation < generation)
LookCause need file generation refused.NoMemory = ⊤
LookCause need file generation e = ⊥

-- the first of these looks is what the call needs
abbrev pub FitsLooks : Option Need → List Seen → Type 0
FitsLooks need [] = ⊥
FitsLooks need (first ∷ more) = FitsLook need first.file first.generation

-- why several looks are not accepted: there are none, or the first is not accepted
abbrev pub LooksCause : Option Need → List Seen → SupplyError → Type 0
LooksCause need [] e = e ≡ refused.Short
LooksCause need (first ∷ more) e = LookCause need first.file first.generation e

-- why a fault is not accepted: nothing is needed
abbrev pub FaultCause : Option Need → SupplyError → Type 0
FaultCause need e = (e ≡ refused.NotNeeded) × (need ≡ None)

-- The call needs bytes. `P` holds of the file, the generation, the place, and the least and the
-- greatest number of bytes.
abbrev pub LacksBytes : Option Need → (ℕ → ℕ → ℕ → ℕ → ℕ → Type 0) → Type 0
LacksBytes None P = ⊥
LacksBytes (Some (Look file least)) P = ⊥
LacksBytes (Some (Bytes file generation at least most)) P = P file generation at least most
LacksBytes (Some (Rows rows size)) P = ⊥

-- these bytes are what the call needs
abbrev pub FitsBytes : Option Need → ℕ → ℕ → ℕ → ℕ → Type 0
FitsBytes need file generation at size = LacksBytes need (λ f g a least most.
    (f ≡ file) × (g ≡ generation) × (a ≡ at) × (least ≤ size) × (size ≤ most))

-- why bytes are not accepted
abbrev pub BytesCause : Option Need → ℕ → ℕ → ℕ → ℕ → SupplyError → Type 0
BytesCause need file generation at size refused.NotNeeded = ¬ LacksBytes need (λ _ _ _ _ _. ⊤)
BytesCause need file generation at size refused.OtherPlace =
    LacksBytes need (λ f _ a _ _. ¬ ((f ≡ file) × (a ≡ at)))
BytesCause need file generation at size refused.Older =
    LacksBytes need (λ _ g _ _ _. generation < g)
BytesCause need file generation at size refused.OtherGeneration =
    LacksBytes need (λ _ g _ _ _. g < generation)
BytesCause need file generation at size refused.Short =
    LacksBytes need (λ _ _ _ least _. size < least)
BytesCause need file generation at size refused.Long =
    LacksBytes need (λ _ _ _ _ most. most < size)
BytesCause need file generation at size refused.NoMemory = ⊤

-- The call needs rows. `P` holds of the rows and of their number of bytes.
abbrev pub LacksRows : Option Need → (RowsAt → ℕ → Type 0) → Type 0
LacksRows None P = ⊥
LacksRows (Some (Look file least)) P = ⊥
LacksRows (Some (Bytes file generation at least most)) P = ⊥
LacksRows (Some (Rows rows size)) P = P rows size

-- these rows are what the call needs
abbrev pub FitsRows : Option Need → RowsAt → ℕ → Type 0
FitsRows need p size = LacksRows need (λ q whole. (q ≡ p) × (whole ≡ size))

-- the two name different places
abbrev pub AreElsewhere : RowsAt → RowsAt → Type 0
AreElsewhere p q = ¬ ((p.file ≡ q.file) × (p.at ≡ q.at) × (p.stride ≡ q.stride) × (p.row ≡ q.row))

-- why rows are not accepted
abbrev pub RowsCause : Option Need → RowsAt → ℕ → SupplyError → Type 0
RowsCause need p size refused.NotNeeded = ¬ LacksRows need (λ _ _. ⊤)
RowsCause need p size refused.OtherPlace = LacksRows need (λ q _. AreElsewhere q p)
RowsCause need p size refused.Older = LacksRows need (λ q _. p.generation < q.generation)
RowsCause need p size refused.OtherGeneration = LacksRows need (λ q _. q.generation < p.generation)
RowsCause need p size refused.Short = LacksRows need (λ _ whole. size < whole)
RowsCause need p size refused.Long = LacksRows need (λ _ whole. whole < size)
RowsCause need p size refused.NoMemory = ⊤
