-- What calls leave, one after another.
use Rattle.std.proofs.Common.{◌≡◌, ℕ, ◌≤◌, refl, subst, ◌∙◌, inl, inr, List, [], ◌∷◌, ◌++◌, length}
use Rattle.std.proofs.Common.{Option, Result, Ok, Err, IfErr, OnOk, ap, arith}
use Rattle.std.proofs.Math.ListN.{get_or-append}
use Rattle.texel_filter.specs.Image.{Sizes, Values, Texel, AreFirst}
use Rattle.texel_filter.specs.Calls.{EachAnswered, OneRefused, LeftBy, IsFetch}

-- one call more in front
pub left_after : {S T E : Type 0} (leaves : S → Texel → S → Type 0)
    (refuses : S → Texel → E → S → Type 0) (old mid new : S) (at : Texel)
    (rest : List Texel) (r : Result T E) → leaves old at mid
    → LeftBy leaves refuses mid rest new r → LeftBy leaves refuses old (at ∷ rest) new r
left_after leaves refuses old mid new at rest (Ok done) first later = (mid, first, later)
left_after leaves refuses old mid new at rest (Err e) first later = inr (mid, first, later)

-- one call alone
pub left_alone : {S T E : Type 0} (leaves : S → Texel → S → Type 0)
    (refuses : S → Texel → E → S → Type 0) (old new : S) (at : Texel)
    (r : Result T E) → OnOk r (leaves old at new)
    → IfErr r (λ e. refuses old at e new) → LeftBy leaves refuses old (at ∷ []) new r
left_alone leaves refuses old new at (Ok done) ok err = (new, ok, refl)
left_alone leaves refuses old new at (Err e) ok err = inl err

-- four calls
pub left_by_four : {S T E : Type 0} (leaves : S → Texel → S → Type 0)
    (refuses : S → Texel → E → S → Type 0) (s0 s1 s2 s3 s4 : S) (t1 t2 t3 t4 : Texel)
    (r : Result T E) → leaves s0 t1 s1 → leaves s1 t2 s2 → leaves s2 t3 s3
    → OnOk r (leaves s3 t4 s4) → IfErr r (λ e. refuses s3 t4 e s4)
    → LeftBy leaves refuses s0 (t1 ∷ t2 ∷ t3 ∷ t4 ∷ []) s4 r
left_by_four leaves refuses s0 s1 s2 s3 s4 t1 t2 t3 t4 r h1 h2 h3 ok err =
    left_after leaves refuses s0 s1 s4 t1 (t2 ∷ t3 ∷ t4 ∷ []) r h1
    (left_after leaves refuses s1 s2 s4 t2 (t3 ∷ t4 ∷ []) r h2
    (left_after leaves refuses s2 s3 s4 t3 (t4 ∷ []) r h3
    (left_alone leaves refuses s3 s4 t4 r ok err)))

-- calls after calls that were answered
pub each_append : {S : Type 0} (leaves : S → Texel → S → Type 0) (old mid new : S)
    (xs ys : List Texel) → EachAnswered leaves old xs mid → EachAnswered leaves mid ys new
    → EachAnswered leaves old (xs ++ ys) new
each_append leaves old mid new [] ys first later =
    subst (λ s. EachAnswered leaves s ys new) first later
each_append leaves old mid new (x ∷ xs) ys first later =
    (first.0, first.1, each_append leaves first.0 mid new xs ys first.2 later)

pub refused_append : {S E : Type 0} (leaves : S → Texel → S → Type 0)
    (refuses : S → Texel → E → S → Type 0) (old mid new : S) (xs ys : List Texel) (e : E)
    → EachAnswered leaves old xs mid → OneRefused leaves refuses mid ys e new
    → OneRefused leaves refuses old (xs ++ ys) e new
refused_append leaves refuses old mid new [] ys e first later =
    subst (λ s. OneRefused leaves refuses s ys e new) first later
refused_append leaves refuses old mid new (x ∷ xs) ys e first later =
    inr (first.0, first.1, refused_append leaves refuses first.0 mid new xs ys e first.2 later)

pub left_append : {S T E : Type 0} (leaves : S → Texel → S → Type 0)
    (refuses : S → Texel → E → S → Type 0) (old mid new : S) (xs ys : List Texel)
    (r : Result T E) → EachAnswered leaves old xs mid → LeftBy leaves refuses mid ys new r
    → LeftBy leaves refuses old (xs ++ ys) new r
left_append leaves refuses old mid new xs ys (Ok done) first later =
    each_append leaves old mid new xs ys first later
left_append leaves refuses old mid new xs ys (Err e) first later =
    refused_append leaves refuses old mid new xs ys e first later

-- further calls are not made after a refusal
pub refused_before : {S E : Type 0} (leaves : S → Texel → S → Type 0)
    (refuses : S → Texel → E → S → Type 0) (old new : S) (xs ys : List Texel) (e : E)
    → OneRefused leaves refuses old xs e new → OneRefused leaves refuses old (xs ++ ys) e new
refused_before leaves refuses old new [] ys e h = absurd h
refused_before leaves refuses old new (x ∷ xs) ys e (inl here) = inl here
refused_before leaves refuses old new (x ∷ xs) ys e (inr later) =
    inr (later.0, later.1, refused_before leaves refuses later.0 new xs ys e later.2)

-- answered calls change neither the sizes nor the values
pub sizes_after : {S E : Type 0} {sizes : S → Sizes} {values : S → Option Values}
    {leaves : S → Texel → S → Type 0} {refuses : S → Texel → E → S → Type 0}
    → IsFetch sizes values leaves refuses → (old new : S) (xs : List Texel)
    → EachAnswered leaves old xs new → sizes new ≡ sizes old
sizes_after {sizes} law old new [] h = ap sizes h
sizes_after law old new (x ∷ xs) h =
    sizes_after law h.0 new xs h.2 ∙ law.same_sizes old h.0 x h.1

pub values_after : {S E : Type 0} {sizes : S → Sizes} {values : S → Option Values}
    {leaves : S → Texel → S → Type 0} {refuses : S → Texel → E → S → Type 0}
    → IsFetch sizes values leaves refuses → (old new : S) (xs : List Texel)
    → EachAnswered leaves old xs new → values new ≡ values old
values_after {values} law old new [] h = ap values h
values_after law old new (x ∷ xs) h =
    values_after law h.0 new xs h.2 ∙ law.same_values old h.0 x h.1

-- the values of a part in front are those of the whole
pub first_of_part : (value : ℕ → ℕ) (part rest : List ℕ) (n : ℕ) → n ≤ length part
    → AreFirst (length part) value part → AreFirst n value (part ++ rest)
first_of_part value part rest n long are c below =
    get_or-append part rest 0 c (omega arith) ∙ are c (omega arith)

-- where there is an answer, what follows from a fact of it
pub on_ok : {T E P Q : Type 0} (r : Result T E) → OnOk r P → (P → Q) → OnOk r Q
on_ok (Ok done) h further = further h
on_ok (Err e) h further = tt
