-- Pieces joined one after another.
use Rattle.std.proofs.Common.{◌≡◌, ℕ, zero, suc, ◌+◌, ◌-◌, ◌≤◌, ◌<◌, List, ◌++◌}
use Rattle.std.proofs.Common.{Option, Result, IsErr, sym, subst, arith, add-one}
use Rattle.tex_world.specs.Stream.{Appends, AppendsPart}
use Rattle.tex_make.specs.Joined.{joined}
use Rattle.tex_world.specs.Counts.{Rises}
use Rattle.tex_make.specs.Sink.{SinkState, Puts}
use Rattle.tex_make.proofs.Sinks.{part_of_more, part_after, appends_more, rises_after, puts_err}

-- a first part of the first pieces is one of more of them
part_of_pieces : (piece : ℕ → List ℕ) (i n : ℕ) (s t : Option (List ℕ))
    → AppendsPart (joined piece i) s t → AppendsPart (joined piece (i + n)) s t
part_of_pieces piece i zero s t part =
    let same : i ≡ i + 0 = omega arith in
    subst (λ (k : ℕ). AppendsPart (joined piece k) s t) same part
part_of_pieces piece i (suc n) s t part =
    let same : suc (i + n) ≡ i + suc n = omega arith in
    subst (λ (k : ℕ). AppendsPart (joined piece k) s t) same
    (part_of_more (joined piece (i + n)) (piece (i + n)) s t (part_of_pieces piece i n s t part))

-- the pieces before one, and a first part of it
part_of_joined : (piece : ℕ → List ℕ) (n i : ℕ) → i < n → (s t : Option (List ℕ))
    → AppendsPart (joined piece i ++ piece i) s t → AppendsPart (joined piece n) s t
part_of_joined piece n i below s t part =
    let all : suc i + (n - suc i) ≡ n = omega arith in
    subst (λ (k : ℕ). AppendsPart (joined piece k) s t) all
    (part_of_pieces piece (suc i) (n - suc i) s t part)

-- ---- a call for each piece

-- one that failed
pub joined_err : {E : Type 0} (piece : ℕ → List ℕ) (n i : ℕ) (bytes : List ℕ) (s t u : SinkState)
    (r : Result (Unit {0}) E) → i < n → bytes ≡ piece i → IsErr r
    → Appends (joined piece i) s.holds t.holds → s.faults ≤ t.faults
    → AppendsPart bytes t.holds u.holds → Rises t.faults u.faults → Puts (joined piece n) s u r
joined_err piece n i bytes s t u r below is failed first later part rose =
    puts_err (joined piece n) s u r failed
    (part_of_joined piece n i below s.holds u.holds
    (part_after (joined piece i) (piece i) s.holds t.holds u.holds first
    (subst (λ (xs : List ℕ). AppendsPart xs t.holds u.holds) is part)))
    (rises_after s.faults t.faults u.faults later rose)

-- one that was answered
pub joined_more : (piece : ℕ → List ℕ) (i : ℕ) (bytes : List ℕ) (s t u : Option (List ℕ))
    → bytes ≡ piece i → Appends (joined piece i) s t → Appends bytes t u
    → Appends (joined piece (i + 1)) s u
joined_more piece i bytes s t u is first second =
    subst (λ (k : ℕ). Appends (joined piece k) s u) (sym (add-one i))
    (appends_more (joined piece i) (piece i) s t u first
    (subst (λ (xs : List ℕ). Appends xs t u) is second))
