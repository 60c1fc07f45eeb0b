-- What follows if an entry of a plan passes a test, and if a read meets a newer generation?
use Rattle.std.proofs.Common.{◌≡◌, ℕ, ◌+◌, ◌<◌, ◌≤◌, zero, suc, Bool, true, false, List, [], ◌∷◌}
use Rattle.std.proofs.Common.{◌&&◌, nat_lt, length, get_or, take, filter, All, Result, Err}
use Rattle.std.proofs.Common.{Ok, IsTrue, if◌then◌else◌, arith, sym}
use Rattle.std.specs.Prelude.{IfErr}
use Rattle.std.proofs.lemmas.Grind.{common_steps}
use Rattle.std.proofs.lemmas.List.Elements.{filter_passes}
use Rattle.std.proofs.lemmas.Bool.{and_parts}
use Rattle.std.proofs.lemmas.List.Sums.{length-filter, count_by-le-length}
use Rattle.std.proofs.lemmas.Bool.Decides.{nat_tests}
use Rattle.tex_world.specs.World.{Files, IsReal, is_held}
use Rattle.tex_world.specs.Tap.{Named, NamesNewer}
use Rattle.tex_world.specs.MemTap.{IsReadOf}
use Rattle.tex_world.specs.TapPlan.{TapPlan, covers, is_failing_read, is_rising, met, planned_read}
use Rattle.tex_world.specs.declared.fault.ReadError.TheVariants.{Failed, Gone}
use Rattle.tex_world.specs.declared.fault.ReadError.{ReadError}
use Rattle.tex_world.specs.declared.plan.Rise.{Rise}
use Rattle.tex_world.specs.declared.reading.ReadRequest.{ReadRequest}

-- If an element passes, some element passes.
pub some_pass : {X : Type 0} (p : X → Bool) (xs : List X) (i : ℕ) (d : X) → i < length xs
    → p (get_or xs i d) ≡ true → filter p xs ≡ [] → ⊥
some_pass p [] i d low here none = omega (arith, low)
some_pass p (x ∷ xs) zero d low here none = grind (arith, common_steps, here, none)
some_pass p (x ∷ xs) (suc i) d low here none =
    let rest = some_pass p xs i d (omega (arith, low)) here in
    grind (arith, common_steps, rest, none)

-- At most i of the first i elements pass.
pub passed_within : {X : Type 0} (p : X → Bool) (xs : List X) (i : ℕ) → i ≤ length xs
    → length (filter p (take i xs)) ≤ i
passed_within p xs i low =
    let here = length-filter p (take i xs) in
    let most = count_by-le-length p (take i xs) in
    grind (arith, common_steps, here, most)

-- one rise alone is met, and it is one of them
met_by : (P : Rise → Type 0) (es : List Rise) (to : ℕ) → All P es → met es ≡ Err (Gone to)
    → (e : Rise) × P e × (e.to ≡ to)
met_by P [] to all gone = absurd (cc gone)
met_by P (e ∷ []) to all gone = (e, all 0 e (omega arith), grind (arith, gone))
met_by P (e ∷ f ∷ es) to all gone = absurd (cc gone)

-- a read that does not fail meets what is planned of its rises
not_failed : (fails : Bool) (r : Result (Unit {0}) ReadError) (to : ℕ)
    → (if fails then Err Failed else r) ≡ Err (Gone to) → r ≡ Err (Gone to)
not_failed true r to gone = absurd (cc gone)
not_failed false r to gone = gone

-- The generation that a read meets is held, and newer than the read's.
pub read_meets : (files : Files) (plan : TapPlan) (calls : ℕ) (read : ReadRequest) (to : ℕ)
    → planned_read files plan calls read ≡ Err (Gone to)
    → IsTrue (is_held files read.file to) × (read.generation < to)
read_meets files plan calls read to gone =
    let test = is_rising files read in
    let one = met_by (λ e. test e ≡ true) (filter test plan.rises) to
    (filter_passes test plan.rises)
    (not_failed (is_failing_read plan (calls + 1) read) (met (filter test plan.rises)) to gone) in
    let e = one.0 in
    let here = and_parts (is_held files e.file e.to)
    (nat_lt read.generation e.to && covers read e.file e.at) one.1 in
    let newer = and_parts (nat_lt read.generation e.to) (covers read e.file e.at) here.1 in
    let file : e.file ≡ read.file = grind (arith, nat_tests, newer.1) in
    let later : read.generation < e.to = grind (arith, nat_tests, newer.0) in
    (grind (arith, here.0, file, one.2), grind (arith, later, one.2))

-- What a planned read names is held, and newer than the read's generation.
pub read_names : (files : Files) (handle : Named) (plan : TapPlan) (calls : ℕ) (read : ReadRequest)
    (answer : Result (Unit {0}) ReadError) → IsReadOf handle read
    → answer ≡ planned_read files plan calls read
    → ((to : ℕ) → IsTrue (is_held files handle.file to) → IsReal files handle.file to)
    → IfErr answer (NamesNewer files handle)
read_names files handle plan calls read (Ok x) of answered real = tt
read_names files handle plan calls read (Err Failed) of answered real = tt
read_names files handle plan calls read (Err (Gone to)) of answered real =
    let newer = read_meets files plan calls read to (sym answered) in
    (real to (grind (arith, of.file, newer.0)), grind (arith, of.generation, newer.1))
