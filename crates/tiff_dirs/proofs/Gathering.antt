-- Values that are gathered block by block.
use Rattle.std.proofs.Common.{◌≡◌, ℕ, ◌+◌, ◌-◌, ◌<◌, ◌≤◌, List, length, get_or, take, refl, sym, ap}
use Rattle.std.proofs.Common.{◌∙◌, arith, inl, inr}
use Rattle.std.proofs.lemmas.Bool.{cases_lt}
use Rattle.std.proofs.lemmas.Grind.{same_number_lists}
use Rattle.std.proofs.lemmas.List.{length-take, get_or-take}
use Rattle.tiff_dirs.specs.Values.{AppendsNumbers, AreFirstValues}

-- the numbers that were appended
at_behind : (n : ℕ) (number : ℕ → ℕ) (old new : List ℕ) → AppendsNumbers n number old new
    → (i : ℕ) → length old ≤ i
    → i < length new → (k : ℕ) × (k < n) × (i ≡ length old + k) × (get_or new i 0 ≡ number k)
at_behind n number old new app i le lt =
    let k = i - length old in
    let below : k < n = omega (arith, app.long) in
    let same : length old + k ≡ i = omega arith in
    (k, below, sym same, ap (λ j. get_or new j 0) (sym same) ∙ app.more k below)

pub first_more : (more : ℕ) (number value : ℕ → ℕ) (old new : List ℕ)
    → AreFirstValues (length old) value old → AppendsNumbers more number old new
    → ((k : ℕ) → k < more → number k ≡ value (length old + k)) → AreFirstValues (length new) value new
first_more more number value old new first app is = record {
  long = refl;
  same = λ i lt. elim (cases_lt i (length old)) [
    | inl below ↦ app.same i below ∙ first.same i below
    | inr le ↦
        let b = at_behind more number old new app i le lt in
        b.3 ∙ is b.0 b.1 ∙ ap value (sym b.2)
  ];
}

pub first_is_taken : (n : ℕ) (value : ℕ → ℕ) (all kept : List ℕ) → n ≤ length all
    → ((i : ℕ) → i < n → get_or all i 0 ≡ value i) → AreFirstValues n value kept → kept ≡ take n all
first_is_taken n value all kept enough are first =
    same_number_lists kept (take n all) (omega (arith, first.long, length-take n all))
    (λ k lt. let below : k < n = omega (arith, first.long) in
    first.same k below ∙ sym (are k below) ∙ sym (get_or-take n all k 0 below))
