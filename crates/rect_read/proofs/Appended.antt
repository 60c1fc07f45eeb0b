-- Values that were appended to others.
use Rattle.std.proofs.Common.{◌≡◌, ℕ, ◌+◌, ◌-◌, ◌<◌, List, ◌++◌, length, map}
use Rattle.std.proofs.Common.{slice_index, ap, ◌∙◌, arith, sym, inl, inr, refl, zero-add}
use Rattle.std.proofs.lemmas.Bool.{cases_lt}
use Rattle.std.specs.List.{range_with_len}
use Rattle.std.proofs.lemmas.Grind.{same_number_lists}
use Rattle.std.proofs.lemmas.List.{length-append, get_or_append_left, get_or-append_right}
use Rattle.std.proofs.lemmas.List.FromFn.{length-map-range_with_len, get_or-map-range_with_len}

-- the list is the old one, followed by the values of `count` numbers
pub is_appended : (old new : List ℕ) (value : ℕ → ℕ) (count : ℕ)
    → length new ≡ length old + count
    → ((k : ℕ) → k < length old → slice_index new k ≡ slice_index old k)
    → ((k : ℕ) → k < count → slice_index new (length old + k) ≡ value k)
    → new ≡ old ++ map value (range_with_len 0 count)
is_appended old new value count long before behind =
    let more = map value (range_with_len 0 count) in
    let more-long : length more ≡ count = length-map-range_with_len value 0 count in
    same_number_lists new (old ++ more)
    (long ∙ sym (length-append old more ∙ ap (λ (n : ℕ). length old + n) more-long))
    (λ k below. elim (cases_lt k (length old)) [
      | inl lt ↦ before k lt ∙ sym (get_or_append_left old more 0 k lt)
      | inr le ↦
          let e : length old + (k - length old) ≡ k = omega arith in
          let lt : k - length old < count = omega (arith, long) in
          ap (slice_index new) (sym e) ∙ behind (k - length old) lt
          ∙ sym (get_or-append_right old more (length old) k 0 refl le
          ∙ get_or-map-range_with_len value 0 count (k - length old) (k - length old) 0 lt
          (zero-add (k - length old)))
    ])
