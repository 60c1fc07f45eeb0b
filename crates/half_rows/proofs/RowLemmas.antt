-- Samples of a row that lies among others.
use Rattle.std.proofs.Common.{◌≡◌, ℕ, ◌+◌, ◌<◌, List, ◌++◌, length, slice_index, sym, ap, ◌∙◌}
use Rattle.std.proofs.lemmas.List.{get_or_append_left, get_or-append-add}

-- an element in the middle of a list
pub in_middle : (a b c : List ℕ) (start k : ℕ) → length a ≡ start → k < length b
    → slice_index (a ++ (b ++ c)) (start + k) ≡ slice_index b k
in_middle a b c start k is below =
    ap (λ (q : ℕ). slice_index (a ++ (b ++ c)) (q + k)) (sym is)
    ∙ get_or-append-add a (b ++ c) k 0 ∙ get_or_append_left b c 0 k below
