-- What does a feed have left, and what has a sink received, if they are modelled?
use Rattle.std.specs.Prelude.{◌≡◌, ◌↔◌, ℕ, ◌≤◌, List, [], ◌++◌, length, take, drop, Option, Some}
use Rattle.std.specs.Option.{ForSome}

-- A successful read of n bytes: they are taken off the front of what was left, and n is 0 only at
-- the end.
pub record Feeds (n : ℕ) (buf : List ℕ) (old new : Option (List ℕ)) : Type 0 where
  pub within : n ≤ length buf
  pub rest : ForSome old (λ left. new ≡ Some (drop n left))
  pub enough : ForSome old (λ left. n ≤ length left)
  pub front : ForSome old (λ left. take n buf ≡ take n left)
  pub end : ForSome old (λ left. (n ≡ 0) ↔ (left ≡ []))

-- all bytes were appended
abbrev pub Appends : List ℕ → Option (List ℕ) → Option (List ℕ) → Type 0
Appends bytes old new = ForSome old (λ held. new ≡ Some (held ++ bytes))

-- a first part of the bytes was appended
abbrev pub AppendsPart : List ℕ → Option (List ℕ) → Option (List ℕ) → Type 0
AppendsPart bytes old new =
    ForSome old (λ held. (k : ℕ) × (k ≤ length bytes) × (new ≡ Some (held ++ take k bytes)))
