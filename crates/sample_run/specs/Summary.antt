-- What does the line about what a run wrote say? (docs/REQUESTS.md, "The sample program")
use Rattle.std.specs.Prelude.{ℕ, ◌==◌, codes, decimal, List, [], ◌∷◌, ◌++◌, length, sum, count_by}
use Rattle.request_lang.specs.Grammar.{line_feed}

-- the number of line feeds
abbrev pub line_feeds : List ℕ → ℕ
line_feeds bytes = count_by (λ b. b == line_feed) bytes

-- lines L bytes B sum S: the line feeds, the bytes, and the sum of the bytes
abbrev pub summary : List ℕ → List ℕ
summary bytes =
    codes "lines " ++ (decimal (line_feeds bytes) ++ (codes " bytes " ++ (decimal (length bytes)
    ++ (codes " sum " ++ (decimal (sum bytes) ++ line_feed ∷ [])))))
