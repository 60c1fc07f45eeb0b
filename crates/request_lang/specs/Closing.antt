-- What do the closing lines of a run say? (docs/REQUESTS.md, "The closing lines")
use Rattle.std.specs.Prelude.{ℕ, ◌+◌, ◌==◌, if◌then◌else◌, codes, List, [], ◌∷◌, ◌++◌}
use Rattle.request_lang.specs.Grammar.{line_feed}
use Rattle.short_text.specs.Number.{fields}
use Rattle.request_lang.specs.declared.closing.Counts.{Counts}

-- the number of uncached needs, if it is not 0
abbrev pub apart_field : ℕ → List ℕ
apart_field apart = if apart == 0 then [] else codes " apart" ++ fields (apart ∷ [])

-- the line of a worker, with its line feed
abbrev pub worker_line : ℕ → Counts → List ℕ
worker_line worker counts =
    (codes "worker" ++ fields (worker ∷ [])) ++ (codes " needs" ++ fields (counts.needs ∷ []))
    ++ (codes " hits" ++ fields (counts.hits ∷ [])) ++ apart_field counts.apart ++ line_feed ∷ []

-- the line with the numbers of requests and refusals, with its line feed
abbrev pub total_line : ℕ → ℕ → List ℕ
total_line total refused =
    (codes "total" ++ fields (total ∷ [])) ++ (codes " refused" ++ fields (refused ∷ []))
    ++ line_feed ∷ []

-- the lines of the workers, from this number on
abbrev pub worker_lines : ℕ → List Counts → List ℕ
worker_lines worker [] = []
worker_lines worker (c ∷ counts) = worker_line worker c ++ worker_lines (worker + 1) counts

-- The closing lines: one for each worker, from 0 on, and one for all requests.
unfoldable pub closing_lines : List Counts → ℕ → ℕ → List ℕ
closing_lines counts total refused = worker_lines 0 counts ++ total_line total refused
