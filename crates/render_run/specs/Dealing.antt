-- In which round is a request answered, and by which worker? (docs/REQUESTS.md, "Rounds")
use Rattle.std.specs.Prelude.{◌≡◌, ℕ, ◌+◌, ◌*◌, ◌%◌, ◌<◌, ◌≤◌, nat_lt, List, [], ◌∷◌, ◌++◌}
use Rattle.std.specs.Prelude.{map, take, drop, Bool, true, false, if◌then◌else◌}
use Rattle.std.specs.List.{All, range_with_len}
use Rattle.texel_values.specs.Region.{max_texels}
use Rattle.request_lang.specs.declared.request.Request.{Request}
use Rattle.request_lang.specs.declared.request.Request.TheVariants.{Pixels, Sync}

-- the round of a request, and its worker, both counted from 0
pub record Place : Type 0 where
  pub round : ℕ
  pub worker : ℕ

abbrev pub place : ℕ → ℕ → Place
place round worker = record { round = round; worker = worker }

-- How far a list has been dealt: the current round, the number of its requests so far, and the
-- texels of their regions together.
pub record Dealt : Type 0 where
  pub round : ℕ
  pub requests : ℕ
  pub texels : ℕ

-- a round without requests
abbrev pub fresh_round : ℕ → Dealt
fresh_round round = record { round = round; requests = 0; texels = 0 }

-- the most texels in all regions of a round together
abbrev pub max_round_texels : ℕ
max_round_texels = 4194304

-- the number of texels in the region of a request; 0 if they are too many for a region
abbrev pub texels_asked : Request → ℕ
texels_asked (Pixels level x y w h name) = if nat_lt max_texels (w * h) then 0 else w * h
texels_asked _ = 0

-- the greatest value of `texels_asked`
abbrev pub max_texels_asked : ℕ
max_texels_asked = max_texels

-- whether the request ends its round
abbrev pub is_sync : Request → Bool
is_sync Sync = true
is_sync _ = false

-- The round of the next request: the current one, or a new one if its texels would be too many.
abbrev pub round_for : Dealt → Request → Dealt
round_for d r =
    if nat_lt max_round_texels (d.texels + texels_asked r) then fresh_round (d.round + 1) else d

-- How far the list has been dealt after a request of this round. `sync` ends the round.
abbrev pub dealt_with : Dealt → Request → Dealt
dealt_with d r =
    if is_sync r then fresh_round (d.round + 1)
    else record { round = d.round; requests = d.requests + 1; texels = d.texels + texels_asked r }

-- the place of the next request of this round
abbrev pub place_in : ℕ → Dealt → Place
place_in workers d = place d.round (d.requests % workers)

-- The places of requests that are dealt to the workers in turn, from here on.
unfoldable pub places_from : ℕ → Dealt → List Request → List Place
places_from workers d [] = []
places_from workers d (r ∷ rest) =
    place_in workers (round_for d r) ∷ places_from workers (dealt_with (round_for d r) r) rest

-- the places of the requests of a list
abbrev pub places_of : ℕ → List Request → List Place
places_of workers requests = places_from workers (fresh_round 0) requests

-- the places of the first n requests of a round
abbrev pub round_places : ℕ → ℕ → ℕ → List Place
round_places workers round n = map (λ i. place round (i % workers)) (range_with_len 0 n)

-- If a round begins with these requests, the first n belong to it.
abbrev pub IsRound : List Request → ℕ → Type 0
IsRound requests n = (workers round : ℕ) → places_from workers (fresh_round round) requests
    ≡ round_places workers round n ++ places_from workers (fresh_round (round + 1)) (drop n requests)

-- The first `count` requests make up some whole rounds.
pub record AreWholeRounds (places : List Place) (count : ℕ) : Type 0 where
  pub rounds : ℕ
  pub before : All (λ p. p.round < rounds) (take count places)
  pub behind : All (λ p. rounds ≤ p.round) (drop count places)
