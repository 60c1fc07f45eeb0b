-- How is a list dealt, request by request?
use Rattle.std.proofs.Common.{◌≡◌, ℕ, zero, suc, ◌+◌, ◌%◌, ◌<◌, ◌≤◌, ltb, Bool, true, false, List}
use Rattle.std.proofs.Common.{[], ◌∷◌}
use Rattle.std.proofs.Common.{◌++◌, length, map, drop, get_or, refl, sym, ap, ◌∙◌}
use Rattle.std.proofs.Common.{append_assoc, arith}
use Rattle.std.specs.List.{All, range_with_len}
use Rattle.std.proofs.lemmas.Bool.{le-ltb, lt-ltb}
use Rattle.std.proofs.lemmas.List.{map-append, drop_more, drop_all}
use Rattle.std.proofs.lemmas.List.Elements.{All-nil, All-cons}
use Rattle.texel_values.specs.Region.{max_texels}
use Rattle.request_lang.specs.declared.request.Request.{Request}
use Rattle.render_run.specs.Dealing.{Place, Dealt, place, fresh_round, max_round_texels}
use Rattle.render_run.specs.Dealing.{texels_asked, is_sync, round_for, dealt_with, place_in}
use Rattle.render_run.specs.Dealing.{places_from, round_places, IsRound}

-- how far a round has been dealt
abbrev pub at : ℕ → ℕ → ℕ → Dealt
at round requests texels = record { round = round; requests = requests; texels = texels }

-- one number more
range_push : (a n : ℕ) → range_with_len a (n + 1) ≡ range_with_len a n ++ (a + n) ∷ []
range_push a zero =
    let e : a ≡ a + 0 = omega arith in
    ap (λ (m : ℕ). m ∷ []) e
range_push a (suc n) =
    let e : suc n + 1 ≡ suc (n + 1) = omega arith in
    let f : a + 1 + n ≡ a + suc n = omega arith in
    ap (range_with_len a) e
    ∙ ap (λ (ns : List ℕ). a ∷ ns)
    (range_push (a + 1) n ∙ ap (λ (m : ℕ). range_with_len (a + 1) n ++ m ∷ []) f)

-- one place more
round_push : (workers round n : ℕ) → round_places workers round (n + 1)
    ≡ round_places workers round n ++ place round (n % workers) ∷ []
round_push workers round n =
    let here : ℕ → Place = λ i. place round (i % workers) in
    let e : 0 + n ≡ n = omega arith in
    ap (map here) (range_push 0 n)
    ∙ map-append here (range_with_len 0 n) ((0 + n) ∷ [])
    ∙ ap (λ (m : ℕ). round_places workers round n ++ place round (m % workers) ∷ []) e

-- ---- one request

-- the next request stays in this round
cons_same : (workers : ℕ) (d : Dealt) (r : Request) (rest : List Request)
    → ltb max_round_texels (d.texels + texels_asked r) ≡ false
    → places_from workers d (r ∷ rest)
    ≡ place_in workers d ∷ places_from workers (dealt_with d r) rest
unfolding places_from
cons_same workers d r rest few = rw few refl

-- the next request begins a new round
cons_next : (workers : ℕ) (d : Dealt) (r : Request) (rest : List Request)
    → ltb max_round_texels (d.texels + texels_asked r) ≡ true → texels_asked r ≤ max_texels
    → places_from workers d (r ∷ rest)
    ≡ places_from workers (fresh_round (d.round + 1)) (r ∷ rest)
unfolding places_from
cons_next workers d r rest many few =
    let fits : ltb max_round_texels (0 + texels_asked r) ≡ false =
    le-ltb max_round_texels (0 + texels_asked r) (omega arith) in
    rw (many, fits) refl

-- the request does not end its round
dealt_more : (round n texels : ℕ) (r : Request) → is_sync r ≡ false
    → dealt_with (at round n texels) r ≡ at round (n + 1) (texels + texels_asked r)
dealt_more round n texels r stays = rw stays refl

-- the request ends its round
dealt_sync : (d : Dealt) (r : Request) → is_sync r ≡ true
    → dealt_with d r ≡ fresh_round (d.round + 1)
dealt_sync d r ends = rw ends refl

-- ---- a round so far

-- the first n requests are dealt in one round, and their regions have this many texels
abbrev pub DealtTo : List Request → ℕ → ℕ → Type 0
DealtTo requests n texels = (workers round : ℕ) → places_from workers (fresh_round round) requests
    ≡ round_places workers round n ++ places_from workers (at round n texels) (drop n requests)

module _ (requests : List Request) (n texels : ℕ) (d : Request) (lt : n < length requests)
    (so_far : DealtTo requests n texels) where
  -- the next request
  next : Request
  next = get_or requests n d

  module _ (few : texels + texels_asked (get_or requests n d) ≤ max_round_texels) where
    -- the places of the requests that follow, wherever the dealing is
    behind : (workers round : ℕ) (to : Dealt)
        → dealt_with (at round n texels) (get_or requests n d) ≡ to
        → places_from workers (fresh_round round) requests ≡ round_places workers round (n + 1)
        ++ places_from workers to (drop (n + 1) requests)
    behind workers round to leads =
        let r = get_or requests n d in
        let rest = drop (n + 1) requests in
        let fits : ltb max_round_texels (texels + texels_asked r) ≡ false =
        le-ltb max_round_texels (texels + texels_asked r) few in
        let front = round_places workers round n in
        let one = place round (n % workers) in
        so_far workers round
        ∙ ap (λ (left : List Request). front ++ places_from workers (at round n texels) left)
        (drop_more requests n d lt)
        ∙ ap (λ (places : List Place). front ++ places)
        (cons_same workers (at round n texels) r rest fits)
        ∙ ap (λ (to : Dealt). front ++ one ∷ places_from workers to rest) leads
        ∙ sym (append_assoc front (one ∷ []) (places_from workers to rest))
        ∙ ap (λ (places : List Place). places ++ places_from workers to rest)
        (sym (round_push workers round n))

    -- one request more is
    pub one_dealt : is_sync (get_or requests n d) ≡ false
        → DealtTo requests (n + 1) (texels + texels_asked (get_or requests n d))
    one_dealt stays workers round =
        behind workers round (at round (n + 1) (texels + texels_asked (get_or requests n d)))
        (dealt_more round n texels (get_or requests n d) stays)

    -- a `sync` ends the round
    pub round_by_sync : is_sync (get_or requests n d) ≡ true → IsRound requests (n + 1)
    round_by_sync ends workers round =
        behind workers round (fresh_round (round + 1))
        (dealt_sync (at round n texels) (get_or requests n d) ends)

  -- too many texels begin another round
  pub round_by_next : max_round_texels < texels + texels_asked (get_or requests n d)
      → texels_asked (get_or requests n d) ≤ max_texels → IsRound requests n
  round_by_next many few workers round =
      let r = get_or requests n d in
      let rest = drop (n + 1) requests in
      let front = round_places workers round n in
      let split = drop_more requests n d lt in
      so_far workers round
      ∙ ap (λ (left : List Request). front ++ places_from workers (at round n texels) left) split
      ∙ ap (λ (places : List Place). front ++ places)
      (cons_next workers (at round n texels) r rest
      (lt-ltb max_round_texels (texels + texels_asked r) many) few)
      ∙ ap (λ (left : List Request).
      front ++ places_from workers (fresh_round (round + 1)) left) (sym split)

-- no request is left
pub round_by_end : (requests : List Request) (n texels : ℕ) → DealtTo requests n texels
    → length requests ≤ n → IsRound requests n
unfolding places_from
round_by_end requests n texels so_far all workers round =
    let none : drop n requests ≡ [] = drop_all n requests all in
    so_far workers round
    ∙ ap (λ (left : List Request).
    round_places workers round n ++ places_from workers (at round n texels) left) none
    ∙ ap (λ (left : List Request).
    round_places workers round n ++ places_from workers (fresh_round (round + 1)) left) (sym none)

-- ---- rounds

-- no request from here on is in an earlier round
pub later_rounds : (workers k : ℕ) (d : Dealt) (rs : List Request) → k ≤ d.round
    → All (λ p. k ≤ p.round) (places_from workers d rs)
unfolding places_from
later_rounds workers k d [] le = All-nil (λ (p : Place). k ≤ p.round)
later_rounds workers k d (r ∷ rest) le =
    All-cons (λ (p : Place). k ≤ p.round) (place_in workers (round_for d r))
    (places_from workers (dealt_with (round_for d r) r) rest) (round_on d r le)
    (later_rounds workers k (dealt_with (round_for d r) r) rest
    (dealt_on (round_for d r) r (round_on d r le)))
  where
    round_on : (d : Dealt) (r : Request) → k ≤ d.round → k ≤ (round_for d r).round
    round_on d r le = by_test (ltb max_round_texels (d.texels + texels_asked r)) refl
      where
        by_test : (b : Bool) → ltb max_round_texels (d.texels + texels_asked r) ≡ b
            → k ≤ (round_for d r).round
        by_test true is = rw is (omega arith)
        by_test false is = rw is le

    dealt_on : (d : Dealt) (r : Request) → k ≤ d.round → k ≤ (dealt_with d r).round
    dealt_on d r le = by_test (is_sync r) refl
      where
        by_test : (b : Bool) → is_sync r ≡ b → k ≤ (dealt_with d r).round
        by_test true is = rw is (omega arith)
        by_test false is = rw is le
