-- Which two keys did a caller ask for last, and how often was a key among them? `asked` lists the
-- keys that it asked for, the oldest first.
use Rattle.std.specs.Prelude.{◌≡◌, ℕ, Bool, nat_eq, List, length, take, reverse, map, slice_index}
use Rattle.std.specs.Prelude.{count_by}
use Rattle.std.specs.List.{list_any, range_with_len}
use Rattle.std.specs.Set.{unique_keys}

-- each key once, in the order of its last place, the latest first
abbrev pub by_last_place : List ℕ → List ℕ
by_last_place asked = reverse (unique_keys nat_eq asked)

-- the last two different keys, the latest first
unfoldable pub recent : List ℕ → List ℕ
recent asked = take 2 (by_last_place asked)

-- the items have these keys, in this order
abbrev pub AreRecent : {P : Type 0} → (P → ℕ) → List ℕ → List P → Type 0
AreRecent key_of asked items = map key_of items ≡ recent asked

-- the key at place i is one of the last two before it
abbrev pub is_hit : List ℕ → ℕ → Bool
is_hit asked i = list_any (nat_eq (slice_index asked i)) (recent (take i asked))

-- for each place in order, whether it is a hit
unfoldable pub hits : List ℕ → List Bool
hits asked = map (is_hit asked) (range_with_len 0 (length asked))

-- the number of hits
unfoldable pub hit_count : List ℕ → ℕ
hit_count asked = count_by (λ hit. hit) (hits asked)
