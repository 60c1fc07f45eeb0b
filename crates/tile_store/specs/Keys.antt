-- Which slot has a key, and how is it found? Slots whose keys have the same hash form a chain.
use Rattle.std.specs.Prelude.{◌≡◌, ℕ, zero, suc, ◌+◌, ◌*◌, ◌/◌, ◌%◌, ◌^◌, ◌<◌}
use Rattle.std.specs.Prelude.{Bool, true, false, nat_eq}
use Rattle.std.specs.Prelude.{List, [], ◌∷◌, ◌++◌, length, slice_index, slice_index_or, slice_set}
use Rattle.std.specs.Prelude.{Option, Some, None, option_map, IsSomeAnd, if◌then◌else◌}
use Rattle.std.specs.Option.{option_map_or}
use Rattle.std.specs.List.{IsDistinct}
use Rattle.tile_store.specs.Links.{is_in}

-- the key of a slot, if it has one
abbrev pub key_in : List (Option ℕ) → ℕ → Option ℕ
key_in keys slot = slice_index_or keys slot None

-- whether this is the key
abbrev pub is_key : ℕ → Option ℕ → Bool
is_key key None = false
is_key key (Some k) = nat_eq key k

-- the slot with a key, if there is one
abbrev pub slot_of : ℕ → List (Option ℕ) → Option ℕ
slot_of key [] = None
slot_of key (k ∷ ks) = if is_key key k then Some zero else option_map suc (slot_of key ks)

-- no two slots have the same key
abbrev pub AreApart : List (Option ℕ) → Type 0
AreApart keys = (p q key : ℕ) → key_in keys p ≡ Some key → key_in keys q ≡ Some key → p ≡ q

-- the slot now has this key
abbrev pub keyed_at : ℕ → ℕ → List (Option ℕ) → List (Option ℕ)
keyed_at slot key keys = slice_set keys slot (Some key)

-- the slot that had the key now has none
abbrev pub without_key : ℕ → List (Option ℕ) → List (Option ℕ)
without_key key keys = option_map_or (λ slot. slice_set keys slot None) (slot_of key keys) keys

-- ---- the chains

-- the number of chains for this number of slots
abbrev pub chains_for : ℕ → ℕ
chains_for slots = 2 * slots + 1

-- an odd number near 2^64 divided by the golden ratio, which spreads neighbouring keys
abbrev pub spread : ℕ
spread = 11400714819323198485

-- the chain of a key
unfoldable pub chain_of : ℕ → ℕ → ℕ
chain_of chains key = key * spread % 2 ^ 64 / 2 ^ 33 * chains / 2 ^ 31

-- the slots after a node, following the links to the end
abbrev pub behind : List ℕ → ℕ → ℕ → ℕ → List ℕ
behind next end zero at = []
behind next end (suc n) at =
    if nat_eq (slice_index next at) end then []
    else slice_index next at ∷ behind next end n (slice_index next at)

-- these are all slots after the node
abbrev pub Leads : List ℕ → ℕ → ℕ → List ℕ → Type 0
Leads next end at [] = slice_index next at ≡ end
Leads next end at (p ∷ ps) = (slice_index next at ≡ p) × Leads next end p ps

-- A chain begins at its own node. Chain nodes are numbered after the slots.
abbrev pub chain : List ℕ → ℕ → ℕ → List ℕ
chain next slots c = behind next slots slots (slots + c)

-- The chains contain the slots that have a key, each chain those whose keys belong to it.
pub record AreChainsOf (slots_in : ℕ → List ℕ) (keys : List (Option ℕ)) (next : List ℕ) (slots : ℕ)
    : Type 0 where
  pub size : length keys ≡ slots
  pub nodes : length next ≡ slots + chains_for slots
  pub few : slots < 2 ^ 32
  pub leads : (c : ℕ) → c < chains_for slots → Leads next slots (slots + c) (slots_in c)
  pub distinct : (c : ℕ) → c < chains_for slots → IsDistinct nat_eq (slots_in c)
  pub keyed : (c p : ℕ) → c < chains_for slots → is_in p (slots_in c) ≡ true
      → IsSomeAnd (key_in keys p) (λ key. chain_of (chains_for slots) key ≡ c)
  pub linked : (p key : ℕ) → key_in keys p ≡ Some key
      → is_in p (slots_in (chain_of (chains_for slots) key)) ≡ true
  pub apart : AreApart keys

-- the chains, as the links give them, contain the right slots
abbrev pub AreChains : List (Option ℕ) → List ℕ → ℕ → Type 0
AreChains keys next slots = AreChainsOf (chain next slots) keys next slots

-- ---- a search

-- the last node of a chain, from a node on
abbrev pub last_node : ℕ → List ℕ → ℕ
last_node at [] = at
last_node at (p ∷ ps) = last_node p ps

-- the first of the slots, if there is one, has the key
abbrev pub StopsAt : List (Option ℕ) → ℕ → List ℕ → Type 0
StopsAt keys key [] = Unit {0}
StopsAt keys key (p ∷ ps) = key_in keys p ≡ Some key

-- The search for a key has reached this node of its chain, and has not met the key so far.
pub record HasCome (keys : List (Option ℕ)) (next : List ℕ) (slots key at : ℕ) : Type 0 where
  pub front : List ℕ
  pub back : List ℕ
  pub parts : chain next slots (chain_of (chains_for slots) key) ≡ front ++ back
  pub at_is : at ≡ last_node (slots + chain_of (chains_for slots) key) front
  pub lacks : (p : ℕ) → is_in p front ≡ true → key_in keys p ≡ Some key → ⊥

-- the node comes before the slot of the key in its chain, or is the last one of the chain
pub record IsBefore (keys : List (Option ℕ)) (next : List ℕ) (slots key at : ℕ) : Type 0 where
  pub come : HasCome keys next slots key at
  pub stops : StopsAt keys key come.back
