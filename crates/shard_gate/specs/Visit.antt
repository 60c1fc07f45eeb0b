-- How do contracts see a visit to a shard? It begins when the seat takes the lock, and ends when it
-- gives it back.
use Rattle.std.specs.Prelude.{◌≡◌, ◌⊎◌, ℕ, List, [], ◌∷◌, Option, Some, None, slice_index_or}
use Rattle.tile_store.specs.CachedTile.{Entries}

-- One visit of a seat: the entries that it found, and those that it left. The slot of an entry is
-- the one that has the entry's key.
pub record Visit : Type 0 where
  -- the entries of the shard when the lock was taken
  pub taken : Entries
  -- the key of each slot then; 0 if the slot was empty
  pub keys : List ℕ
  -- the entries when the lock was given back, if it was
  pub given : Option Entries
  -- the key of each slot then
  pub keys_given : List ℕ

-- a visit during which the lock is held
abbrev pub begun : Entries → List ℕ → Visit
begun es keys = record { taken = es; keys = keys; given = None; keys_given = [] }

-- a visit that has ended
abbrev pub visit : Entries → List ℕ → Entries → List ℕ → Visit
visit es keys back keys_back =
    record { taken = es; keys = keys; given = Some back; keys_given = keys_back }

-- the visits after the last one, which is listed first, has ended
abbrev pub ended : Entries → List ℕ → List Visit → List Visit
ended back keys [] = []
ended back keys (last ∷ before) = visit last.taken last.keys back keys ∷ before

-- the last visit gave back these entries
abbrev pub GaveLast : Entries → List Visit → Type 0
GaveLast es [] = ⊥
GaveLast es (last ∷ before) = last.given ≡ Some es

-- the last visit of one of these seats gave back these entries
abbrev pub OneGaveLast : Entries → List (List Visit) → Type 0
OneGaveLast es [] = ⊥
OneGaveLast es (visits ∷ others) = GaveLast es visits ⊎ OneGaveLast es others

-- none of these seats has made a visit
abbrev pub MadeNone : List (List Visit) → Type 0
MadeNone [] = Unit {0}
MadeNone (visits ∷ others) = (visits ≡ []) × MadeNone others

-- the visits of one shard
abbrev pub visits_at : ℕ → List (List Visit) → List Visit
visits_at shard visits = slice_index_or visits shard []

-- the visits to one shard of the seats that were taken over, a list for each of these seats
abbrev pub joined_at : ℕ → List (List (List Visit)) → List (List Visit)
joined_at shard joined = slice_index_or joined shard []
