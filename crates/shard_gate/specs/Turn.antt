-- What is true of a table between atomic steps, and what does each kind of step tell its seat?
use Rattle.std.specs.Prelude.{◌≡◌, ◌⊎◌, ℕ, ◌+◌, ◌-◌, ◌*◌, ◌≤◌, true, false, cond, List, [], ◌∷◌}
use Rattle.std.specs.Prelude.{◌++◌, length, slice_index}
use Rattle.std.specs.List.{sum_by}
use Rattle.tile_store.specs.CachedTile.{Entries}
use Rattle.tile_store.specs.Links.{is_in}
use mathlib.Core.Option.{some}
use lib.ListN.{get_elem?}
use Rattle.atomic_table.specs.Table.{State}
use Rattle.shard_gate.specs.declared.standing.Standing.{Standing}
use Rattle.shard_gate.specs.declared.rule.Terms.{Terms}
use Rattle.shard_gate.specs.Visit.{Visit, begun, ended, GaveLast, OneGaveLast, MadeNone}
use Rattle.shard_gate.specs.Words.{turn_word, tag_word, key_word, pin_word, word_count, max_pins}
use Rattle.shard_gate.specs.Words.{SlotWords, no_words, AreWords, pins_on, without_pin_of}
use Rattle.shard_gate.specs.Words.{AreHeld}
use Rattle.shard_gate.specs.Words.{pinned_words, unpinned_words, keyed_words}

-- 1 for a seat that has the lock, otherwise 0
abbrev pub turn_of : Standing → ℕ
turn_of v = cond v.has_turn 1 0

-- the permits of a seat
abbrev pub permits_of : Standing → ℕ
permits_of v = v.permits

-- the number of pins of all seats on a slot
abbrev pub pinned : ℕ → List Standing → ℕ
pinned slot views = sum_by (λ v. pins_on slot v.pins) views

-- the terms of the table that a seat belongs to
abbrev pub terms_of : Standing → Terms
terms_of v = record { tag = v.tag; passes = v.passes }

-- the first seat of a table, which has all permits
abbrev pub first_standing : Terms → Standing
first_standing terms = record {
  live = true;
  tag = terms.tag;
  passes = terms.passes;
  permits = terms.passes;
  has_turn = false;
  pins = [];
  known = no_words;
  filled = [];
  repinned = [];
  visits = [];
  joined = [];
}

-- A live seat knows the table's tag and passes, and has at least one permit. A spent seat has no
-- permit and no lock. A seat has no more pins than its permits allow. Without the lock it knows no
-- word of a slot.
pub record IsOf (terms : Terms) (v : Standing) : Type 0 where
  pub tag : v.live ≡ true → v.tag ≡ terms.tag
  pub passes : v.live ≡ true → v.passes ≡ terms.passes
  pub some : v.live ≡ true → 1 ≤ v.permits
  pub permits : v.live ≡ false → v.permits ≡ 0
  pub turn : v.live ≡ false → v.has_turn ≡ false
  pub few : length v.pins ≤ max_pins * v.permits
  pub blind : v.has_turn ≡ false → v.known ≡ no_words

-- the seat after it took the lock and a body with these entries and words
abbrev pub with_turn : Entries → SlotWords → Standing → Standing
with_turn es words v =
    record v {
      has_turn = true;
      known = words;
      filled = [];
      repinned = [];
      visits = begun es words.keys ∷ v.visits;
    }

-- the seat after it gave back the lock and a body with these entries
abbrev pub without_turn : Entries → Standing → Standing
without_turn es v = record v {
  has_turn = false;
  known = no_words;
  filled = [];
  repinned = [];
  visits = ended es v.known.keys v.visits;
}

-- the seat with one more pin on this slot
abbrev pub with_pin : ℕ → Standing → Standing
with_pin slot v = record v {
  pins = (slot, slice_index v.known.keys slot) ∷ v.pins;
  known = pinned_words slot v.known;
  repinned = slot ∷ v.repinned;
}

-- the seat with one pin less on this slot
abbrev pub without_pin : ℕ → Standing → Standing
without_pin slot v = record v {
  pins = without_pin_of slot v.pins;
  known = unpinned_words slot v.known;
  repinned = slot ∷ v.repinned;
}

-- the seat after the slot got this key
abbrev pub with_key : ℕ → ℕ → Standing → Standing
with_key slot key v =
    record v { known = keyed_words slot key v.known; filled = slot ∷ v.filled }

-- the seat after it gave away one permit
abbrev pub kept_standing : Standing → Standing
kept_standing v = record v { permits = v.permits - 1 }

-- the new seat with that permit, without pins or visits
abbrev pub new_standing : Standing → Standing
new_standing v = record v { permits = 1; pins = []; visits = []; joined = [] }

-- the seat with the permits of both, which lists the other's visits apart from its own
abbrev pub both_standings : Standing → Standing → Standing
both_standings own other = record own {
  permits = own.permits + other.permits;
  joined = (other.visits ∷ other.joined) ++ own.joined;
}

-- a seat that another one has taken over
abbrev pub spent_standing : Standing
spent_standing = record {
  live = false;
  tag = 0;
  passes = 0;
  permits = 0;
  has_turn = false;
  pins = [];
  known = no_words;
  filled = [];
  repinned = [];
  visits = [];
  joined = [];
}

-- the last visit of the seat, or of a seat that it has taken over, gave back these entries
abbrev pub GaveOf : Entries → Standing → Type 0
GaveOf es v = GaveLast es v.visits ⊎ OneGaveLast es v.joined

-- neither the seat nor a seat that it has taken over has made a visit
abbrev pub MadeNoVisit : Standing → Type 0
MadeNoVisit v = (v.visits ≡ []) × MadeNone v.joined

-- These are the entries that the last visit of one of the seats gave back. If no seat has made a
-- visit, there are none.
abbrev pub WereGiven : Entries → List Standing → Type 0
WereGiven es views =
    ((seat : ℕ) × (v : Standing) × (get_elem? views seat ≡ some v) × GaveOf es v)
    ⊎ (((seat : ℕ) (v : Standing) → get_elem? views seat ≡ some v → MadeNoVisit v) × (es ≡ []))

module _ {S : Type 0} where
  -- The last visit took a body that was lawful for the terms, with its entries and the keys of its
  -- slots. The words of the slots are still those of that body, but for the keys of the slots that
  -- were filled since, and the pins of those that were pinned or unpinned.
  pub record TookLawful (lawful : Terms → S → Type 0) (shown : S → Entries)
      (words_in : S → SlotWords) (terms : Terms) (words filled repinned : List ℕ)
      (visits : List Visit) : Type 0 where
    pub body : S
    pub before : List Visit
    pub right : lawful terms body
    pub last : visits ≡ begun (shown body) (words_in body).keys ∷ before
    pub keys : (slot : ℕ) → is_in slot filled ≡ false
        → slice_index words (key_word slot) ≡ slice_index (words_in body).keys slot
    pub pins : (slot : ℕ) → is_in slot repinned ≡ false
        → slice_index words (pin_word slot) ≡ slice_index (words_in body).pins slot

  -- The invariant. The lock word is 0 or 1, the number of seats that have the lock. The tag word is
  -- the table's tag, which each live seat knows. A pin word is the number of pins of all seats on
  -- the slot, and the key word of a pinned slot is the key of its pins. What the seat with the lock
  -- knows of the slots' words is right. Its last visit took a lawful body, and each slot is as in
  -- that body, unless the seat has changed it. While the lock word is 0, the table has the body: it
  -- is lawful for the terms, the words of the slots are its own, and its entries are those that the
  -- last visit of some seat gave back. All seats together have as many permits as there may be
  -- passes.
  pub record OneTurn (lawful : Terms → S → Type 0) (shown : S → Entries)
      (words_in : S → SlotWords) (terms : Terms) (s : State S Standing) : Type 0 where
    pub count : length s.words ≡ word_count terms.passes
    pub most : slice_index s.words turn_word ≤ 1
    pub turn : sum_by turn_of s.views ≡ slice_index s.words turn_word
    pub tag : slice_index s.words tag_word ≡ terms.tag
    pub views : (seat : ℕ) (v : Standing) → get_elem? s.views seat ≡ some v → IsOf terms v
    pub pins : (slot : ℕ) → slice_index s.words (pin_word slot) ≡ pinned slot s.views
    pub held : (seat : ℕ) (v : Standing) → get_elem? s.views seat ≡ some v
        → AreHeld s.words v.pins
    pub known : (seat : ℕ) (v : Standing) → get_elem? s.views seat ≡ some v
        → v.has_turn ≡ true → AreWords terms.passes s.words v.known
    pub taken : (seat : ℕ) (v : Standing) → get_elem? s.views seat ≡ some v
        → v.has_turn ≡ true
        → TookLawful lawful shown words_in terms s.words v.filled v.repinned v.visits
    pub home : slice_index s.words turn_word ≡ 0
        → (body : S) × (get_elem? s.homes 0 ≡ some (some body)) × lawful terms body
        × AreWords terms.passes s.words (words_in body) × WereGiven (shown body) s.views
    pub permits : sum_by permits_of s.views ≡ terms.passes
