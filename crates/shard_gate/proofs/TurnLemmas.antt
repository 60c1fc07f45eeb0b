-- What a seat that has taken the turn of a shard knows, and what it may do and give back.
use Rattle.std.proofs.Common.{◌≡◌, ℕ, ◌+◌, ◌*◌, ◌^◌, ◌<◌, ◌≤◌, true, false, List, [], ◌∷◌}
use Rattle.std.proofs.Common.{length, Some, None, sym, ap, subst, ◌∙◌, arith}
use Rattle.std.specs.Prelude.{slice_index, Contains, IsPermutation, IsSomeAnd, option_map}
use Rattle.std.proofs.Common.{set}
use Rattle.std.proofs.lemmas.List.{get_or-set_same}
use Rattle.atomic_table.specs.Table.{Me, rest}
use Rattle.tex_world.specs.World.{Files}
use Rattle.tile_store.specs.CachedTile.{EntryState, Entries, tile_at, pin_sum, HasPin}
use Rattle.tile_store.specs.Keys.{slot_of}
use Rattle.tile_store.specs.Slots.{ShardState}
use Rattle.shard_gate.specs.declared.standing.Standing.{Standing}
use Rattle.shard_gate.specs.Words.{SlotWords, pinned_words, unpinned_words, keyed_words, AreAmong, AreFewPins}
use Rattle.shard_gate.specs.Words.{keys_of_pins, pins_on, without_pin_of, max_permits, max_pins, slots_of}
use Rattle.shard_gate.specs.Turn.{terms_of, with_turn, without_turn}
use Rattle.shard_gate.specs.Steps.{HasBody, HasOwnPins, ArePinsIn, AreLawful, MayUnpin}
use Rattle.shard_gate.specs.Turn.{with_pin, without_pin}
use Rattle.shard_gate.specs.Steps.{entries_of}
use Rattle.shard_gate.specs.Visit.{begun, ended, visit}
use Rattle.shard_gate.specs.Given.{HaveSlots}
use Rattle.shard_gate.specs.Home.{words_of, IsStored, IsHome}
use Rattle.shard_gate.specs.Work.{PinsSlot, InsertsSlot, AreBehind, MayKeep, IsTellingOf, HasToldOf}
use Rattle.shard_gate.specs.Work.{with_kept}
use Rattle.shard_gate.proofs.CountLemmas.{own_in_sum, all_in_sum}
use Rattle.shard_gate.proofs.HomeLemmas.{few_pins_in, have_slots}
use Rattle.shard_gate.proofs.HomeLemmas.{IsThere, is_there}
use Rattle.shard_gate.proofs.SlotLemmas.{slot_low, slot_word}
use Rattle.shard_gate.proofs.EntryLemmas.{length_of_keys}
use Rattle.shard_gate.proofs.PinLemmas.{pinned_slot, keys-without, length_keys}
use Rattle.shard_gate.proofs.TellLemmas.{one_slot}

-- ---- a seat that has taken the turn

-- The seat has this shard and knows its words, which include its own pins.
pub record InTurn (files : Files) {A : Type 0} (old : Standing) (me : Me A Standing) (s : ShardState)
    : Type 0 where
  pub view : me.0 ≡ with_turn s.entries (words_of s) old
  pub home : IsHome files (terms_of old) s
  pub among : AreAmong (words_of s) old.pins
  pub few : AreFewPins old.passes (words_of s)
  pub own : HasOwnPins old (words_of s)
  pub all : ArePinsIn old.pins (words_of s)
  pub alone : rest me.1 ≡ []

-- A pin of the seat is one of a slot that has the key, and an entry with a pin.
pub record OwnsPin (key : ℕ) (old : Standing) (s : ShardState) : Type 0 where
  pub slot : ℕ
  pub there : IsThere key s slot
  pub own : 1 ≤ pins_on slot old.pins

module _ {A : Type 0} (value : A → ShardState) (files : Files) (old : Standing)
    (me : Me A Standing) where
  pub in_turn : HasBody (λ terms body. IsHome files terms (value body)) (λ body. (value body).entries)
      (λ body. words_of (value body)) old me
      → (there : A) (r : List (ℕ × A)) (s : ShardState) → me.1 ≡ (0, there) ∷ r → s ≡ value there
      → InTurn files old me s
  in_turn has there r s lent is =
      let slots : me.1 ≡ (0, has.0) ∷ [] = ap (λ (m : Me A Standing). m.1) has.1 in
      let same : value has.0 ≡ s = sym (is ∙ ap value (one_slot me.1 r has.0 there slots lent)) in
      record {
        view = ap (λ (m : Me A Standing). m.0) has.1
            ∙ ap (λ (t : ShardState). with_turn t.entries (words_of t) old) same;
        home = subst (λ (t : ShardState). IsHome files (terms_of old) t) same has.2;
        among = subst (λ (t : ShardState). AreAmong (words_of t) old.pins) same has.3;
        few = subst (λ (t : ShardState). AreFewPins old.passes (words_of t)) same has.4;
        own = subst (λ (t : ShardState). HasOwnPins old (words_of t)) same has.5;
        all = subst (λ (t : ShardState). ArePinsIn old.pins (words_of t)) same has.6;
        alone = ap rest slots;
      }

  module _ (s : ShardState) (turn : InTurn files old me s) where
    pins_high : pin_sum s.entries ≤ max_pins * old.passes
    pins_high = few_pins_in s turn.home.stored.in_slots old.passes
        turn.home.stored.entries.distinct turn.few

    -- one more pin is possible
    pub pins_low : old.passes ≤ max_permits → pin_sum s.entries + 1 < 2 ^ 32
    pins_low few = omega (arith, pins_high)

    -- there are more slots than pins
    pub slots_left : pin_sum s.entries < length s.slots
    slots_left = omega (arith, pins_high, turn.home.stored.count)

    -- the seat has no more pins than the entries
    pub own_counted : length (keys_of_pins old.pins) ≤ pin_sum s.entries
    own_counted = omega (
      arith,
      length_keys old.pins,
      own_in_sum s turn.home.stored.in_slots old turn.home.stored.entries.distinct turn.own turn.among,
    )

    -- there are as many pins as the seat has, if it has all permits
    pub all_counted : old.permits ≡ old.passes → pin_sum s.entries ≡ length (keys_of_pins old.pins)
    all_counted all = omega (
      arith,
      length_keys old.pins,
      all_in_sum s turn.home.stored.in_slots old turn.home.stored.entries.distinct turn.own turn.among
          all,
    )

    pub owns_pin : (key : ℕ) → Contains (keys_of_pins old.pins) key → OwnsPin key old s
    owns_pin key has =
        let is = pinned_slot (words_of s) key old.pins turn.among has in
        record {
          slot = is.slot;
          there = is_there key s old.pins turn.home.stored.in_slots is;
          own = is.own;
        }

    pub own_entry : (key : ℕ) → Contains (keys_of_pins old.pins) key → HasPin key s.entries
    own_entry key has =
        let is = owns_pin key has in
        subst (λ o. IsSomeAnd o (λ (e : EntryState). 1 ≤ e.pins)) (sym is.there.found) is.there.pin

    -- A key that the seat has pinned is found.
    pub own_found : (key : ℕ) → Contains (keys_of_pins old.pins) key → None ≡ tile_at key s.entries
        → false ≡ true
    own_found key has none =
        let is = owns_pin key has in
        let both : None ≡ Some is.there.entry.tile =
        none ∙ ap (option_map (λ (e : EntryState). e.tile)) is.there.found in
        absurd cc

    -- the slot of its pin
    pub own_slot : (key slot : ℕ) → Contains (keys_of_pins old.pins) key
        → slot_of key s.slots ≡ Some slot → 1 ≤ pins_on slot old.pins
    own_slot key slot has is =
        let own = owns_pin key has in
        let both : Some own.slot ≡ Some slot = sym own.there.slot_is ∙ is in
        let one : own.slot ≡ slot = cc in
        subst (λ k. 1 ≤ pins_on k old.pins) one own.own

    pub known : me.0.known ≡ words_of s
    known = ap (λ (v : Standing). v.known) turn.view

    inside : (slot : ℕ) → slot < length s.slots → slot < slots_of me.0.passes
    inside slot low =
        subst (λ n. slot < slots_of n) (sym (ap (λ (v : Standing). v.passes) turn.view))
        (omega (arith, low, turn.home.stored.count))

    -- the slots of the entries that were taken
    pub slots_taken : HaveSlots (words_of s).keys s.entries
    slots_taken = have_slots s turn.home.stored.in_slots

    visits_begun : me.0.visits ≡ begun s.entries (words_of s).keys ∷ old.visits
    visits_begun = ap (λ (v : Standing). v.visits) turn.view

    -- The visit ends with these entries, in the slots that the seat knows.
    pub gave_visits : (given last : Standing) (left es : Entries) (keys : List ℕ)
        → given ≡ without_turn left last → left ≡ es → last.visits ≡ me.0.visits → last.known.keys ≡ keys
        → given.visits ≡ visit s.entries (words_of s).keys es keys ∷ old.visits
    gave_visits given last left es keys gave entries same words =
        ap (λ (v : Standing). v.visits) gave
        ∙ (λ i. ended (entries i) (words i) ((same ∙ visits_begun) i))

    -- ---- the shard that is given back

    pub give_ready : (now : Me A Standing) (body : A) (new : ShardState) → value body ≡ new
        → now.1 ≡ (0, body) ∷ rest me.1 → terms_of now.0 ≡ terms_of me.0
        → IsHome files (terms_of old) new → now.0.known ≡ words_of new
        → AreLawful (λ terms b. IsHome files terms (value b)) (λ b. words_of (value b)) now.0 now.1
    give_ready now body new is slots terms home words = (
      body,
      slots ∙ ap (λ l. (0, body) ∷ l) turn.alone,
      subst (λ t. IsHome files t (value body)) (sym (terms ∙ ap terms_of turn.view))
          (subst (λ (t : ShardState). IsHome files (terms_of old) t) (sym is) home),
      words ∙ ap words_of (sym is),
    )

    pub give_pinned : (key slot : ℕ) (body : A) (new : ShardState) → value body ≡ new
        → PinsSlot key slot s new → IsStored files (terms_of old) new → new.left ≡ s.left
        → (now : Me A Standing) → now ≡ (with_pin slot me.0, (0, body) ∷ rest me.1)
        → AreLawful (λ terms b. IsHome files terms (value b)) (λ b. words_of (value b)) now.0 now.1
    give_pinned key slot body new is pins stored left now pinned = give_ready now body new is
        (ap (λ (m : Me A Standing). m.1) pinned)
        (ap (λ (m : Me A Standing). terms_of m.0) pinned)
        (record { stored = stored; left = left ∙ turn.home.left })
        (ap (λ (m : Me A Standing). m.0.known) pinned
        ∙ (ap (pinned_words slot) known ∙ sym pins.words))

    -- ---- a tile that is kept

    module _ (key slot number : ℕ) (new : ShardState) (inserts : InsertsSlot key slot s new)
        (number_is : number ≡ key) where
      pub may_keep : old.live ≡ true → length old.pins + 1 ≤ max_pins * old.permits → 1 ≤ number
          → MayKeep slot number me.0
      may_keep live room some = record {
        inside = inside slot inserts.inside;
        live = ap (λ (v : Standing). v.live) turn.view ∙ live;
        turn = ap (λ (v : Standing). v.has_turn) turn.view;
        count = omega (
          arith,
          ap (λ (w : SlotWords). length w.keys) known,
          length_of_keys s,
          inserts.inside,
        );
        room = subst (λ (v : Standing). length v.pins + 1 ≤ max_pins * v.permits) (sym turn.view) room;
        some = some;
        free = λ other. ap (λ (w : SlotWords). slice_index w.pins slot) known
            ∙ inserts.free (λ same. other (ap (λ (w : SlotWords). slice_index w.keys slot) known
            ∙ (same ∙ sym number_is)));
      }

      pub give_kept : (body : A) → value body ≡ new → IsStored files (terms_of old) new
          → new.left ≡ [] → (now : Me A Standing)
          → now ≡ (with_kept slot number now.0.filled me.0, (0, body) ∷ rest me.1)
          → AreLawful (λ terms b. IsHome files terms (value b)) (λ b. words_of (value b)) now.0 now.1
      give_kept body is stored left now kept = give_ready now body new is
          (ap (λ (m : Me A Standing). m.1) kept)
          (ap (λ (m : Me A Standing). terms_of m.0) kept)
          (record { stored = stored; left = left })
          (ap (λ (m : Me A Standing). m.0.known) kept
          ∙ ((λ i. pinned_words slot (keyed_words slot (number_is i) (known i))) ∙ sym inserts.words))

      -- The keys that the seat knows are then those of the shard.
      pub kept_words : (with_kept slot number [] me.0).known.keys ≡ (words_of new).keys
      kept_words = ap (λ (w : SlotWords). w.keys)
          ((λ i. pinned_words slot (keyed_words slot (number_is i) (known i))) ∙ sym inserts.words)

      -- The pin is of the key.
      pub kept_key : slice_index (set me.0.known.keys slot number) slot ≡ key
      kept_key = get_or-set_same me.0.known.keys slot number 0 (omega (
        arith,
        ap (λ (w : SlotWords). length w.keys) known,
        length_of_keys s,
        inserts.inside,
      )) ∙ number_is

      pub kept_pins : (now : Standing) → now ≡ with_kept slot number now.filled me.0
          → keys_of_pins now.pins ≡ key ∷ keys_of_pins old.pins
      kept_pins now is = ap (λ (v : Standing). keys_of_pins v.pins) is
          ∙ (λ i. kept_key i ∷ keys_of_pins ((turn.view i).pins))

    -- ---- a pin that is given back

    module _ (key slot : ℕ) (has : Contains (keys_of_pins old.pins) key)
        (is : slot_of key s.slots ≡ Some slot) where
      pub may_unpin : old.live ≡ true → MayUnpin slot me.0
      may_unpin live = record {
        inside = inside slot (slot_low s s turn.home.stored.in_slots key slot is);
        live = ap (λ (v : Standing). v.live) turn.view ∙ live;
        turn = ap (λ (v : Standing). v.has_turn) turn.view;
        own = subst (λ (v : Standing). 1 ≤ pins_on slot v.pins) (sym turn.view)
            (own_slot key slot has is);
      }

      pub telling : old.live ≡ true → (new : ShardState) (body : A) → value body ≡ new
          → AreBehind (unpinned_words slot (words_of s)) new → IsStored files (terms_of old) new
          → (now : Me A Standing) → now ≡ (without_pin slot me.0, (0, body) ∷ rest me.1)
          → IsTellingOf value files now
      telling live new body put behind stored now unpinned = record {
        body = body;
        slots = ap (λ (m : Me A Standing). m.1) unpinned ∙ ap (λ l. (0, body) ∷ l) turn.alone;
        live = ap (λ (m : Me A Standing). m.0.live) unpinned
            ∙ (ap (λ (v : Standing). v.live) turn.view ∙ live);
        turn = ap (λ (m : Me A Standing). m.0.has_turn) unpinned
            ∙ ap (λ (v : Standing). v.has_turn) turn.view;
        behind = subst (λ w. AreBehind w (value body))
            (sym (ap (λ (m : Me A Standing). m.0.known) unpinned ∙ ap (unpinned_words slot) known))
            (subst (λ (t : ShardState). AreBehind (unpinned_words slot (words_of s)) t) (sym put) behind);
        stored = subst (λ t. IsStored files t (value body))
            (sym (ap (λ (m : Me A Standing). terms_of m.0) unpinned ∙ ap terms_of turn.view))
            (subst (λ (t : ShardState). IsStored files (terms_of old) t) (sym put) stored);
      }

      -- The key is one of its pins no more.
      pub keys_less : IsPermutation (keys_of_pins old.pins)
          (key ∷ keys_of_pins (without_pin_of slot old.pins))
      keys_less = subst
          (λ k. IsPermutation (keys_of_pins old.pins) (k ∷ keys_of_pins (without_pin_of slot old.pins)))
          (slot_word s s turn.home.stored.in_slots key slot is)
          (keys-without (words_of s) slot old.pins turn.among (own_slot key slot has is))

    -- The seat has the shard after stale tiles were removed, and knows the words of before.
    pub purging : old.live ≡ true → (new : ShardState) (body : A) → value body ≡ new
        → AreBehind (words_of s) new → IsStored files (terms_of old) new
        → IsTellingOf value files (me.0, (0, body) ∷ rest me.1)
    purging live new body put behind stored = record {
      body = body;
      slots = ap (λ l. (0, body) ∷ l) turn.alone;
      live = ap (λ (v : Standing). v.live) turn.view ∙ live;
      turn = ap (λ (v : Standing). v.has_turn) turn.view;
      behind = subst (λ w. AreBehind w (value body)) (sym known)
          (subst (λ (t : ShardState). AreBehind (words_of s) t) (sym put) behind);
      stored = subst (λ t. IsStored files t (value body)) (sym (ap terms_of turn.view))
          (subst (λ (t : ShardState). IsStored files (terms_of old) t) (sym put) stored);
    }

    pub last_pins : (slot : ℕ) (mid last : Me A Standing) (given : Standing) (slots : List (ℕ × A))
        (es : Entries) → mid ≡ (without_pin slot me.0, slots) → HasToldOf value files mid last
        → given ≡ without_turn es last.0 → given.pins ≡ without_pin_of slot old.pins
    last_pins slot mid last given slots es unpinned told gave = ap (λ (v : Standing). v.pins) gave
        ∙ (ap (λ (v : Standing). v.pins) told.view
        ∙ (ap (λ (m : Me A Standing). m.0.pins) unpinned
        ∙ ap (λ (v : Standing). without_pin_of slot v.pins) turn.view))

    -- The seat gives back the shard after each slot was reported.
    module _ (body : A) (new : ShardState) (put : value body ≡ new) (mid last : Me A Standing)
        (given : Standing) (at : mid.1 ≡ (0, body) ∷ rest me.1) (same : mid.0.visits ≡ me.0.visits)
        (told : HasToldOf value files mid last)
        (gave : given ≡ without_turn (entries_of (λ b. (value b).entries) last.1) last.0) where
      last_before : value told.before ≡ new
      last_before =
          sym (ap value (one_slot mid.1 (rest me.1) told.before body told.slots_before at)) ∙ put

      last_entries : entries_of (λ b. (value b).entries) last.1 ≡ new.entries
      last_entries = ap (entries_of (λ b. (value b).entries)) told.slots
          ∙ (told.entries ∙ ap (λ (t : ShardState). t.entries) last_before)

      last_words : last.0.known.keys ≡ (words_of (value told.body)).keys
      last_words = ap (λ (v : Standing). v.known.keys) told.view

      -- the slots of the entries that are given back
      pub slots_last : HaveSlots (words_of (value told.body)).keys new.entries
      slots_last = subst (λ (es : Entries). HaveSlots (words_of (value told.body)).keys es)
          (told.entries ∙ ap (λ (t : ShardState). t.entries) last_before)
          (have_slots (value told.body) told.home.stored.in_slots)

      pub last_visits : given.visits ≡ visit s.entries (words_of s).keys new.entries
          (words_of (value told.body)).keys ∷ old.visits
      last_visits = gave_visits given last.0 (entries_of (λ b. (value b).entries) last.1) new.entries
          (words_of (value told.body)).keys gave last_entries
          (ap (λ (v : Standing). v.visits) told.view ∙ same)
          last_words
