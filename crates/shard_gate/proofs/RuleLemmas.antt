-- What a step of one seat keeps of the rule of a table, whatever the words and the other seats are.
use Rattle.std.proofs.Common.{◌≡◌, ◌≢◌, ℕ, ◌+◌, ◌*◌, ◌<◌, ◌≤◌, true, false, cond, List}
use Rattle.std.proofs.Common.{[], ◌∷◌, zero, suc, set, subst, sym, ap, ◌∙◌, ⊎_elim}
use Rattle.std.proofs.Common.{arith, length}
use Rattle.std.specs.Prelude.{slice_index}
use Rattle.std.specs.List.{sum_by}
use Rattle.std.proofs.Common.{◌++◌}
use Rattle.std.proofs.lemmas.List.{length-set, get_or-set_same, get_or-set_other}
use mathlib.Core.Option.{Option, some, some-injective, some-ne-none}
use lib.ListN.{get_elem?}
use Rattle.atomic_table.specs.Table.{State}
use Rattle.atomic_table.proofs.Lists.{at_set, at_snoc, set_else}
use Rattle.tile_store.specs.CachedTile.{Entries}
use Rattle.shard_gate.specs.declared.standing.Standing.{Standing}
use Rattle.shard_gate.specs.declared.rule.Terms.{Terms}
use Rattle.shard_gate.specs.Visit.{Visit}
use Rattle.shard_gate.specs.Words.{SlotWords, AreWords, AreHeld, AreFewPins}
use Rattle.shard_gate.specs.Words.{turn_word, tag_word, first_word, pin_word}
use Rattle.shard_gate.specs.Words.{max_pins, pins_on}
use Rattle.shard_gate.specs.Turn.{OneTurn, IsOf, TookLawful, WereGiven, terms_of}
use Rattle.shard_gate.specs.Turn.{turn_of, permits_of, pinned}
use Rattle.shard_gate.specs.Turn.{spent_standing}
use Rattle.shard_gate.specs.Steps.{HasOwnPins}
use Rattle.shard_gate.proofs.SumLemmas.{sum_set, sum_has, sum_same, few_pins, few_pins_of}
use Rattle.shard_gate.proofs.PinLemmas.{held_same}
use Rattle.shard_gate.proofs.WordLemmas.{keys_stay, pins_stay, words_stay}

-- each seat has it
abbrev pub Each : (Standing → Type 0) → List Standing → Type 0
Each P views = (seat : ℕ) (v : Standing) → get_elem? views seat ≡ some v → P v

-- If one seat's new view and the others' old views have a property, all views have it.
pub one_view : (P Q : Standing → Type 0) (views : List Standing) (id : ℕ) (new : Standing)
    → ((seat : ℕ) (v : Standing) → seat ≢ id → get_elem? views seat ≡ some v → P v → Q v)
    → Each P views → Q new → Each Q (set views id new)
one_view P Q views id new more each right seat v at = ⊎_elim
    (λ (t : (seat ≡ id) × (new ≡ v)). subst (λ (u : Standing). Q u) t.1 right)
    (λ (t : (seat ≢ id) × (get_elem? views seat ≡ some v)).
    more seat v t.0 t.1 (each seat v t.1))
    (at_set views id seat new v at)

-- A seat that has the turn is the only one.
pub only_turn : (views : List Standing) (id : ℕ) (v : Standing) → get_elem? views id ≡ some v
    → v.has_turn ≡ true → sum_by turn_of views ≤ 1 → (seat : ℕ) (w : Standing) → seat ≢ id
    → get_elem? views seat ≡ some w → w.has_turn ≡ true → ⊥
only_turn views id v at has most seat w apart there other =
    let one : turn_of v ≡ 1 = ap (λ b. cond b 1 0) has in
    let two : turn_of w ≡ 1 = ap (λ b. cond b 1 0) other in
    let still : get_elem? (set views id spent_standing) seat ≡ some w =
    set_else views id seat spent_standing apart ∙ there in
    omega (
      arith,
      sum_set turn_of views id v spent_standing at,
      sum_has turn_of (set views id spent_standing) seat w still,
    )

-- If a seat has all permits, no other seat has a pin.
pins_alone : (views : List Standing) (id : ℕ) (v : Standing) → get_elem? views id ≡ some v
    → sum_by permits_of views ≤ v.permits
    → Each (λ w. length w.pins ≤ max_pins * w.permits) views
    → (slot : ℕ) → pinned slot views ≡ pins_on slot v.pins
pins_alone views id v at all few slot = omega (
  arith,
  sum_set permits_of views id v spent_standing at,
  sum_set (λ (w : Standing). pins_on slot w.pins) views id v spent_standing at,
  few_pins_of (set views id spent_standing) slot
      (one_view (λ w. length w.pins ≤ max_pins * w.permits)
      (λ w. length w.pins ≤ max_pins * w.permits) views id spent_standing
      (λ seat w ne there is. is) few (omega arith)),
)

pub one_more : (P : Standing → Type 0) (views : List Standing) (new : Standing) → Each P views → P new
    → Each P (views ++ new ∷ [])
one_more P views new each right seat v there = ⊎_elim
    (λ (e : get_elem? views seat ≡ some v). each seat v e)
    (λ (e : new ≡ v). subst (λ (u : Standing). P u) e right)
    (at_snoc views new v seat there)

pub one_only : (P : Standing → Type 0) (first : Standing) → P first → Each P (first ∷ [])
one_only P first is zero v at = subst (λ (u : Standing). P u) (some-injective first v at) is
one_only P first is (suc seat) v at = absurd (some-ne-none v (sym at))

module _ {S : Type 0} (lawful : Terms → S → Type 0) (shown : S → Entries)
    (words_in : S → SlotWords) (terms : Terms) where
  -- what the seat with the lock knows is right
  abbrev pub KnowsOf : List ℕ → Standing → Type 0
  KnowsOf words v = v.has_turn ≡ true → AreWords terms.passes words v.known

  -- the seat's last visit took a lawful body, of which it has changed only what it says
  abbrev pub TakesOf : List ℕ → Standing → Type 0
  TakesOf words v = v.has_turn ≡ true
      → TookLawful lawful shown words_in terms words v.filled v.repinned v.visits

  -- A lawful body is at home, the words are its own, and some seat gave back its entries last.
  abbrev pub IsIn : List ℕ → List (Option S) → List Standing → Type 0
  IsIn words homes views = (body : S) × (get_elem? homes 0 ≡ some (some body)) × lawful terms body
      × AreWords terms.passes words (words_in body) × WereGiven (shown body) views

  -- The turn word does not matter for what was taken.
  took_still : (words filled repinned : List ℕ) (visits : List Visit) (n : ℕ)
      → TookLawful lawful shown words_in terms words filled repinned visits
      → TookLawful lawful shown words_in terms (set words turn_word n) filled repinned visits
  took_still words filled repinned visits n is = record {
    body = is.body;
    before = is.before;
    right = is.right;
    last = is.last;
    keys = λ slot out. keys_stay words turn_word n slot (omega arith) ∙ is.keys slot out;
    pins = λ slot out. pins_stay words turn_word n slot (omega arith) ∙ is.pins slot out;
  }

  -- what is known of a view with other numbers of turns, permits and pins
  pub other_view : (old new : Standing) → IsOf terms old → old.live ≡ true → new.live ≡ old.live
      → new.tag ≡ old.tag → new.passes ≡ old.passes → length new.pins ≤ max_pins * new.permits
      → 1 ≤ new.permits
      → (new.has_turn ≡ false → new.known ≡ record { keys = []; pins = [] }) → IsOf terms new
  other_view old new right live same tag passes few enough blind =
      let alive : new.live ≡ true = same ∙ live in
      record {
        tag = λ _. tag ∙ right.tag live;
        passes = λ _. passes ∙ right.passes live;
        some = λ _. enough;
        permits = λ e. absurd (cc (alive, e));
        turn = λ e. absurd (cc (alive, e));
        few = few;
        blind = blind;
      }

  -- A step on the turn word that changes the word as it changes who has the turn.
  pub after : (s : State S Standing) (id n : ℕ) (old new : Standing) (homes : List (Option S))
      → OneTurn lawful shown words_in terms s → get_elem? s.views id ≡ some old → n ≤ 1
      → slice_index s.words turn_word + turn_of new ≡ n + turn_of old
      → new.permits ≡ old.permits → new.pins ≡ old.pins → IsOf terms new → KnowsOf s.words new
      → TakesOf s.words new
      → (n ≡ 0 → IsIn s.words homes (set s.views id new))
      → OneTurn lawful shown words_in terms (record {
        words = set s.words turn_word n;
        homes = homes;
        views = set s.views id new;
      })
  after s id n old new homes kept at few turn permits pins right knows takes_new home =
      let words = set s.words turn_word n in
      let inside : turn_word < length s.words = omega (arith, kept.count) in
      let there : slice_index words turn_word ≡ n =
      get_or-set_same s.words turn_word n 0 inside in
      let own : AreHeld s.words new.pins =
      subst (λ l. AreHeld s.words l) (sym pins) (kept.held id old at) in
      record {
        count = length-set s.words turn_word n ∙ kept.count;
        most = omega (arith, there, few);
        turn = omega (arith, there, sum_set turn_of s.views id old new at, kept.turn, turn);
        tag = get_or-set_other s.words turn_word tag_word n 0 (λ e. absurd (omega arith)) ∙ kept.tag;
        views = one_view (IsOf terms) (IsOf terms) s.views id new (λ seat v ne there is. is)
            kept.views right;
        pins = λ slot. omega (
          arith,
          pins_stay s.words turn_word n slot (omega arith),
          kept.pins slot,
          sum_set (λ (v : Standing). pins_on slot v.pins) s.views id old new at,
          ap (pins_on slot) pins,
        );
        held = one_view (λ v. AreHeld s.words v.pins) (λ v. AreHeld words v.pins) s.views id new
            (λ seat v ne there is.
            held_same s.words words v.pins (λ slot. keys_stay s.words turn_word n slot (omega arith)) is)
            kept.held
            (held_same s.words words new.pins (λ slot. keys_stay s.words turn_word n slot (omega arith)) own);
        known = one_view (KnowsOf s.words) (KnowsOf words) s.views id new
            (λ seat v ne there is has.
            words_stay terms.passes s.words turn_word n v.known (omega arith) (is has))
            kept.known
            (λ has. words_stay terms.passes s.words turn_word n new.known (omega arith) (knows has));
        taken = one_view (TakesOf s.words) (TakesOf words) s.views id new
            (λ seat v ne there is has.
            took_still s.words v.filled v.repinned v.visits n (is has))
            kept.taken
            (λ has. took_still s.words new.filled new.repinned new.visits n (takes_new has));
        home = λ e. let in_place = home (sym there ∙ e) in (
          in_place.0,
          in_place.1,
          in_place.2,
          words_stay terms.passes s.words turn_word n (words_in in_place.0) (omega arith) in_place.3,
          in_place.4,
        );
        permits = omega (arith, sum_set permits_of s.views id old new at, kept.permits, permits);
      }

  -- A step of the seat that has the turn on a word of a slot.
  pub after_slot : (s : State S Standing) (id word n : ℕ) (old new : Standing)
      → OneTurn lawful shown words_in terms s → get_elem? s.views id ≡ some old → first_word ≤ word
      → old.has_turn ≡ true → new.has_turn ≡ true → new.permits ≡ old.permits → IsOf terms new
      → ((slot : ℕ) → slice_index (set s.words word n) (pin_word slot) + pins_on slot old.pins
      ≡ slice_index s.words (pin_word slot) + pins_on slot new.pins)
      → Each (λ v. AreHeld (set s.words word n) v.pins) (set s.views id new)
      → AreWords terms.passes (set s.words word n) new.known
      → TookLawful lawful shown words_in terms (set s.words word n) new.filled new.repinned new.visits
      → OneTurn lawful shown words_in terms (record {
        words = set s.words word n;
        homes = s.homes;
        views = set s.views id new;
      })
  after_slot s id word n old new kept at low turn still permits right shift held knows takes =
      let words = set s.words word n in
      let same_turn : slice_index words turn_word ≡ slice_index s.words turn_word =
      get_or-set_other s.words word turn_word n 0 (λ e. absurd (omega arith)) in
      let had : turn_of old ≡ 1 = ap (λ b. cond b 1 0) turn in
      let has : turn_of new ≡ 1 = ap (λ b. cond b 1 0) still in
      let out : turn_of old ≤ sum_by turn_of s.views = sum_has turn_of s.views id old at in
      record {
        count = length-set s.words word n ∙ kept.count;
        most = omega (arith, same_turn, kept.most);
        turn = omega (arith, same_turn, sum_set turn_of s.views id old new at, kept.turn);
        tag = get_or-set_other s.words word tag_word n 0 (λ e. absurd (omega arith)) ∙ kept.tag;
        views = one_view (IsOf terms) (IsOf terms) s.views id new (λ seat v ne there is. is)
            kept.views right;
        pins = λ slot. omega (
          arith,
          shift slot,
          kept.pins slot,
          sum_set (λ (v : Standing). pins_on slot v.pins) s.views id old new at,
        );
        held = held;
        known = one_view (KnowsOf s.words) (KnowsOf words) s.views id new
            (λ seat v ne there is other. absurd (only_turn s.views id old at turn
            (omega (arith, kept.turn, kept.most)) seat v ne there other))
            kept.known
            (λ _. knows);
        taken = one_view (TakesOf s.words) (TakesOf words) s.views id new
            (λ seat v ne there is other. absurd (only_turn s.views id old at turn
            (omega (arith, kept.turn, kept.most)) seat v ne there other))
            kept.taken
            (λ _. takes);
        home = λ e. absurd (omega (arith, same_turn, kept.turn));
        permits = omega (arith, sum_set permits_of s.views id old new at, kept.permits, permits);
      }

  -- A live seat names the terms.
  pub named : (v : Standing) → IsOf terms v → v.live ≡ true → terms ≡ terms_of v
  named v right live = λ i. record {
    tag = sym (right.tag live) i;
    passes = sym (right.passes live) i;
  }

  -- All seats together have no more pins than the passes allow.
  pub few_known : (s : State S Standing) (id : ℕ) (v : Standing) (known : SlotWords)
      → OneTurn lawful shown words_in terms s → get_elem? s.views id ≡ some v → v.live ≡ true
      → AreWords terms.passes s.words known → AreFewPins v.passes known
  few_known s id v known kept at live are slots distinct = omega (
    arith,
    sum_same (λ slot. slice_index known.pins slot) (λ slot. pinned slot s.views) slots
        (λ slot. sym (are.pins slot) ∙ kept.pins slot),
    few_pins s.views slots distinct (λ seat w there. (kept.views seat w there).few),
    kept.permits,
    (kept.views id v at).passes live,
  )

  -- The words of the slots include a seat's pins, and no others if it has all permits.
  pub own_known : (s : State S Standing) (id : ℕ) (v : Standing) (known : SlotWords)
      → OneTurn lawful shown words_in terms s → get_elem? s.views id ≡ some v → v.live ≡ true
      → AreWords terms.passes s.words known → HasOwnPins v known
  own_known s id v known kept at live are = record {
    own = λ slot. omega (
      arith,
      are.pins slot,
      kept.pins slot,
      sum_has (λ (w : Standing). pins_on slot w.pins) s.views id v at,
    );
    alone = λ all slot. omega (
      arith,
      are.pins slot,
      kept.pins slot,
      pins_alone s.views id v at (omega (arith, kept.permits, (kept.views id v at).passes live, all))
          (λ seat w there. (kept.views seat w there).few) slot,
    );
  }
