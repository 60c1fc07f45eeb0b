-- Each step on a word of a slot keeps the rule of a table.
use Rattle.std.proofs.Common.{◌≡◌, ℕ, ◌+◌, ◌-◌, ◌*◌, ◌^◌, ◌%◌, ◌<◌, ◌≤◌}
use Rattle.std.proofs.Common.{List, ◌∷◌, set, refl, subst, sym, ap, ◌∙◌}
use Rattle.std.proofs.Common.{arith, length}
use Rattle.std.specs.Prelude.{slice_index}
use Rattle.std.proofs.lemmas.List.{length-set, get_or-set_other}
use mathlib.Core.Option.{some, none}
use lib.ListN.{get_elem?}
use Rattle.atomic_table.specs.Table.{Me, keeps, step}
use Rattle.atomic_table.specs.Table.{stepped, Allows}
use Rattle.tile_store.specs.CachedTile.{Entries}
use Rattle.shard_gate.specs.declared.standing.Standing.{Standing}
use Rattle.shard_gate.specs.declared.rule.Terms.{Terms}
use Rattle.shard_gate.specs.Words.{SlotWords, AreWords, AreHeld}
use Rattle.shard_gate.specs.Words.{key_word, pin_word}
use Rattle.shard_gate.specs.Words.{max_permits, max_pins, slots_of, pins_on}
use Rattle.shard_gate.specs.Turn.{OneTurn, IsOf, TookLawful}
use Rattle.shard_gate.specs.Visit.{Visit}
use Rattle.shard_gate.specs.Steps.{Looked, Pinned, Unpinned, Filled}
use Rattle.shard_gate.specs.Steps.{MayLook, MayPin, MayUnpin, MayFill}
use Rattle.shard_gate.specs.Turn.{pinned}
use Rattle.shard_gate.specs.Turn.{with_pin, without_pin, with_key}
use Rattle.shard_gate.proofs.SumLemmas.{sum_has, few_pins_of}
use Rattle.shard_gate.proofs.PinLemmas.{held_same, held_filled, held_without}
use Rattle.shard_gate.proofs.PinLemmas.{length-without}
use Rattle.shard_gate.proofs.WordLemmas.{keys_beside, pins_beside, set_both, set_same, small_mod, less_mod, pin_shift, unpin_shift, out_of}
use Rattle.shard_gate.proofs.RuleLemmas.{one_view, other_view, after_slot}

module _ {S : Type 0} (lawful : Terms → S → Type 0) (shown : S → Entries)
    (words_in : S → SlotWords) (terms : Terms) where
  -- ---- what was taken, after a change of a slot

  took_repinned : (words : List ℕ) (slot n : ℕ) (filled repinned : List ℕ) (visits : List Visit)
      → TookLawful lawful shown words_in terms words filled repinned visits
      → TookLawful lawful shown words_in terms (set words (pin_word slot) n) filled (slot ∷ repinned)
      visits
  took_repinned words slot n filled repinned visits is = record {
    body = is.body;
    before = is.before;
    right = is.right;
    last = is.last;
    keys = λ other out. keys_beside words slot n other ∙ is.keys other out;
    pins = λ other out. let beside = out_of other slot repinned out in
        get_or-set_other words (pin_word slot) (pin_word other) n 0
        (λ (e : pin_word other ≡ pin_word slot). beside.0 (omega (arith, e)))
        ∙ is.pins other beside.1;
  }

  took_filled : (words : List ℕ) (slot n : ℕ) (filled repinned : List ℕ) (visits : List Visit)
      → TookLawful lawful shown words_in terms words filled repinned visits
      → TookLawful lawful shown words_in terms (set words (key_word slot) n) (slot ∷ filled) repinned
      visits
  took_filled words slot n filled repinned visits is = record {
    body = is.body;
    before = is.before;
    right = is.right;
    last = is.last;
    keys = λ other out. let beside = out_of other slot filled out in
        get_or-set_other words (key_word slot) (key_word other) n 0
        (λ (e : key_word other ≡ key_word slot). beside.0 (omega (arith, e)))
        ∙ is.keys other beside.1;
    pins = λ other out. pins_beside words slot n other ∙ is.pins other out;
  }

  -- ---- the words of a slot

  pub look_allowed : (slots id slot : ℕ) (me : Me S Standing) → MayLook slot me.0
      → Allows (OneTurn lawful shown words_in terms) slots id me (key_word slot) (λ n. n)
      (Looked (step slots (key_word slot) 0 0 none) me)
  look_allowed slots id slot me may s kept homes at fits =
      let n : ℕ = slice_index s.words (key_word slot) in
      let right : IsOf terms me.0 = kept.views id me.0 at in
      let known = kept.known id me.0 at may.turn in
      let same : set s.words (key_word slot) n ≡ s.words = set_same s.words (key_word slot) 0 in (
        me.0,
        keeps,
        tt,
        after_slot lawful shown words_in terms s id (key_word slot) n me.0 me.0 kept at (omega arith) may.turn may.turn refl
            right
            (λ other. ap (λ l. slice_index l (pin_word other) + pins_on other me.0.pins) same)
            (one_view (λ v. AreHeld s.words v.pins) (λ v. AreHeld (set s.words (key_word slot) n) v.pins)
            s.views id me.0 (λ seat v ne there is. subst (λ l. AreHeld l v.pins) (sym same) is)
            kept.held (subst (λ l. AreHeld l me.0.pins) (sym same) (kept.held id me.0 at)))
            (subst (λ l. AreWords terms.passes l me.0.known) (sym same) known)
            (subst (λ l. TookLawful lawful shown words_in terms l me.0.filled me.0.repinned me.0.visits)
            (sym same) (kept.taken id me.0 at may.turn)),
        record {
          same = refl;
          key = λ other is.
              let one : slot ≡ other = omega (arith, is) in
              known.keys slot ∙ ap (slice_index me.0.known.keys) one;
        },
      )

  pub pin_allowed : (slots id slot : ℕ) (me : Me S Standing) → MayPin slot me.0
      → terms.passes ≤ max_permits
      → Allows (OneTurn lawful shown words_in terms) slots id me (pin_word slot) (λ n. (n + 1) % 2 ^ 64)
      (Pinned (step slots (pin_word slot) 1 0 none) me)
  pin_allowed slots id slot me may small s kept homes at fits =
      let n : ℕ = slice_index s.words (pin_word slot) in
      let right : IsOf terms me.0 = kept.views id me.0 at in
      let known = kept.known id me.0 at may.turn in
      let new = with_pin slot me.0 in
      let inside : slot < slots_of terms.passes = subst (λ k. slot < slots_of k) (right.passes may.live) may.inside in
      let low : pin_word slot < length s.words = omega (arith, kept.count) in
      let most : n ≤ max_pins * terms.passes =
      omega (
        arith,
        kept.pins slot,
        kept.permits,
        few_pins_of s.views slot (λ seat w there. (kept.views seat w there).few),
      ) in
      let more : (n + 1) % 2 ^ 64 ≡ n + 1 = small_mod (n + 1) (omega (arith, most, small)) in
      let words = set s.words (pin_word slot) (n + 1) in
      let keys : (other : ℕ) → slice_index words (key_word other) ≡ slice_index s.words (key_word other) =
      λ other. keys_beside s.words slot (n + 1) other in
      let set_known = set_both s.words me.0.known.pins 33 slot (n + 1) low (omega (arith, known.pin_count, inside)) known.pins in
      let number : n ≡ slice_index me.0.known.pins slot = known.pins slot in (
        new,
        keeps,
        tt,
        subst (λ m. OneTurn lawful shown words_in terms (stepped s (pin_word slot) m id me.1 new keeps)) (sym more)
            (after_slot lawful shown words_in terms s id (pin_word slot) (n + 1) me.0 new kept at (omega arith) may.turn may.turn refl
            (other_view lawful shown words_in terms me.0 new right may.live refl refl refl (omega (arith, may.room))
            (right.some may.live) (λ e. absurd (cc (may.turn, e))))
            (λ other. pin_shift s.words slot n other me.0.pins (slice_index me.0.known.keys slot) low refl)
            (one_view (λ v. AreHeld s.words v.pins) (λ v. AreHeld words v.pins) s.views id new
            (λ seat v ne there is. held_same s.words words v.pins keys is)
            kept.held
            (keys slot ∙ known.keys slot, may.key, held_same s.words words me.0.pins keys (kept.held id me.0 at)))
            (record {
              key_count = known.key_count;
              pin_count = length-set me.0.known.pins slot (slice_index me.0.known.pins slot + 1)
                  ∙ known.pin_count;
              keys = λ other. keys other ∙ known.keys other;
              pins = λ other. set_known other
                  ∙ ap (λ m. slice_index (set me.0.known.pins slot (m + 1)) other) number;
            })
            (took_repinned s.words slot (n + 1) me.0.filled me.0.repinned me.0.visits
            (kept.taken id me.0 at may.turn))),
        record {
          pin = λ other is.
              let one : slot ≡ other = omega (arith, is) in
              ap (λ k. (with_pin k me.0, me.1)) one;
        },
      )

  pub unpin_allowed : (slots id slot : ℕ) (me : Me S Standing) → MayUnpin slot me.0
      → Allows (OneTurn lawful shown words_in terms) slots id me (pin_word slot)
      (λ n. (n + (2 ^ 64 - 1)) % 2 ^ 64)
      (Unpinned (step slots (pin_word slot) 1 0 none) me)
  unpin_allowed slots id slot me may s kept homes at fits =
      let n : ℕ = slice_index s.words (pin_word slot) in
      let right : IsOf terms me.0 = kept.views id me.0 at in
      let known = kept.known id me.0 at may.turn in
      let new = without_pin slot me.0 in
      let inside : slot < slots_of terms.passes = subst (λ k. slot < slots_of k) (right.passes may.live) may.inside in
      let low : pin_word slot < length s.words = omega (arith, kept.count) in
      let some_pin : 1 ≤ n =
      omega (
        arith,
        may.own,
        kept.pins slot,
        sum_has (λ (v : Standing). pins_on slot v.pins) s.views id me.0 at,
      ) in
      let less : (n + (2 ^ 64 - 1)) % 2 ^ 64 ≡ n - 1 = less_mod n some_pin fits in
      let words = set s.words (pin_word slot) (n - 1) in
      let keys : (other : ℕ) → slice_index words (key_word other) ≡ slice_index s.words (key_word other) =
      λ other. keys_beside s.words slot (n - 1) other in
      let set_known = set_both s.words me.0.known.pins 33 slot (n - 1) low (omega (arith, known.pin_count, inside)) known.pins in
      let number : n ≡ slice_index me.0.known.pins slot = known.pins slot in (
        new,
        keeps,
        tt,
        subst (λ m. OneTurn lawful shown words_in terms (stepped s (pin_word slot) m id me.1 new keeps)) (sym less)
            (after_slot lawful shown words_in terms s id (pin_word slot) (n - 1) me.0 new kept at (omega arith) may.turn may.turn refl
            (other_view lawful shown words_in terms me.0 new right may.live refl refl refl
            (omega (arith, right.few, length-without slot me.0.pins))
            (right.some may.live) (λ e. absurd (cc (may.turn, e))))
            (λ other. unpin_shift s.words slot n other me.0.pins low refl some_pin may.own)
            (one_view (λ v. AreHeld s.words v.pins) (λ v. AreHeld words v.pins) s.views id new
            (λ seat v ne there is. held_same s.words words v.pins keys is)
            kept.held
            (held_same s.words words new.pins keys (held_without s.words slot me.0.pins (kept.held id me.0 at))))
            (record {
              key_count = known.key_count;
              pin_count = length-set me.0.known.pins slot (slice_index me.0.known.pins slot - 1)
                  ∙ known.pin_count;
              keys = λ other. keys other ∙ known.keys other;
              pins = λ other. set_known other
                  ∙ ap (λ m. slice_index (set me.0.known.pins slot (m - 1)) other) number;
            })
            (took_repinned s.words slot (n - 1) me.0.filled me.0.repinned me.0.visits
            (kept.taken id me.0 at may.turn))),
        record {
          pin = λ other is.
              let one : slot ≡ other = omega (arith, is) in
              ap (λ k. (without_pin k me.0, me.1)) one;
        },
      )

  pub fill_allowed : (slots id slot key : ℕ) (me : Me S Standing) → MayFill slot me.0
      → Allows (OneTurn lawful shown words_in terms) slots id me (key_word slot) (λ _. key)
      (λ _. Filled (step slots (key_word slot) key 0 none) me key)
  fill_allowed slots id slot key me may s kept homes at fits =
      let right : IsOf terms me.0 = kept.views id me.0 at in
      let known = kept.known id me.0 at may.turn in
      let new = with_key slot key me.0 in
      let inside : slot < slots_of terms.passes = subst (λ k. slot < slots_of k) (right.passes may.live) may.inside in
      let low : key_word slot < length s.words = omega (arith, kept.count) in
      let words = set s.words (key_word slot) key in
      let free : pinned slot s.views ≡ 0 = sym (kept.pins slot) ∙ (known.pins slot ∙ may.unpinned) in
      let filled : (seat : ℕ) (v : Standing) → get_elem? s.views seat ≡ some v → AreHeld words v.pins =
      λ seat v there. held_filled s.words slot key v.pins
      (omega (arith, free, sum_has (λ (w : Standing). pins_on slot w.pins) s.views seat v there))
      (kept.held seat v there) in (
        new,
        keeps,
        tt,
        after_slot lawful shown words_in terms s id (key_word slot) key me.0 new kept at (omega arith) may.turn may.turn refl
            (other_view lawful shown words_in terms me.0 new right may.live refl refl refl right.few
            (right.some may.live) (λ e. absurd (cc (may.turn, e))))
            (λ other. ap (λ m. m + pins_on other me.0.pins) (pins_beside s.words slot key other))
            (one_view (λ v. AreHeld words v.pins) (λ v. AreHeld words v.pins) s.views id new
            (λ seat v ne there is. is) filled (filled id me.0 at))
            (record {
              key_count = length-set me.0.known.keys slot key ∙ known.key_count;
              pin_count = known.pin_count;
              keys = set_both s.words me.0.known.keys 32 slot key low
                  (omega (arith, known.key_count, inside)) known.keys;
              pins = λ other. pins_beside s.words slot key other ∙ known.pins other;
            })
            (took_filled s.words slot key me.0.filled me.0.repinned me.0.visits
            (kept.taken id me.0 at may.turn)),
        record {
          key = λ other is.
              let one : slot ≡ other = omega (arith, is) in
              ap (λ k. (with_key k key me.0, me.1)) one;
        },
      )
