-- A split, a join and the start keep the rule of a table.
use Rattle.std.proofs.Common.{◌≡◌, ℕ, ◌-◌, ◌*◌, ◌<◌, ◌≤◌, true, false, cond, List}
use Rattle.std.proofs.Common.{[], ◌∷◌, set, refl, sym, ap, ◌∙◌, zero-le}
use Rattle.std.proofs.Common.{arith, length, inr}
use Rattle.std.specs.Prelude.{slice_index}
use Rattle.std.proofs.lemmas.List.Sums.{sum_by-append, sum_by-cons}
use Rattle.atomic_table.specs.Table.{Splits, Joins, opening}
use Rattle.tile_store.specs.CachedTile.{Entries}
use Rattle.shard_gate.specs.declared.standing.Standing.{Standing}
use Rattle.shard_gate.specs.declared.rule.Terms.{Terms}
use Rattle.shard_gate.specs.Words.{SlotWords, AreBlank, AreHeld}
use Rattle.shard_gate.specs.Words.{turn_word, tag_word, first_word, key_word, pin_word, word_count}
use Rattle.shard_gate.specs.Words.{max_pins, pins_on}
use Rattle.shard_gate.specs.Turn.{OneTurn, IsOf, MadeNoVisit}
use Rattle.shard_gate.specs.Turn.{first_standing}
use Rattle.shard_gate.specs.Turn.{turn_of, permits_of}
use Rattle.shard_gate.specs.Turn.{kept_standing, new_standing, both_standings, spent_standing}
use Rattle.shard_gate.proofs.SumLemmas.{sum_set}
use Rattle.shard_gate.proofs.GivenLemmas.{given_still, given_more, given_joined}
use Rattle.shard_gate.proofs.RuleLemmas.{TakesOf, Each, one_view, one_more, one_only, KnowsOf, other_view}

module _ {S : Type 0} (lawful : Terms → S → Type 0) (shown : S → Entries)
    (words_in : S → SlotWords) (terms : Terms) where
  -- ---- seats

  pub split_allowed : (id : ℕ) (v : Standing) → v.live ≡ true → v.has_turn ≡ false
      → 1 < v.permits → length v.pins ≤ max_pins * (v.permits - 1)
      → Splits (OneTurn lawful shown words_in terms) id v (kept_standing v) (new_standing v)
  split_allowed id v live turn enough few s kept at =
      let right : IsOf terms v = kept.views id v at in
      let left = kept_standing v in
      let new = new_standing v in
      let none_out : turn_of v ≡ 0 = ap (λ b. cond b 1 0) turn in
      record {
        count = kept.count;
        most = kept.most;
        turn = omega (
          arith,
          sum_by-append turn_of (set s.views id left) (new ∷ []),
          sum_set turn_of s.views id v left at,
          kept.turn,
          none_out,
        );
        tag = kept.tag;
        views = one_more (IsOf terms) (set s.views id left) new
            (one_view (IsOf terms) (IsOf terms) s.views id left (λ seat w ne there is. is) kept.views
            (other_view lawful shown words_in terms v left right live refl refl refl few (omega (arith, enough))
            right.blind))
            (other_view lawful shown words_in terms v new right live refl refl refl (omega arith)
            (omega arith) right.blind);
        pins = λ slot. omega (
          arith,
          kept.pins slot,
          sum_by-append (λ (w : Standing). pins_on slot w.pins) (set s.views id left) (new ∷ []),
          sum_set (λ (w : Standing). pins_on slot w.pins) s.views id v left at,
        );
        held = one_more (λ w. AreHeld s.words w.pins) (set s.views id left) new
            (one_view (λ w. AreHeld s.words w.pins) (λ w. AreHeld s.words w.pins) s.views id left
            (λ seat w ne there is. is) kept.held (kept.held id v at))
            tt;
        known = one_more (KnowsOf lawful shown words_in terms s.words) (set s.views id left) new
            (one_view (KnowsOf lawful shown words_in terms s.words) (KnowsOf lawful shown words_in terms s.words) s.views id left
            (λ seat w ne there is. is) kept.known (kept.known id v at))
            (kept.known id v at);
        taken = one_more (TakesOf lawful shown words_in terms s.words) (set s.views id left) new
            (one_view (TakesOf lawful shown words_in terms s.words) (TakesOf lawful shown words_in terms s.words) s.views id left (λ seat w ne there is. is) kept.taken
            (kept.taken id v at))
            (λ e. absurd (cc (turn, e)));
        home = λ e. let body = kept.home e in (
          body.0,
          body.1,
          body.2,
          body.3,
          given_more (shown body.0) (set s.views id left) new (refl, tt)
              (given_still (shown body.0) s.views id v at left (λ gave. gave) (λ none. none) body.4),
        );
        permits = omega (
          arith,
          sum_by-append permits_of (set s.views id left) (new ∷ []),
          sum_set permits_of s.views id v left at,
          kept.permits,
          enough,
        );
      }

  pub join_allowed : (id : ℕ) (v : Standing) (other : ℕ) (w : Standing) → v.live ≡ true
      → w.has_turn ≡ false → w.pins ≡ []
      → Joins (OneTurn lawful shown words_in terms) id v other w (both_standings v w) spent_standing
  join_allowed id v other w live turn none_held s kept at apart there =
      let right : IsOf terms v = kept.views id v at in
      let both = both_standings v w in
      let none_out : turn_of w ≡ 0 = ap (λ b. cond b 1 0) turn in
      record {
        count = kept.count;
        most = kept.most;
        turn = omega (
          arith,
          sum_set turn_of (set s.views id both) other w spent_standing there,
          sum_set turn_of s.views id v both at,
          kept.turn,
          none_out,
        );
        tag = kept.tag;
        views = one_view (IsOf terms) (IsOf terms) (set s.views id both) other spent_standing
            (λ seat u ne is_there is. is)
            (one_view (IsOf terms) (IsOf terms) s.views id both (λ seat u ne is_there is. is) kept.views
            (other_view lawful shown words_in terms v both right live refl refl refl (omega (arith, right.few))
            (omega (arith, right.some live)) right.blind))
            (record {
              tag = λ e. cc e;
              passes = λ e. cc e;
              some = λ e. absurd (cc e);
              permits = λ _. refl;
              turn = λ _. refl;
              few = omega arith;
              blind = λ _. refl;
            });
        pins = λ slot. omega (
          arith,
          kept.pins slot,
          ap (pins_on slot) none_held,
          sum_set (λ (u : Standing). pins_on slot u.pins) (set s.views id both) other w spent_standing there,
          sum_set (λ (u : Standing). pins_on slot u.pins) s.views id v both at,
        );
        held = one_view (λ u. AreHeld s.words u.pins) (λ u. AreHeld s.words u.pins) (set s.views id both)
            other spent_standing (λ seat u ne is_there is. is)
            (one_view (λ u. AreHeld s.words u.pins) (λ u. AreHeld s.words u.pins) s.views id both
            (λ seat u ne is_there is. is) kept.held (kept.held id v at))
            tt;
        known = one_view (KnowsOf lawful shown words_in terms s.words) (KnowsOf lawful shown words_in terms s.words) (set s.views id both) other spent_standing
            (λ seat u ne is_there is. is)
            (one_view (KnowsOf lawful shown words_in terms s.words) (KnowsOf lawful shown words_in terms s.words) s.views id both
            (λ seat u ne is_there is. is) kept.known (kept.known id v at))
            (λ e. absurd (cc e));
        taken = one_view (TakesOf lawful shown words_in terms s.words) (TakesOf lawful shown words_in terms s.words) (set s.views id both) other spent_standing
            (λ seat u ne is_there is. is)
            (one_view (TakesOf lawful shown words_in terms s.words) (TakesOf lawful shown words_in terms s.words) s.views id both (λ seat u ne is_there is. is) kept.taken
            (kept.taken id v at))
            (λ e. absurd (cc e));
        home = λ e. let body = kept.home e in (
          body.0,
          body.1,
          body.2,
          body.3,
          given_joined (shown body.0) s.views id v other w at apart there body.4,
        );
        permits = omega (
          arith,
          sum_set permits_of (set s.views id both) other w spent_standing there,
          sum_set permits_of s.views id v both at,
          kept.permits,
        );
      }

  -- ---- the start

  pub opened : (words : List ℕ) (body : S) → length words ≡ word_count terms.passes
      → slice_index words turn_word ≡ 0 → slice_index words tag_word ≡ terms.tag
      → ((k : ℕ) → first_word ≤ k → slice_index words k ≡ 0) → 1 ≤ terms.passes → lawful terms body
      → AreBlank terms.passes (words_in body) → shown body ≡ []
      → OneTurn lawful shown words_in terms (opening words (body ∷ []) (first_standing terms))
  opened words body count turn tag blank enough right clear empty =
      let first = first_standing terms in
      let only : (P : Standing → Type 0) → P first → Each P (first ∷ []) = λ P is. one_only P first is in
      record {
        count = count;
        most = omega (arith, turn);
        turn = omega (arith, turn, sum_by-cons turn_of first []);
        tag = tag;
        views = only (IsOf terms) (record {
          tag = λ _. refl;
          passes = λ _. refl;
          some = λ _. enough;
          permits = λ e. absurd (cc e);
          turn = λ e. absurd (cc e);
          few = zero-le;
          blind = λ _. refl;
        });
        pins = λ slot. blank (pin_word slot) (omega arith);
        held = only (λ v. AreHeld words v.pins) tt;
        known = only (KnowsOf lawful shown words_in terms words) (λ e. absurd (cc e));
        taken = only (TakesOf lawful shown words_in terms words) (λ e. absurd (cc e));
        home = λ _. (
          body,
          refl,
          right,
          record {
            key_count = clear.key_count;
            pin_count = clear.pin_count;
            keys = λ slot. blank (key_word slot) (omega arith) ∙ sym (clear.keys slot);
            pins = λ slot. blank (pin_word slot) (omega arith) ∙ sym (clear.pins slot);
          },
          inr (only MadeNoVisit (refl, tt), empty),
        );
        permits = omega arith;
      }
