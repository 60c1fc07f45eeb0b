-- A take, a give and a load of the turn word keep the rule of a table.
use Rattle.std.proofs.Common.{◌≡◌, ℕ, ◌≤◌, ◌==◌, true, cond}
use Rattle.std.proofs.Common.{List, [], ◌∷◌, set, refl, subst, sym, ap, ◌∙◌, zero-le}
use Rattle.std.proofs.Common.{Some, inl, arith}
use Rattle.std.specs.Prelude.{slice_index}
use mathlib.Core.Option.{some, none}
use lib.ListN.{get_elem?}
use prog.Atomic.{either}
use Rattle.atomic_table.specs.Table.{State, Me, Act, keeps, takes, gives, step, rest, put_back}
use Rattle.atomic_table.specs.Table.{Valid, stepped, carried_after, Allows}
use Rattle.atomic_table.proofs.Lists.{set_here, exchanged}
use Rattle.tile_store.specs.CachedTile.{Entries}
use Rattle.shard_gate.specs.declared.standing.Standing.{Standing}
use Rattle.shard_gate.specs.declared.rule.Terms.{Terms}
use Rattle.shard_gate.specs.Words.{SlotWords, AreWords}
use Rattle.shard_gate.specs.Words.{turn_word}
use Rattle.shard_gate.specs.Turn.{OneTurn, IsOf}
use Rattle.shard_gate.specs.Steps.{Took, Gave, Counted}
use Rattle.shard_gate.specs.Turn.{terms_of}
use Rattle.shard_gate.specs.Turn.{turn_of, permits_of, with_turn, without_turn}
use Rattle.shard_gate.specs.Steps.{entries_of}
use Rattle.shard_gate.specs.Seated.{IsIdle}
use Rattle.shard_gate.specs.Visit.{Visit, begun, ended, GaveLast}
use Rattle.shard_gate.proofs.EveryoneLemmas.{all_pins}
use Rattle.shard_gate.proofs.GivenLemmas.{given_still, given_now}
use Rattle.shard_gate.proofs.SumLemmas.{sum_has}
use Rattle.shard_gate.proofs.PinLemmas.{among_held}
use Rattle.shard_gate.proofs.RuleLemmas.{IsIn, other_view, after, named, few_known, own_known}

-- The visit that ends gave back the entries of the body.
gave_last : {S : Type 0} (shown : S → Entries) (visits : List Visit) (keys : List ℕ)
    (slots : List (ℕ × S)) (body : S) → slots ≡ (0, body) ∷ []
    → {taken : Entries} {at_first : List ℕ} {before : List Visit}
    → visits ≡ begun taken at_first ∷ before
    → GaveLast (shown body) (ended (entries_of shown slots) keys visits)
gave_last shown visits keys slots body has began =
    subst (λ l. GaveLast (shown body) (ended (entries_of shown slots) keys l)) (sym began)
    (ap (λ l. Some (entries_of shown l)) has)

module _ {S : Type 0} (lawful : Terms → S → Type 0) (shown : S → Entries)
    (words_in : S → SlotWords) (terms : Terms) where
  -- the body is still at home after a step that changes no view
  still_home : (s : State S Standing) (id : ℕ) (v : Standing)
      → OneTurn lawful shown words_in terms s → get_elem? s.views id ≡ some v
      → slice_index s.words turn_word ≡ 0
      → IsIn lawful shown words_in terms s.words s.homes (set s.views id v)
  still_home s id v kept at free = let body = kept.home free in (
    body.0,
    body.1,
    body.2,
    body.3,
    given_still (shown body.0) s.views id v at v (λ gave. gave) (λ none. none) body.4,
  )

  -- ---- the turn

  pub take_allowed : (slots id : ℕ) (me : Me S Standing) → IsIdle me
      → Allows (OneTurn lawful shown words_in terms) slots id me turn_word (λ n. either (n == 0) 1 n)
      (Took lawful shown words_in (step slots turn_word 0 1 none) me)
  take_allowed slots id me idle s kept homes at fits =
      let n : ℕ = slice_index s.words turn_word in
      let right : IsOf terms me.0 = kept.views id me.0 at in
      let none_out : turn_of me.0 ≡ 0 = ap (λ b. cond b 1 0) idle.turn in
      exchanged n 0 1
      (λ m. (w : Standing) × (a : Act S) × Valid s.homes me.1 a
      × OneTurn lawful shown words_in terms (stepped s turn_word m id me.1 w a)
      × Took lawful shown words_in (step slots turn_word 0 1 none) me n (w, carried_after me.1 a))
      (λ free.
      let home = kept.home free in
      let known = words_in home.0 in
      let own = own_known lawful shown words_in terms s id me.0 known kept at idle.live home.3 in
      let won = with_turn (shown home.0) known me.0 in (
        won,
        takes 0 home.0,
        home.1,
        after lawful shown words_in terms s id 1 me.0 won (set s.homes 0 none) kept at (omega arith)
            (omega (arith, free, none_out)) refl refl
            (other_view lawful shown words_in terms me.0 won right idle.live refl refl refl right.few
            (right.some idle.live) (λ e. absurd (cc e)))
            (λ _. home.3)
            (λ _. record {
              body = home.0;
              before = me.0.visits;
              right = home.2;
              last = refl;
              keys = λ slot out. home.3.keys slot;
              pins = λ slot out. home.3.pins slot;
            })
            (λ e. absurd (omega arith)),
        record {
          won = λ _. (
            home.0,
            ap (λ l. (won, (0, home.0) ∷ l)) idle.slots,
            subst (λ t. lawful t home.0) (named lawful shown words_in terms me.0 right idle.live) home.2,
            among_held terms.passes s.words known me.0.pins home.3 (kept.held id me.0 at) own.own,
            few_known lawful shown words_in terms s id me.0 known kept at idle.live home.3,
            own,
            all_pins s.words known home.3.keys s.views id me.0 at kept.held
                (λ slot. sym (home.3.pins slot) ∙ kept.pins slot),
          );
          lost = λ e. absurd (e free);
        },
      ))
      (λ out. (
        me.0,
        keeps,
        tt,
        after lawful shown words_in terms s id n me.0 me.0 s.homes kept at kept.most refl refl refl right
            (kept.known id me.0 at) (kept.taken id me.0 at)
            (still_home s id me.0 kept at),
        record { won = λ e. absurd (out e); lost = λ _. refl },
      ))

  pub give_allowed : (slots id : ℕ) (me : Me S Standing) (body : S) → me.0.live ≡ true
      → me.0.has_turn ≡ true → me.1 ≡ (0, body) ∷ [] → lawful (terms_of me.0) body
      → me.0.known ≡ words_in body → slots ≡ 1
      → Allows (OneTurn lawful shown words_in terms) slots id me turn_word (λ _. 0)
      (λ _. Gave shown (step slots turn_word 0 0 none) me 0)
  give_allowed slots id me body live turn has right same one s kept homes at fits =
      let view : IsOf terms me.0 = kept.views id me.0 at in
      let left = without_turn (entries_of shown me.1) me.0 in
      let one_out : turn_of me.0 ≡ 1 = ap (λ b. cond b 1 0) turn in
      let out : turn_of me.0 ≤ slice_index s.words turn_word =
      subst (λ n. turn_of me.0 ≤ n) kept.turn (sum_has turn_of s.views id me.0 at) in
      let there : get_elem? (put_back s.homes me.1) 0 ≡ some (some body) =
      ap (λ c. get_elem? (put_back s.homes c) 0) has
      ∙ set_here s.homes 0 (some body) (omega (arith, homes, one)) in (
        left,
        gives,
        tt,
        after lawful shown words_in terms s id 0 me.0 left (put_back s.homes me.1) kept at zero-le
            (omega (arith, one_out, out, kept.most)) refl refl
            (other_view lawful shown words_in terms me.0 left view live refl refl refl view.few
            (view.some live) (λ _. refl))
            (λ e. absurd (cc e)) (λ e. absurd (cc e))
            (λ _. (
              body,
              there,
              subst (λ t. lawful t body) (sym (named lawful shown words_in terms me.0 view live)) right,
              subst (λ k. AreWords terms.passes s.words k) same (kept.known id me.0 at turn),
              given_now (shown body) s.views id me.0 at left (inl (gave_last shown me.0.visits
                  me.0.known.keys me.1 body has (kept.taken id me.0 at turn).last)),
            )),
        record { view = refl; slots = ap rest has },
      )

  pub count_allowed : (slots id : ℕ) (me : Me S Standing) → me.0.live ≡ true
      → Allows (OneTurn lawful shown words_in terms) slots id me turn_word (λ n. n)
      (Counted (step slots turn_word 0 0 none) me)
  count_allowed slots id me live s kept homes at fits =
      let n : ℕ = slice_index s.words turn_word in
      let right : IsOf terms me.0 = kept.views id me.0 at in (
        me.0,
        keeps,
        tt,
        after lawful shown words_in terms s id n me.0 me.0 s.homes kept at kept.most refl refl refl right
            (kept.known id me.0 at) (kept.taken id me.0 at)
            (still_home s id me.0 kept at),
        record {
          same = refl;
          few = omega (
            arith,
            sum_has permits_of s.views id me.0 at,
            kept.permits,
            right.passes live,
          );
        },
      )
