-- What a seat keeps while it reports the slots that tiles left.
use Rattle.std.proofs.Common.{◌≡◌, ℕ, ◌<◌, List, [], ◌∷◌}
use Rattle.std.proofs.Common.{length, Some, IsSome, refl, sym, ap, subst, ◌∙◌, arith}
use Rattle.atomic_table.specs.Table.{Me, rest}
use Rattle.tex_world.specs.World.{Files}
use Rattle.tile_store.specs.CachedTile.{entry_at}
use Rattle.tile_store.specs.Keys.{slot_of, AreApart}
use Rattle.tile_store.specs.Lawful.{Lawful}
use Rattle.tile_store.specs.Slots.{ShardState, TellsSlot}
use Rattle.shard_gate.specs.declared.standing.Standing.{Standing}
use Rattle.shard_gate.specs.declared.rule.Terms.{Terms}
use Rattle.shard_gate.specs.Words.{keyed_words}
use Rattle.shard_gate.specs.Words.{slots_of}
use Rattle.shard_gate.specs.Turn.{terms_of}
use Rattle.shard_gate.specs.Steps.{MayFill}
use Rattle.shard_gate.specs.Turn.{with_key}
use Rattle.shard_gate.specs.Home.{words_of, IsStored}
use Rattle.shard_gate.specs.Work.{AreBehind, IsTellingOf, HasToldOf}
use Rattle.shard_gate.proofs.LeaveLemmas.{told_free, told_more, all_told}

-- A shard stays stored properly if its entries and slots do not change.
pub stored_same : (files : Files) (terms : Terms) (s new : ShardState) → new.entries ≡ s.entries
    → new.slots ≡ s.slots → IsStored files terms s → IsStored files terms new
stored_same files terms s new entries slots is = record {
  entries = subst (λ es. Lawful files terms.tag es) (sym entries) is.entries;
  in_slots = record {
    apart = subst (λ l. AreApart l) (sym slots) is.in_slots.apart;
    some = λ key slot found. subst (λ es. IsSome (entry_at key es)) (sym entries)
        (is.in_slots.some key slot (ap (slot_of key) (sym slots) ∙ found));
    none = λ key missing. ap (entry_at key) entries
        ∙ is.in_slots.none key (ap (slot_of key) (sym slots) ∙ missing);
  };
  count = ap length slots ∙ is.count;
}

module _ {A : Type 0} (value : A → ShardState) where
  -- the slots still to be reported, in the shard that a seat has
  abbrev pub left_in : List (ℕ × A) → List ℕ
  left_in [] = []
  left_in (x ∷ xs) = (value x.1).left

  -- The seat has reported some slots, and the shard has the same entries in the same slots.
  pub record ToldSoFar (old now : Me A Standing) : Type 0 where
    pub body : A
    pub before : A
    pub slots : now.1 ≡ (0, body) ∷ []
    pub slots_before : old.1 ≡ (0, before) ∷ []
    pub view : now.0 ≡ record old.0 { known = now.0.known; filled = now.0.filled }
    pub entries : (value body).entries ≡ (value before).entries
    pub same : (value body).slots ≡ (value before).slots
    pub behind : AreBehind now.0.known (value body)

  module _ (files : Files) where
    pub told_start : (me : Me A Standing) → IsTellingOf value files me → ToldSoFar me me
    told_start me is = record {
      body = is.body;
      before = is.body;
      slots = is.slots;
      slots_before = is.slots;
      view = refl;
      entries = refl;
      same = refl;
      behind = is.behind;
    }

-- the shard in the slot that a seat has, or another
abbrev shard_in : {A : Type 0} → List (ℕ × A) → A → A
shard_in [] other = other
shard_in (x ∷ xs) other = x.1

-- A seat has one slot, and what is lent of it is what lies in it.
pub one_slot : {A : Type 0} (l r : List (ℕ × A)) (x y : A) → l ≡ (0, x) ∷ [] → l ≡ (0, y) ∷ r → y ≡ x
one_slot l r x y is lent = ap (λ k. shard_in k x) (sym lent ∙ is)

module _ {A : Type 0} (value : A → ShardState) (files : Files) (old now : Me A Standing)
    (is : IsTellingOf value files old) (told : ToldSoFar value old now) (there : A)
    (r : List (ℕ × A)) (s new : ShardState) (lent : now.1 ≡ (0, there) ∷ r) (same : s ≡ value there)
    (new_body : A) (put : value new_body ≡ new) where
  here : s ≡ value told.body
  here = same ∙ ap value (one_slot now.1 r told.body there told.slots lent)

  first : value told.before ≡ value is.body
  first = ap value (one_slot old.1 [] is.body told.before is.slots told.slots_before)

  known_behind : AreBehind now.0.known s
  known_behind = subst (λ t. AreBehind now.0.known t) (sym here) told.behind

  count : length s.slots ≡ slots_of old.0.passes
  count = ap (λ (t : ShardState). length t.slots) here
      ∙ (ap length told.same ∙ (ap (λ (t : ShardState). length t.slots) first ∙ is.stored.count))

  carried : rest now.1 ≡ []
  carried = ap rest told.slots

  -- There are as many slots as at the start.
  pub told_low : (before : A) (others : List (ℕ × A)) (slot n : ℕ) → old.1 ≡ (0, before) ∷ others
      → n ≡ length (value before).slots → slot < n → slot < length s.slots
  told_low before others slot n was long low =
      let start : value before ≡ value is.body =
      ap value (one_slot old.1 others is.body before is.slots was) in
      omega (
        arith,
        count,
        is.stored.count,
        ap (λ (t : ShardState). length t.slots) start,
      )

  module _ (slot : ℕ) (tells : TellsSlot (Some slot) s new) (low : slot < length s.slots) where
    pub may_fill : MayFill slot now.0
    may_fill = record {
      inside = subst (λ n. slot < slots_of n) (sym (ap (λ (v : Standing). v.passes) told.view))
          (omega (arith, low, count));
      live = ap (λ (v : Standing). v.live) told.view ∙ is.live;
      turn = ap (λ (v : Standing). v.has_turn) told.view ∙ is.turn;
      unpinned = told_free now.0.known s new slot tells.entries tells.slots tells.left known_behind;
    }

    pub tell_more : (me : Me A Standing) → me ≡ (with_key slot 0 now.0, (0, new_body) ∷ rest now.1)
        → ToldSoFar value old me
    tell_more me filled = subst (λ (m : Me A Standing). ToldSoFar value old m) (sym filled)
        (record {
          body = new_body;
          before = told.before;
          slots = ap (λ l. (0, new_body) ∷ l) carried;
          slots_before = told.slots_before;
          view = λ i. record (told.view i) {
            known = (with_key slot 0 now.0).known;
            filled = (with_key slot 0 now.0).filled;
          };
          entries = ap (λ (t : ShardState). t.entries) put ∙ (tells.entries
              ∙ (ap (λ (t : ShardState). t.entries) here ∙ told.entries));
          same = ap (λ (t : ShardState). t.slots) put ∙ (tells.slots
              ∙ (ap (λ (t : ShardState). t.slots) here ∙ told.same));
          behind = subst (λ t. AreBehind (keyed_words slot 0 now.0.known) t) (sym put)
              (told_more now.0.known s new slot tells.entries tells.slots tells.left known_behind low);
        })

  pub tell_all : (entries : new.entries ≡ s.entries) → new.slots ≡ s.slots → s.left ≡ []
      → new.left ≡ []
      → HasToldOf value files old (now.0, (0, new_body) ∷ rest now.1)
  tell_all entries slots none left =
      let words : words_of s ≡ words_of (value new_body) =
      sym (ap words_of put ∙ (λ i. words_of (record { entries = entries i; slots = slots i; left = [] }))) in
      let same_entries : (value new_body).entries ≡ (value told.before).entries =
      ap (λ (t : ShardState). t.entries) put
      ∙ (entries ∙ (ap (λ (t : ShardState). t.entries) here ∙ told.entries)) in
      let same_slots : (value new_body).slots ≡ (value told.before).slots =
      ap (λ (t : ShardState). t.slots) put
      ∙ (slots ∙ (ap (λ (t : ShardState). t.slots) here ∙ told.same)) in
      record {
        body = new_body;
        before = told.before;
        slots = ap (λ l. (0, new_body) ∷ l) carried;
        slots_before = told.slots_before;
        view = told.view ∙ (λ i. record old.0 {
          known = (all_told now.0.known s known_behind none ∙ words) i;
          filled = now.0.filled;
        });
        entries = same_entries;
        home = record {
          stored = stored_same files (terms_of old.0) (value is.body) (value new_body)
              (same_entries ∙ ap (λ (t : ShardState). t.entries) first)
              (same_slots ∙ ap (λ (t : ShardState). t.slots) first) is.stored;
          left = ap (λ (t : ShardState). t.left) put ∙ left;
        };
      }
