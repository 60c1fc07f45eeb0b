-- The marks of the files that may have tiles, as tiles come and leave.
use Rattle.std.proofs.Common.{◌≡◌, ℕ, ◌<◌, ◌≤◌, ◌==◌, ◌&&◌, ◌+◌, ◌^◌, Bool, true, false, cond, not, nat_eq, nat_lt}
use Rattle.std.proofs.Common.{List, [], ◌∷◌, length, Option, Some, None, refl, sym, ap, ◌∙◌, subst, ⊎_elim, arith}
use Rattle.std.specs.Prelude.{slice_index_or, IfSome}
use Rattle.std.specs.List.{All}
use Rattle.std.proofs.lemmas.Bool.{eqb-true, eqb-false, cases_lt, false≢true}
use Rattle.std.proofs.lemmas.List.{get_or-set_same, get_or-set_other, get_or_past}
use Rattle.std.proofs.lemmas.List.Elements.{All-nil, All-cons, All-head, All-tail}
use Rattle.tile_layout.specs.Key.{file_bits, generation_of, file_of}
use Rattle.tile_store.specs.CachedTile.{EntryState, Entries, is_unpinned}
use Rattle.tile_store.specs.Changes.{is_stale, without_stale}
use Rattle.tile_store.specs.Order.{entry_in, in_front, entries_of}
use Rattle.tile_store.specs.Marks.{is_marked, HasMark, IsOfOther, marked, unmarked}

-- a fact of each entry, from another fact of each
pub All_from : (P Q : ℕ × EntryState → Type 0) (es : Entries)
    → ((e : ℕ × EntryState) → P e → Q e) → All P es → All Q es
All_from P Q [] from all = All-nil Q
All_from P Q (e ∷ es) from all =
    All-cons Q e es (from e (All-head P e es all)) (All_from P Q es from (All-tail P e es all))

-- ---- marks

-- the file number of a key fits its bits
pub file_low : (key : ℕ) → file_of key < 2 ^ file_bits
unfolding file_of
file_low key = omega arith

module _ (file : ℕ) (marks : List Bool) where
  -- a marked file stays marked when another one is marked
  pub marked_more : (f : ℕ) → file < length marks → is_marked f marks ≡ true
      → is_marked f (marked file marks) ≡ true
  marked_more f low was =
      (elim (nat_eq f file) as (λ b. nat_eq f file ≡ b → is_marked f (marked file marks) ≡ true) [
        | true ↦ λ is. ap (λ n. slice_index_or (marked file marks) n false) (eqb-true f file is)
            ∙ get_or-set_same marks file true false low
        | false ↦ λ other. get_or-set_other marks file f true false (eqb-false f file other) ∙ was
      ]) refl

  pub marked_own : file < length marks → is_marked file (marked file marks) ≡ true
  marked_own low = get_or-set_same marks file true false low

  -- one that is not this file keeps its mark
  pub unmarked_other : (f : ℕ) → (f == file) ≡ false → is_marked f marks ≡ true
      → is_marked f (unmarked file marks) ≡ true
  unmarked_other f other was = get_or-set_other marks file f false false (eqb-false f file other) ∙ was

-- entries that have marks keep them
pub noted_more : (file : ℕ) (marks : List Bool) (es : Entries) → file < length marks
    → All (HasMark marks) es → All (HasMark (marked file marks)) es
noted_more file marks es low = All_from (HasMark marks) (HasMark (marked file marks)) es
    (λ e. marked_more file marks (file_of e.0) low)

both_hold : (file : ℕ) (marks : List Bool) (es : Entries) → All (IsOfOther file) es → All (HasMark marks) es
    → All (HasMark (unmarked file marks)) es
both_hold file marks [] others all = All-nil (HasMark (unmarked file marks))
both_hold file marks (e ∷ es) others all =
    All-cons (HasMark (unmarked file marks)) e es
    (unmarked_other file marks (file_of e.0) (All-head (IsOfOther file) e es others) (All-head (HasMark marks) e es all))
    (both_hold file marks es (All-tail (IsOfOther file) e es others) (All-tail (HasMark marks) e es all))

-- if no tile of the file stays, the other files keep their marks
pub noted_kept : (file : ℕ) (marks : List Bool) (es : Entries) (stays : Bool)
    → (stays ≡ false → All (IsOfOther file) es) → All (HasMark marks) es
    → All (HasMark (cond stays marks (unmarked file marks))) es
noted_kept file marks es true others all = all
noted_kept file marks es false others all = both_hold file marks es (others refl) all

-- ---- a file without a mark

unlike : (marks : List Bool) (f file : ℕ) → is_marked f marks ≡ true → is_marked file marks ≡ false
    → (f == file) ≡ false
unlike marks f file is none =
    (elim (nat_eq f file) as (λ b. nat_eq f file ≡ b → b ≡ false) [
      | true ↦ λ same. absurd (false≢true (sym none
          ∙ ap (λ n. is_marked n marks) (sym (eqb-true f file same)) ∙ is))
      | false ↦ λ _. refl
    ]) refl

fresh : (file below : ℕ) (e : ℕ × EntryState) → (file_of e.0 == file) ≡ false → is_stale file below e ≡ false
fresh file below e other =
    elim (is_unpinned e) as (λ u. (u && (file_of e.0 == file) && nat_lt (generation_of e.0) below) ≡ false) [
      | true ↦ rw other refl
      | false ↦ refl
    ]

-- has no entry, so a purge of it takes none
pub without_none : (file below : ℕ) (marks : List Bool) (es : Entries) → All (HasMark marks) es
    → is_marked file marks ≡ false → without_stale file below es ≡ es
without_none file below marks [] all none = refl
without_none file below marks (e ∷ es) all none =
    let other = unlike marks (file_of e.0) file (All-head (HasMark marks) e es all) none in
    rw (fresh file below e other)
    (ap (λ l. e ∷ l) (without_none file below marks es (All-tail (HasMark marks) e es all) none))

-- ---- the slots

-- the entry in a slot, if it has one, is of another file
abbrev pub OtherIn : ℕ → Option EntryState → Type 0
OtherIn file slot = IfSome slot (λ e. (file_of e.tile.key == file) ≡ false)

front_other : (file : ℕ) (slot : Option EntryState) (es : Entries) → OtherIn file slot
    → All (IsOfOther file) es → All (IsOfOther file) (in_front slot es)
front_other file None es other all = all
front_other file (Some e) es other all = All-cons (IsOfOther file) (e.tile.key, e) es other all

-- if no slot has an entry of the file, the order has none
pub others_in : (file : ℕ) (slots : List (Option EntryState)) (order : List ℕ)
    → ((p : ℕ) → OtherIn file (entry_in slots p)) → All (IsOfOther file) (entries_of slots order)
others_in file slots [] none = All-nil (IsOfOther file)
others_in file slots (p ∷ ps) none =
    front_other file (entry_in slots p) (entries_of slots ps) (none p) (others_in file slots ps none)

-- the first n slots have no entry of the file
abbrev pub OtherBelow : ℕ → List (Option EntryState) → ℕ → Type 0
OtherBelow file slots n = (p : ℕ) → p < n → OtherIn file (entry_in slots p)

-- a slot that there is not has none
pub other_below : (file : ℕ) (slots : List (Option EntryState)) → OtherBelow file slots (length slots)
    → (p : ℕ) → OtherIn file (entry_in slots p)
other_below file slots none p =
    ⊎_elim (none p) (λ past. subst (OtherIn file) (sym (get_or_past slots p None past)) tt)
    (cases_lt p (length slots))

-- one more slot has no entry of the file
pub one_other : (file : ℕ) (slots : List (Option EntryState)) (n : ℕ) → OtherBelow file slots n
    → OtherIn file (entry_in slots n) → OtherBelow file slots (n + 1)
one_other file slots n none more p low =
    ⊎_elim (none p)
    (λ past. let same : p ≡ n = omega arith in subst (λ q. OtherIn file (entry_in slots q)) (sym same) more)
    (cases_lt p n)
