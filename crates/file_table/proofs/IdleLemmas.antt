-- Handles filed under the numbers of their files stay so, whichever are added or removed.
use Rattle.std.proofs.Common.{◌≡◌, ℕ, ◌<◌, ◌≤◌, Bool, true, nat_eq, List}
use Rattle.std.proofs.Common.{Option, Some, None, IfSome, IsSomeAnd, Result, Ok, Err, OnOk, OnErr}
use Rattle.std.proofs.Common.{refl, sym, ◌∙◌, ap, subst, inl, inr, arith}
use Rattle.std.proofs.lemmas.Bool.Decides.{nat_tests}
use Rattle.std.specs.Map.{lookup, remove_entry}
use Rattle.lru.specs.LruCache.{LruCache, lru_cache, put_entries}
use Rattle.lru.proofs.CallerLemmas.{Contains-lookup, Contains-remove_entry, Contains-put_entries}
use Rattle.tex_world.specs.Tap.{Named}
use Rattle.file_table.specs.Idle.{AreOwn, HasNewer}

same_number : (m n : ℕ) → nat_eq m n ≡ true → n ≡ m
same_number m n is = grind (arith, nat_tests)

not_above : (n g : ℕ) → (g < n → ⊥) → n ≤ g
not_above n g low = omega arith

module _ {H : Type 0} (named : H → Named) where
  AreOwn-remove_entry : (test : ℕ → Bool) (es : List (ℕ × H)) → AreOwn named es
      → AreOwn named (remove_entry test es)
  AreOwn-remove_entry test es own e there = own e (Contains-remove_entry test es e there)

  -- after a `pop`
  pub AreOwn-pop : (test : ℕ → Bool) (old new : LruCache ℕ H)
      → new ≡ lru_cache (remove_entry test old.entries) old.cap
      → AreOwn named old.entries → AreOwn named new.entries
  AreOwn-pop test old new popped own =
      let at : new.entries ≡ remove_entry test old.entries =
      ap (λ (c : LruCache ℕ H). c.entries) popped in
      subst (AreOwn named) (sym at) (AreOwn-remove_entry test old.entries own)

  -- the handle filed under the number of a file belongs to that file
  pub file_of_lookup : (file : ℕ) (es : List (ℕ × H)) → AreOwn named es
      → IfSome (lookup (nat_eq file) es) (λ h. (named h).file ≡ file)
  file_of_lookup file es own = found (lookup (nat_eq file) es) refl where
    found : (o : Option H) → lookup (nat_eq file) es ≡ o → IfSome o (λ h. (named h).file ≡ file)
    found None is = tt
    found (Some h) is =
        let at = Contains-lookup (nat_eq file) es h is in
        own (at.0, h) at.1 ∙ same_number file at.0 at.2

  -- A handle that is taken out from under the number of a file is of this file, and no newer than
  -- none above a generation is.
  pub taken_is_own : (file g : ℕ) (es : List (ℕ × H)) (o : Option H) → o ≡ lookup (nat_eq file) es
      → AreOwn named es → (HasNewer named es file g → ⊥)
      → IfSome o (λ h. ((named h).file ≡ file) × ((named h).generation ≤ g))
  taken_is_own file g es None is own low = tt
  taken_is_own file g es (Some h) is own low = (
    subst (λ o. IfSome o (λ h. (named h).file ≡ file)) (sym is) (file_of_lookup file es own),
    not_above (named h).generation g
        (λ above. low (subst (λ o. IsSomeAnd o (λ h. g < (named h).generation)) is above)),
  )

  AreOwn-put_entries : (c : LruCache ℕ H) (file : ℕ) (h : H) → AreOwn named c.entries
      → (named h).file ≡ file → AreOwn named (put_entries nat_eq c file h)
  AreOwn-put_entries c file h own is e there =
      elim (Contains-put_entries nat_eq c file h e there) [
        | inl old ↦ own e old
        | inr put ↦ ap (λ (x : H). (named x).file) put.0 ∙ is ∙ (elim put.1 [
          | inl at ↦ sym at
          | inr was ↦ sym (same_number file e.0 was.2)
        ])
      ]

  -- after a `push` of a handle under the number of its file
  pub AreOwn-push : {R E : Type 0} (r : Result R E) (old new : LruCache ℕ H) (file : ℕ) (h : H)
      → OnOk r (new ≡ lru_cache (put_entries nat_eq old file h) old.cap) → OnErr r (new ≡ old)
      → AreOwn named old.entries → file ≡ (named h).file → AreOwn named new.entries
  AreOwn-push (Ok x) old new file h put same own is =
      let at : new.entries ≡ put_entries nat_eq old file h =
      ap (λ (c : LruCache ℕ H). c.entries) put in
      subst (AreOwn named) (sym at) (AreOwn-put_entries old file h own (sym is))
  AreOwn-push (Err e) old new file h put same own is =
      subst (λ (c : LruCache ℕ H). AreOwn named c.entries) (sym same) own
