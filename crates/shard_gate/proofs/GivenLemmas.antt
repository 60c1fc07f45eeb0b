-- Whose last visit gave back the entries, after a step of a seat, a split or a join?
use Rattle.std.proofs.Common.{◌≡◌, ◌≢◌, ℕ, zero, suc, inl, inr, List, [], ◌∷◌, ◌++◌, set}
use Rattle.std.proofs.Common.{refl, sym, ap, subst, ◌∙◌}
use mathlib.Core.Logic.{dite}
use native.Mathlib.Decide.{ℕ_discrete}
use mathlib.Core.Option.{some, some-injective, some-ne-none}
use lib.ListN.{get_elem?}
use Rattle.atomic_table.proofs.Lists.{set_else}
use Rattle.tile_store.specs.CachedTile.{Entries}
use Rattle.shard_gate.specs.declared.standing.Standing.{Standing}
use Rattle.shard_gate.specs.Visit.{Visit, OneGaveLast, MadeNone}
use Rattle.shard_gate.specs.Turn.{GaveOf, MadeNoVisit, WereGiven, both_standings, spent_standing}
use Rattle.shard_gate.proofs.RuleLemmas.{one_view, one_more}

-- ---- lists

set_there : (views : List Standing) (id : ℕ) (old new : Standing) → get_elem? views id ≡ some old
    → get_elem? (set views id new) id ≡ some new
set_there [] id old new at = absurd (some-ne-none old (sym at))
set_there (v ∷ views) zero old new at = refl
set_there (v ∷ views) (suc id) old new at = set_there views id old new at

snoc_there : (views : List Standing) (more : Standing) (id : ℕ) (v : Standing)
    → get_elem? views id ≡ some v → get_elem? (views ++ more ∷ []) id ≡ some v
snoc_there [] more id v at = absurd (some-ne-none v (sym at))
snoc_there (w ∷ views) more zero v at = at
snoc_there (w ∷ views) more (suc id) v at = snoc_there views more id v at

gave_left : (es : Entries) (a b : List (List Visit)) → OneGaveLast es a → OneGaveLast es (a ++ b)
gave_left es [] b gave = absurd gave
gave_left es (x ∷ a) b (inl gave) = inl gave
gave_left es (x ∷ a) b (inr gave) = inr (gave_left es a b gave)

gave_right : (es : Entries) (a b : List (List Visit)) → OneGaveLast es b → OneGaveLast es (a ++ b)
gave_right es [] b gave = gave
gave_right es (x ∷ a) b gave = inr (gave_right es a b gave)

made_none : (a b : List (List Visit)) → MadeNone a → MadeNone b → MadeNone (a ++ b)
made_none [] b none more = more
made_none (x ∷ a) b none more = (none.0, made_none a b none.1 more)

-- ---- steps

module _ (es : Entries) (views : List Standing) (id : ℕ) (old : Standing)
    (at : get_elem? views id ≡ some old) where
  -- the seat gave back the entries
  pub given_now : (new : Standing) → GaveOf es new → WereGiven es (set views id new)
  given_now new gave = inl (id, new, set_there views id old new at, gave)

  is_old : (seat : ℕ) (v : Standing) → seat ≡ id → get_elem? views seat ≡ some v → v ≡ old
  is_old seat v e there =
      some-injective v old (sym there ∙ (ap (get_elem? views) e ∙ at))

  -- the step changed no visit
  pub given_still : (new : Standing) → (GaveOf es old → GaveOf es new)
      → (MadeNoVisit old → MadeNoVisit new) → WereGiven es views → WereGiven es (set views id new)
  given_still new gave none (inl t) = dite (ℕ_discrete t.0 id)
      (λ (e : t.0 ≡ id). given_now new
      (gave (subst (λ (u : Standing). GaveOf es u) (is_old t.0 t.1 e t.2) t.3)))
      (λ (ne : t.0 ≢ id). inl (t.0, t.1, set_else views id t.0 new ne ∙ t.2, t.3))
  given_still new gave none (inr t) = inr (
    one_view MadeNoVisit MadeNoVisit views id new (λ seat v ne there is. is) t.0
        (none (t.0 id old at)),
    t.1,
  )

-- one more seat, which has made no visit
pub given_more : (es : Entries) (views : List Standing) (new : Standing) → MadeNoVisit new
    → WereGiven es views → WereGiven es (views ++ new ∷ [])
given_more es views new none (inl t) = inl (t.0, t.1, snoc_there views new t.0 t.1 t.2, t.3)
given_more es views new none (inr t) = inr (one_more MadeNoVisit views new t.0 none, t.1)

module _ (es : Entries) (views : List Standing) (id : ℕ) (own : Standing) (other : ℕ)
    (w : Standing) (at : get_elem? views id ≡ some own) (apart : other ≢ id)
    (there : get_elem? (set views id (both_standings own w)) other ≡ some w) where
  abbrev pub joined_views : List Standing
  joined_views = set (set views id (both_standings own w)) other spent_standing

  w_was : get_elem? views other ≡ some w
  w_was = sym (set_else views id other (both_standings own w) apart) ∙ there

  both_there : get_elem? joined_views id ≡ some (both_standings own w)
  both_there =
      set_else (set views id (both_standings own w)) other id spent_standing (λ e. apart (sym e))
      ∙ set_there views id own (both_standings own w) at

  of_own : GaveOf es own → GaveOf es (both_standings own w)
  of_own (inl gave) = inl gave
  of_own (inr gave) = inr (inr (gave_right es w.joined own.joined gave))

  of_other : GaveOf es w → GaveOf es (both_standings own w)
  of_other (inl gave) = inr (inl gave)
  of_other (inr gave) = inr (inr (gave_left es w.joined own.joined gave))

  -- the seat has taken over another one
  pub given_joined : WereGiven es views → WereGiven es joined_views
  given_joined (inl t) = dite (ℕ_discrete t.0 id)
      (λ (e : t.0 ≡ id). inl (
        id,
        both_standings own w,
        both_there,
        of_own (subst (λ (u : Standing). GaveOf es u) (is_old es views id own at t.0 t.1 e t.2) t.3),
      ))
      (λ (ne : t.0 ≢ id). dite (ℕ_discrete t.0 other)
      (λ (e : t.0 ≡ other). inl (
        id,
        both_standings own w,
        both_there,
        of_other (subst (λ (u : Standing). GaveOf es u)
            (is_old es views other w w_was t.0 t.1 e t.2) t.3),
      ))
      (λ (ne_other : t.0 ≢ other). inl (
        t.0,
        t.1,
        set_else (set views id (both_standings own w)) other t.0 spent_standing ne_other
            ∙ (set_else views id t.0 (both_standings own w) ne ∙ t.2),
        t.3,
      )))
  given_joined (inr t) =
      let mine = t.0 id own at in
      let theirs = t.0 other w w_was in
      inr (
        one_view MadeNoVisit MadeNoVisit (set views id (both_standings own w)) other spent_standing
            (λ seat v ne is_there is. is)
            (one_view MadeNoVisit MadeNoVisit views id (both_standings own w)
            (λ seat v ne is_there is. is) t.0
            (mine.0, (theirs.0, made_none w.joined own.joined theirs.1 mine.1)))
            (refl, tt),
        t.1,
      )
