-- Which entries stay within a share.
use Rattle.std.proofs.Common.{◌≡◌, ℕ, ◌-◌, ◌<◌, ◌≤◌, ◌==◌, Bool, true, false, cond, not, nat_le}
use Rattle.std.proofs.Common.{[], ◌∷◌, refl, sym, ap, ◌∙◌, arith}
use Rattle.std.specs.List.{All, filter, list_any}
use Rattle.std.specs.Map.{values_of}
use Rattle.std.proofs.lemmas.Bool.{eqb-true, leb-true, leb-false, le-leb, lt-leb}
use Rattle.std.proofs.lemmas.List.Elements.{All-cons, All-head, All-tail, All-filter}
use Rattle.std.proofs.lemmas.List.Sums.{sum_by-cons}
use Rattle.tile_store.specs.Tile.{tile_bytes}
use Rattle.tile_store.specs.CachedTile.{EntryState, Entries, unpinned_bytes, pin_sum, loose_bytes, is_unpinned, is_pinned}
use Rattle.tile_store.specs.Changes.{without_last_unpinned, kept_within}
use Rattle.tile_store.proofs.EvictLemmas.{loose-all_pinned, or_false}

-- what has no pin does not count in the sum of pins
pub filter_pins : (p : ℕ × EntryState → Bool) → ((e : ℕ × EntryState) → p e ≡ false → e.1.pins ≡ 0)
    → (es : Entries) → pin_sum (filter p es) ≡ pin_sum es
filter_pins p none [] = refl
filter_pins p none (e ∷ es) =
    (elim (p e) as (λ b. p e ≡ b → pin_sum (cond b (e ∷ filter p es) (filter p es)) ≡ pin_sum (e ∷ es)) [
      | true ↦ λ is. omega (
        arith,
        filter_pins p none es,
        sum_by-cons (λ (n : EntryState). n.pins) e.1 (values_of (filter p es)),
        sum_by-cons (λ (n : EntryState). n.pins) e.1 (values_of es),
      )
      | false ↦ λ is. omega (
        arith,
        none e is,
        filter_pins p none es,
        sum_by-cons (λ (n : EntryState). n.pins) e.1 (values_of es),
      )
    ]) refl

not_false : (b : Bool) → not b ≡ false → b ≡ true
not_false true h = refl
not_false false h = absurd cc

pub pin_sum-pinned : (es : Entries) → pin_sum (filter is_pinned es) ≡ pin_sum es
pin_sum-pinned = filter_pins is_pinned (λ e h. eqb-true e.1.pins 0 (not_false (is_unpinned e) h))

-- ---- if all entries fit

pub kept_within-all : (share : ℕ) (es : Entries) → loose_bytes es ≤ share → kept_within share es ≡ es
kept_within-all share [] h = refl
kept_within-all share (e ∷ es) h =
    let sum = sum_by-cons unpinned_bytes e.1 (values_of es) in
    let fits : unpinned_bytes e.1 ≤ share = omega arith in
    let rest : loose_bytes es ≤ share - unpinned_bytes e.1 = omega arith in
    rw (le-leb (unpinned_bytes e.1) share fits) (ap (λ l. e ∷ l) (kept_within-all (share - unpinned_bytes e.1) es rest))

-- ---- if not all entries fit, the last unpinned one may leave first

pub filter_without : (es : Entries) → filter is_pinned (without_last_unpinned es) ≡ filter is_pinned es
filter_without [] = refl
filter_without (e ∷ es) =
    elim (list_any is_unpinned es) as (λ b. filter is_pinned (cond b (e ∷ without_last_unpinned es)
    (cond (is_unpinned e) es (e ∷ es))) ≡ filter is_pinned (e ∷ es)) [
      | true ↦ elim (is_unpinned e) as (λ u. cond (not u) (e ∷ filter is_pinned (without_last_unpinned es))
          (filter is_pinned (without_last_unpinned es))
          ≡ cond (not u) (e ∷ filter is_pinned es) (filter is_pinned es)) [
            | true ↦ filter_without es
            | false ↦ ap (λ l. e ∷ l) (filter_without es)
          ]
      | false ↦ (elim (is_unpinned e) as (λ u. is_unpinned e ≡ u
          → filter is_pinned (cond u es (e ∷ es)) ≡ filter is_pinned (e ∷ es)) [
            | true ↦ λ is. rw is refl
            | false ↦ λ is. refl
          ]) refl
    ]

filter_pinned : (es : Entries) → list_any is_unpinned es ≡ false → filter is_pinned es ≡ es
filter_pinned [] h = refl
filter_pinned (e ∷ es) h =
    let parts = or_false (is_unpinned e) (list_any is_unpinned es) h in
    rw parts.0 (ap (λ l. e ∷ l) (filter_pinned es parts.1))

pub unpinned_has : (e : EntryState) → 0 < unpinned_bytes e → (e.pins == 0) ≡ true
unpinned_has e h =
    (elim (e.pins == 0) as (λ u. 0 < cond u (tile_bytes e.tile) 0 → u ≡ true) [
      | true ↦ λ some. refl
      | false ↦ λ some. absurd (omega arith)
    ]) h

pub kept_within-without_last : (share : ℕ) (es : Entries) → share < loose_bytes es
    → kept_within share (without_last_unpinned es) ≡ kept_within share es
kept_within-without_last share [] h = refl
kept_within-without_last share (e ∷ es) h =
    let sum = sum_by-cons unpinned_bytes e.1 (values_of es) in
    (elim (list_any is_unpinned es) as (λ b. list_any is_unpinned es ≡ b
    → kept_within share (cond b (e ∷ without_last_unpinned es) (cond (is_unpinned e) es (e ∷ es)))
    ≡ kept_within share (e ∷ es)) [
      | true ↦ λ more. (elim (nat_le (unpinned_bytes e.1) share) as (λ fits.
          nat_le (unpinned_bytes e.1) share ≡ fits
          → cond fits (e ∷ kept_within (share - unpinned_bytes e.1) (without_last_unpinned es))
          (filter is_pinned (without_last_unpinned es))
          ≡ cond fits (e ∷ kept_within (share - unpinned_bytes e.1) es) (filter is_pinned es)) [
            | true ↦ λ is.
                let fits = leb-true (unpinned_bytes e.1) share is in
                ap (λ l. e ∷ l)
                (kept_within-without_last (share - unpinned_bytes e.1) es (omega arith))
            | false ↦ λ is. filter_without es
          ]) refl
      | false ↦ λ none.
          let zero = loose-all_pinned es none in
          let large : share < unpinned_bytes e.1 = omega arith in
          let is = unpinned_has e.1 (omega arith) in
          let past : nat_le (unpinned_bytes e.1) share ≡ false = lt-leb (unpinned_bytes e.1) share large in
          let rest : loose_bytes es ≤ share = omega arith in
          rw (past, is) (kept_within-all share es rest ∙ sym (filter_pinned es none))
    ]) refl

-- ---- what stays

pub pin_sum-kept_within : (share : ℕ) (es : Entries) → pin_sum (kept_within share es) ≡ pin_sum es
pin_sum-kept_within share [] = refl
pin_sum-kept_within share (e ∷ es) =
    (elim (nat_le (unpinned_bytes e.1) share) as (λ fits. nat_le (unpinned_bytes e.1) share ≡ fits
    → pin_sum (cond fits (e ∷ kept_within (share - unpinned_bytes e.1) es) (filter is_pinned es))
    ≡ pin_sum (e ∷ es)) [
      | true ↦ λ is. omega (
        arith,
        pin_sum-kept_within (share - unpinned_bytes e.1) es,
        sum_by-cons (λ (n : EntryState). n.pins) e.1
            (values_of (kept_within (share - unpinned_bytes e.1) es)),
        sum_by-cons (λ (n : EntryState). n.pins) e.1 (values_of es),
      )
      | false ↦ λ is.
          let large = leb-false (unpinned_bytes e.1) share is in
          let none : e.1.pins ≡ 0 = eqb-true e.1.pins 0 (unpinned_has e.1 (omega arith)) in
          omega (arith, pin_sum-pinned es, sum_by-cons (λ (n : EntryState). n.pins) e.1 (values_of es))
    ]) refl

pub All-kept_within : (P : ℕ × EntryState → Type 0) (share : ℕ) (es : Entries) → All P es
    → All P (kept_within share es)
All-kept_within P share [] all = all
All-kept_within P share (e ∷ es) all =
    elim (nat_le (unpinned_bytes e.1) share) as (λ fits. All P (cond fits
    (e ∷ kept_within (share - unpinned_bytes e.1) es) (filter is_pinned es))) [
      | true ↦ All-cons P e (kept_within (share - unpinned_bytes e.1) es) (All-head P e es all)
          (All-kept_within P (share - unpinned_bytes e.1) es (All-tail P e es all))
      | false ↦ All-filter is_pinned P es (All-tail P e es all)
    ]

-- ---- the last ones leave one after another

-- the entries that must stay are still the same
pub record Evicting (share loose : ℕ) (was now : Entries) : Type 0 where
  pub loose_is : loose ≡ loose_bytes now
  pub kept : kept_within share now ≡ kept_within share was
