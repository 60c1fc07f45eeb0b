use Rattle.std.proofs.Common.{◌≡◌, false, refl, sym, ◌∙◌, Option, Some, None, IfSome}
use Rattle.std.proofs.lemmas.Bool.{ne_eqb}
use Rattle.tiff_format.specs.Level.{is_single}
use Rattle.tiff_format.specs.Shown.{shown, shown_shape}
use Rattle.tiff_dirs.proofs.NextLevel.{last_is_last, no_next, some_next, end_is_last}
use Rattle.tiff_dirs.proofs.NextLevel.{fault_is_last, next_of_half, shape_of_level}
use Rattle.tiff_dirs.proofs.chain.next_level.Goals as goal

if_any : {A : Type 0} (P : Type 0) (o : Option A) → P → IfSome o (λ _. P)
if_any P None p = tt
if_any P (Some x) p = p

pub returns-then-last-eq1-2-clause-told : goal.returns-then-last-eq1-2-clause-told
returns-then-last-eq1-2-clause-told g c = λ bytes is one at first last link. (
  refl,
  last_is_last c.args.next.form bytes one at (shown c.args.last.now) last c.if-last-eq1.true
      c.if-last-eq1-2.true,
)

pub returns-then-next-eq0-clause-told : goal.returns-then-next-eq0-clause-told
returns-then-next-eq0-clause-told g c = λ bytes is one at first last link.
    let form = c.args.next.form in (
      refl,
      end_is_last form bytes one at (no_next form bytes at link.inside
          (sym link.next ∙ c.if-next-eq0.true)),
    )

pub returns-in-Ok-clause-told : goal.returns-in-Ok-clause-told
returns-in-Ok-clause-told g c = λ bytes is one at first last link.
    let form = c.args.next.form in
    let there = some_next form bytes at c.args.next.at link.inside link.next c.if-next-eq0.false in
    let more : is_single (shown_shape c.args.last.now) ≡ false =
    elim c.else-last-eq1.branch [
      | goal.else-last-eq1-via-then-last-eq1+else-last-eq1-2 w ↦
          rw (w.if-last-eq1.true, ne_eqb c.args.last.now.height 1 w.if-last-eq1-2.false) refl
      | goal.else-last-eq1-via-else-last-eq1 w ↦
          rw (ne_eqb c.args.last.now.width 1 w.if-last-eq1.false) refl
    ] in (
      refl,
      next_of_half form bytes g.row.B-Error.Denot one at c.args.next.at
          (shown_shape c.args.first.now) (shown_shape c.args.last.now) c.in-Ok.next
          (shape_of_level form bytes one (shown c.args.first.now) first)
          (shape_of_level form bytes at (shown c.args.last.now) last) more there
          (c.in-Ok.ensures.told bytes is),
    )

pub returns-in-Ok-clause-more : goal.returns-in-Ok-clause-more
returns-in-Ok-clause-more g c =
    if_any (is_single (shown_shape c.args.last.now) ≡ false) c.in-Ok.next
    (elim c.else-last-eq1.branch [
      | goal.else-last-eq1-via-then-last-eq1+else-last-eq1-2 w ↦
          rw (w.if-last-eq1.true, ne_eqb c.args.last.now.height 1 w.if-last-eq1-2.false) refl
      | goal.else-last-eq1-via-else-last-eq1 w ↦
          rw (ne_eqb c.args.last.now.width 1 w.if-last-eq1.false) refl
    ])

pub returns-in-Err-Fault-clause-told : goal.returns-in-Err-Fault-clause-told
returns-in-Err-Fault-clause-told g c = λ bytes is one at first last link.
    let form = c.args.next.form in
    let there = some_next form bytes at c.args.next.at link.inside link.next c.if-next-eq0.false in
    let shown-fault = rw c.in-Err-Fault.field-0-is at (c.in-Err-Fault.ensures.told bytes is) in (
      refl,
      fault_is_last form bytes one at c.args.next.at c.in-Err-Fault.field-0-0 there shown-fault,
    )
