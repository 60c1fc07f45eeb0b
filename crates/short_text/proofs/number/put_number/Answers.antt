use Rattle.std.proofs.Common.{◌≡◌, ℕ, ◌+◌, ◌-◌, ◌/◌, ◌%◌, ◌∷◌, [], List, length, arith, ap, ◌∙◌, append-nil}
use Rattle.std.proofs.Common.{append_assoc, length-append, refl}
use Rattle.std.proofs.lemmas.Fmt.{decimal_digit, decimal_step, length-decimal-le}
use Rattle.std.proofs.lemmas.Fmt.{decimal_nonempty}
use Rattle.std.proofs.lemmas.List.{drop-set, drop_all, length-set}
use Rattle.std.proofs.Math.ListN.{set}
use Rattle.std.specs.Fmt.{decimal}
use Rattle.short_text.proofs.number.put_number.Goals as goal

pub digits-init : goal.digits-init
digits-init c = record {
  within = omega arith;
  some = omega arith;
  room = omega (arith, length-decimal-le 20 c.args.number (omega arith) (omega arith) (omega arith));
  written = rw (drop_all 21 c.args.room.now (omega arith), append-nil) refl;
}

pub digits-preserved : goal.digits-preserved
digits-preserved c =
    let l = c.digits in
    let step = decimal_step l.left (omega arith) (omega arith) in
    let long : length (decimal l.left) ≡ length (decimal (l.left / 10)) + 1 =
    ap length step ∙ length-append (decimal (l.left / 10)) ((48 + l.left % 10) ∷ []) in
    let e : l.at - 1 + 1 ≡ l.at = omega arith in
    record {
      within = omega (arith, l.invariant.within);
      some = omega (
        arith,
        long,
        l.invariant.room,
        decimal_nonempty (l.left / 10) (omega arith),
      );
      room = omega (arith, long, l.invariant.room);
      written = rw (drop-set l.room (l.at - 1) (48 + l.left % 10) (omega arith), e)
          (rw (step, append_assoc) at l.invariant.written);
    }

pub returns-clause-written : goal.returns-clause-written
returns-clause-written c =
    let l = c.digits in
    let digit = 48 + l.left in
    let last = decimal_digit l.left (omega arith) in
    let e : l.at - 1 + 1 ≡ l.at = omega arith in
    let f : l.at - 2 + 1 ≡ l.at - 1 = omega arith in
    rw (
      drop-set (set l.room (l.at - 1) digit) (l.at - 2) c.args.byte (omega (arith, length-set l.room (l.at - 1) digit)),
      f,
      drop-set l.room (l.at - 1) digit (omega arith),
      e,
    ) (ap (λ (xs : List ℕ). c.args.byte ∷ xs) (rw last at l.invariant.written))
