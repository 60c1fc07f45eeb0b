use Rattle.std.proofs.Common.{rules, arith, nat_eq}
use Rattle.file_table.proofs.AheadLemmas.{kept-pushed}
use Rattle.file_table.proofs.aheads.Aheads.put.Goals as goal

pub invariant_of-self : goal.invariant_of-self
invariant_of-self g c =
    let old = c.make_room.new.self in
    let more = kept-pushed nat_eq old.aheads c.push.new.self c.file.result c.args.ahead
    c.in-Ok-None.ensures.entries in
    record {
      cap = search rules;
      few = search rules;
      all = omega (
        arith,
        more,
        old.all,
        c.len-size.ensures.value,
        c.saturating_add-held.ensures,
        c.if-held-gt-MAX_KEPT_BYTES.false,
      );
    }

pub invariant_of-self-in-Ok-Some : goal.invariant_of-self-in-Ok-Some
invariant_of-self-in-Ok-Some g c =
    let old = c.make_room.new.self in
    let more = kept-pushed nat_eq old.aheads c.push.new.self c.file.result c.args.ahead
    c.in-Ok-Some.ensures.entries in
    record {
      cap = search rules;
      few = search rules;
      all = omega (
        arith,
        more,
        old.all,
        c.len-size.ensures.value,
        c.saturating_add-held.ensures,
        c.if-held-gt-MAX_KEPT_BYTES.false,
      );
    }
