use Rattle.std.proofs.Common.{ℕ, List, get_or, take, refl, ap, sym, ◌∙◌, arith, drop, ◌+◌, ◌++◌, append_assoc}
use Rattle.std.proofs.lemmas.List.{append-nil}
use Rattle.short_text.specs.Words.{space}
use Rattle.short_text.specs.Number.{fields, number_behind}
use Rattle.short_text.proofs.PaddedTextLemmas.{one_value_more, fields_more}
use Rattle.request_lang.proofs.values.put_values.Goals as goal

pub loop-value-init : goal.loop-value-init
loop-value-init c = record {
  written = sym (append-nil (take c.args.from c.args.room.now));
  few = omega arith;
  same_room = refl;
}

pub loop-value-preserved : goal.loop-value-preserved
loop-value-preserved c =
    let padded = c.padded-padded.result in
    let few = c.padded-padded.ensures.few in
    let whole = c.padded-padded.ensures.whole in
    let front : List ℕ = take c.args.from c.args.room.now in
    let before : List ℕ = fields (take c.loop-value.value-index c.args.values.now) in
    let value = get_or c.args.values.now c.loop-value.value-index 0 in
    let more = one_value_more c.loop-value.room padded (drop (c.loop-value.at + 8) c.loop-value.room) _ _
    c.loop-value.at (get_or padded 7 0) (omega arith) (omega arith) c.loop-value.invariant.written c.padded-padded.ensures.text in
    record {
      written = ap (λ (k : ℕ). take (c.loop-value.at + k) c.put_padded.new.room) c.from-at.ensures
          ∙ ap (take (c.loop-value.at + get_or padded 7 0)) c.put_padded.ensures
          ∙ more
          ∙ append_assoc front before (number_behind space value)
          ∙ ap (λ (xs : List ℕ). front ++ xs)
          (sym (fields_more c.args.values.now c.loop-value.value-index c.loop-value-test.true));
      few = omega (arith, c.from-at.ensures);
      same_room = omega (arith, c.put_padded.auto.room);
    }
