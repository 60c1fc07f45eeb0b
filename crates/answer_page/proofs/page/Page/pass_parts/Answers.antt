use Rattle.std.proofs.Common.{[], ◌∷◌, ◌++◌, refl}
use Rattle.request_lang.specs.Grammar.{line_feed}
use Rattle.short_text.specs.Number.{fields}
use Rattle.request_lang.specs.Line.{head_of, values_in, line_of}
use Rattle.answer_page.specs.Page.{sink_of, outgoing}
use Rattle.answer_page.proofs.Passing.{passes_more, passes_part, passes_longer, puts_longer, then_adds}
use Rattle.answer_page.proofs.page.Page.pass_parts.Goals as goal

pub returns-in-Err : goal.returns-in-Err
returns-in-Err g c =
    puts_longer c.args.self.now (line_of c.args.answer.now) _ _ c.in-Err.ensures

pub returns-in-Err-pass_values : goal.returns-in-Err-pass_values
returns-in-Err-pass_values g c =
    let a = c.args.answer.now in
    let old = outgoing g.O.Sink c.args.self.now c.args.out.now in
    let head = outgoing g.O.Sink c.pass_head.new.self c.pass_head.new.out in
    let left = sink_of g.O.Sink c.pass_values.new.out in
    passes_longer (head_of a ++ fields (values_in a)) (line_feed ∷ []) (line_of a) old left refl
    (passes_part (head_of a) (fields (values_in a)) old head left c.in_default.ensures
    (rw c.values.ensures at c.in-Err-pass_values.ensures))

pub returns : goal.returns
returns g c =
    let a = c.args.answer.now in
    let old = outgoing g.O.Sink c.args.self.now c.args.out.now in
    let head = outgoing g.O.Sink c.pass_head.new.self c.pass_head.new.out in
    let text = outgoing g.O.Sink c.pass_values.new.self c.pass_values.new.out in
    then_adds (head_of a ++ fields (values_in a)) (line_feed ∷ []) old text
    (outgoing g.O.Sink c.pass_end.new.self c.pass_end.new.out) c.pass_end.result
    (passes_more (head_of a) (fields (values_in a)) old head text c.in_default.ensures
    (rw c.values.ensures at c.in_default-pass_values.ensures)) c.pass_end.ensures
