use Rattle.std.proofs.Common.{length, ap, arith}
use Rattle.short_text.proofs.AppendLemmas.{pushes_few, cut_back}
use Rattle.request_lang.proofs.line.line_text.Goals as goal

pub end_line-requires : goal.end_line-requires
end_line-requires c =
    omega (
      arith,
      pushes_few _ c.args.out.now.items c.push_answer-pushed.new.out.items
          c.push_answer-pushed.result c.push_answer-pushed.ensures,
      ap length c.as_slice-before.ensures.value,
    )

pub returns-clause-err : goal.returns-clause-err
returns-clause-err c =
    cut_back _ _ _ _ _ _ _ (ap length c.as_slice-before.ensures.value)
    c.push_answer-pushed.ensures c.end_line.ensures.err
