use Rattle.std.proofs.Common.{◌≡◌, ℕ, suc, ◌+◌, ◌-◌, ◌<◌, List, ◌++◌, refl, arith, append_assoc}
use Rattle.sample_run.specs.MadeList as spec
use Rattle.sample_run.proofs.made_list.made_list.Goals as goal

-- one line more was made
one_more : (old new whole : List ℕ) (number state behind count : ℕ) → number < count
    → old ++ spec.lines_from number state (count - number) ≡ whole
    → new ≡ old ++ spec.request_line number state → behind ≡ spec.behind_request number state
    → new ++ spec.lines_from (number + 1) behind (count - (number + 1)) ≡ whole
one_more old new whole number state behind count more so_far line next =
    let e : count - number ≡ suc (count - (number + 1)) = omega arith in
    rw (line, next, append_assoc) (rw e at so_far)

pub loop-number-init : goal.loop-number-init
unfolding spec.made_list
loop-number-init c =
    let e : c.args.count - 0 ≡ c.args.count = omega arith in
    rw (c.new-text.ensures.bytes, c.new-draws.ensures, e) refl

pub loop-number-preserved : goal.loop-number-preserved
loop-number-preserved c =
    one_more _ _ _ _ _ _ c.args.count c.loop-number-test.true c.loop-number.invariant
    c.in_ok-push_request.ensures.line c.in_ok-push_request.ensures.state
