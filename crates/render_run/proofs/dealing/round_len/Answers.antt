use Rattle.std.proofs.Common.{◌≡◌, ◌+◌, ℕ, true, false, get_or, sym, ap, subst, ◌∙◌, arith}
use Rattle.render_run.specs.Dealing.{texels_asked, is_sync}
use Rattle.render_run.proofs.DealingLemmas.{DealtTo, one_dealt, round_by_sync}
use Rattle.render_run.proofs.DealingLemmas.{round_by_next, round_by_end}
use Rattle.render_run.proofs.dealing.round_len.Goals as goal

pub returns-then-texels-more-gt-MAX_ROUND_TEXELS-clause-round :
    goal.returns-then-texels-more-gt-MAX_ROUND_TEXELS-clause-round
returns-then-texels-more-gt-MAX_ROUND_TEXELS-clause-round c =
    let rs = c.args.requests.now in
    let n = c.dealt.count in
    let d = c.index-requests-count.result in
    let here : get_or rs n d ≡ d = sym c.index-requests-count.is in
    let more : texels_asked (get_or rs n d) ≡ c.texels_asked-more.result =
    ap texels_asked here ∙ sym c.texels_asked-more.ensures.value in
    round_by_next rs n c.dealt.texels d (omega arith) c.dealt.invariant.so_far
    (omega (arith, more)) (omega (arith, more, c.texels_asked-more.ensures.few))

pub returns-then-is_sync-clause-round : goal.returns-then-is_sync-clause-round
returns-then-is_sync-clause-round c =
    let rs = c.args.requests.now in
    let n = c.dealt.count in
    let d = c.index-requests-count.result in
    let here : get_or rs n d ≡ d = sym c.index-requests-count.is in
    let more : texels_asked (get_or rs n d) ≡ c.texels_asked-more.result =
    ap texels_asked here ∙ sym c.texels_asked-more.ensures.value in
    let ends : is_sync (get_or rs n d) ≡ true =
    ap is_sync here ∙ sym c.is_sync.ensures ∙ c.if-is_sync.true in
    round_by_sync rs n c.dealt.texels d (omega arith) c.dealt.invariant.so_far
    (omega (arith, more)) ends

pub dealt-preserved : goal.dealt-preserved
dealt-preserved c =
    let rs = c.args.requests.now in
    let n = c.dealt.count in
    let d = c.index-requests-count.result in
    let here : get_or rs n d ≡ d = sym c.index-requests-count.is in
    let more : texels_asked (get_or rs n d) ≡ c.texels_asked-more.result =
    ap texels_asked here ∙ sym c.texels_asked-more.ensures.value in
    let stays : is_sync (get_or rs n d) ≡ false =
    ap is_sync here ∙ sym c.is_sync.ensures ∙ c.if-is_sync.false in
    record {
      within = omega arith;
      few = omega arith;
      least = omega (arith, c.dealt.invariant.least, c.texels_asked-more.ensures.few);
      so_far =
          subst (λ (t : ℕ). DealtTo rs (n + 1) (c.dealt.texels + t)) more
          (one_dealt rs n c.dealt.texels d (omega arith) c.dealt.invariant.so_far
          (omega (arith, more)) stays);
    }

pub returns-clause-round : goal.returns-clause-round
returns-clause-round c =
    round_by_end c.args.requests.now c.dealt.count c.dealt.texels c.dealt.invariant.so_far
    (omega arith)
