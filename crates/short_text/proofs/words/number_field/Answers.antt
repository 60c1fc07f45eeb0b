use Rattle.std.proofs.Common.{◌≡◌, ℕ, List, ◌<◌, length, get_or, subst, sym, ap, ◌∙◌, arith}
use Rattle.short_text.specs.Digits.{LeadsWith}
use Rattle.short_text.proofs.FieldLemmas.{field_empty, field_whole, none_behind, field_other}
use Rattle.short_text.proofs.FieldLemmas.{field_spelled, rest_behind}
use Rattle.short_text.proofs.words.number_field.Goals as goal

pub returns-then-count-eq0-clause-number : goal.returns-then-count-eq0-clause-number
returns-then-count-eq0-clause-number c =
    let text = c.args.text.now in
    let n = c.leading_digits-number.result.0 in
    let k = c.leading_digits-number.result.1 in
    let same : c.as_bytes-bytes.result.now ≡ text = c.as_bytes-bytes.ensures.value in
    let leads : LeadsWith text n k =
    subst (λ (t : List ℕ). LeadsWith t n k) same c.leading_digits-number.ensures.leads in
    sym (field_empty text n k leads (omega arith))

pub returns-then-count-bytes-clause-number : goal.returns-then-count-bytes-clause-number
returns-then-count-bytes-clause-number c =
    let text = c.args.text.now in
    let n = c.leading_digits-number.result.0 in
    let k = c.leading_digits-number.result.1 in
    let same : c.as_bytes-bytes.result.now ≡ text = c.as_bytes-bytes.ensures.value in
    let leads : LeadsWith text n k =
    subst (λ (t : List ℕ). LeadsWith t n k) same c.leading_digits-number.ensures.leads in
    sym (field_whole text n k leads (omega arith) (omega (arith, ap length same)))

pub returns-then-count-bytes-clause-back : goal.returns-then-count-bytes-clause-back
returns-then-count-bytes-clause-back c =
    let text = c.args.text.now in
    let n = c.leading_digits-number.result.0 in
    let k = c.leading_digits-number.result.1 in
    let same : c.as_bytes-bytes.result.now ≡ text = c.as_bytes-bytes.ensures.value in
    let leads : LeadsWith text n k =
    subst (λ (t : List ℕ). LeadsWith t n k) same c.leading_digits-number.ensures.leads in
    none_behind text n k leads (omega (arith, ap length same))

pub returns-then-bytes-count-ne32-clause-number : goal.returns-then-bytes-count-ne32-clause-number
returns-then-bytes-count-ne32-clause-number c =
    let text = c.args.text.now in
    let n = c.leading_digits-number.result.0 in
    let k = c.leading_digits-number.result.1 in
    let same : c.as_bytes-bytes.result.now ≡ text = c.as_bytes-bytes.ensures.value in
    let leads : LeadsWith text n k =
    subst (λ (t : List ℕ). LeadsWith t n k) same c.leading_digits-number.ensures.leads in
    let there : k < length text = omega (arith, ap length same) in
    sym (field_other text n k leads there
    (λ e. c.if-bytes-count-ne32.true (ap (λ (t : List ℕ). get_or t k 0) same ∙ e)))

pub returns-clause-number : goal.returns-clause-number
returns-clause-number c =
    let text = c.args.text.now in
    let n = c.leading_digits-number.result.0 in
    let k = c.leading_digits-number.result.1 in
    let same : c.as_bytes-bytes.result.now ≡ text = c.as_bytes-bytes.ensures.value in
    let leads : LeadsWith text n k =
    subst (λ (t : List ℕ). LeadsWith t n k) same c.leading_digits-number.ensures.leads in
    let there : k < length text = omega (arith, ap length same) in
    sym (field_spelled text n k leads (omega arith) there
    (ap (λ (t : List ℕ). get_or t k 0) (sym same) ∙ c.if-bytes-count-ne32.false))

pub returns-clause-back : goal.returns-clause-back
returns-clause-back c =
    let text = c.args.text.now in
    let n = c.leading_digits-number.result.0 in
    let k = c.leading_digits-number.result.1 in
    let same : c.as_bytes-bytes.result.now ≡ text = c.as_bytes-bytes.ensures.value in
    let leads : LeadsWith text n k =
    subst (λ (t : List ℕ). LeadsWith t n k) same c.leading_digits-number.ensures.leads in
    let there : k < length text = omega (arith, ap length same) in
    c.range_from.ensures.value
    ∙ rest_behind text n k leads there
    (ap (λ (t : List ℕ). get_or t k 0) (sym same) ∙ c.if-bytes-count-ne32.false)
