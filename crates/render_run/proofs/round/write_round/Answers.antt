use Rattle.std.proofs.Common.{◌≡◌, ℕ, ◌+◌, ◌-◌, ◌%◌, ◌/◌, ◌<◌, ◌++◌, ◌∷◌, [], List, length, map, refl, sym, ap, subst, ◌∙◌, arith}
use Rattle.std.proofs.Common.{get_or, ◌≤◌, Bool, true, false}
use Rattle.std.specs.Int.{from_bool}
use Rattle.render_run.specs.Held.{one_if}
use Rattle.std.proofs.lemmas.List.{get_or-map}
use Rattle.std.proofs.Math.Nat.{mod-lt}
use Rattle.std.proofs.lemmas.List.Concat.{flat_map-append}
use Rattle.request_lang.specs.declared.answer.Answer.{Answer}
use Rattle.request_lang.specs.Line.{line_of}
use Rattle.answer_page.specs.Page.{sink_of, outgoing}
use Rattle.render_run.specs.Posts.{answers_of}
use Rattle.render_run.specs.Answering.{answers_text, in_turn}
use Rattle.answer_page.proofs.Passing.{passes_more, passes_part, passes_longer, none_passed}
use Rattle.render_run.proofs.Rounds.{text_more, count_more}
use Rattle.render_run.proofs.Shares.{in_turn_append, in_turn_push, answer_in, answer_is}
use Rattle.render_run.proofs.round.write_round.Goals as goal

-- the i-th answer, as it is in its worker's list
answer_here : {A : Type 0} (answers : A → List Answer) (posts : List A) (i : ℕ) (d : A) (e : Answer)
    → 0 < length posts
    → i / length posts < length (get_or (map answers posts) (i % length posts) [])
    → get_or (answers (get_or posts (i % length posts) d)) (i / length posts) e
    ≡ answer_in (length posts) i (map answers posts)
answer_here answers posts i d e some there =
    let low : i % length posts < length posts = mod-lt i some in
    answer_is answers posts (length posts) i d e low
    (subst (λ (xs : List Answer). i / length posts < length xs)
    (get_or-map answers posts (i % length posts) d [] low) there)

-- the text of an answer, between those before and after it
texts_split : (n i count : ℕ) (lists : List (List Answer)) (a : Answer) → i < count
    → a ≡ answer_in n i lists
    → (answers_text (in_turn n 0 i lists) ++ line_of a)
    ++ answers_text (in_turn n (0 + (i + 1)) (count - (i + 1)) lists)
    ≡ answers_text (in_turn n 0 count lists)
texts_split n i count lists a low here =
    let front = in_turn n 0 i lists in
    let rest = in_turn n (0 + (i + 1)) (count - (i + 1)) lists in
    let next : in_turn n 0 (i + 1) lists ≡ front ++ a ∷ [] =
    in_turn_push n i lists ∙ ap (λ (x : Answer). front ++ x ∷ []) (sym here) in
    let all : i + 1 + (count - (i + 1)) ≡ count = omega (arith, low) in
    ap (λ (t : List ℕ). t ++ answers_text rest) (sym (text_more front a) ∙ ap answers_text (sym next))
    ∙ sym (flat_map-append line_of (in_turn n 0 (i + 1) lists) rest)
    ∙ ap answers_text (sym (in_turn_append n 0 (i + 1) (count - (i + 1)) lists))
    ∙ ap (λ (m : ℕ). answers_text (in_turn n 0 m lists)) all

-- a test counts once at most
one_of_byte : (b : Bool) (n : ℕ) → n ≡ from_bool b → n ≡ one_if b
one_of_byte true n is = is
one_of_byte false n is = is

one_low : (b : Bool) → one_if b ≤ 1
one_low true = omega arith
one_low false = omega arith

pub loop-i-init : goal.loop-i-init
loop-i-init g c = record {
  passed = none_passed (outgoing g.O.Sink c.args.page.now c.args.out.now);
  refusal = refl;
  few = omega arith;
}

pub loop-i-preserved : goal.loop-i-preserved
loop-i-preserved g c =
    let n = length c.args.posts.now in
    let lists = answers_of c.args.posts.now in
    let i = c.loop-i.i in
    let front : List Answer = in_turn n 0 i lists in
    let a = c.index-answer.result.now in
    let here : a ≡ answer_in n i lists =
    c.index-answer.ensures ∙ answer_here (λ p. p.answers.items) c.args.posts.now i
    c.index-posts-i.result _ c.requires.some (c.requires.there i c.loop-i-test.true) in
    let next : in_turn n 0 (i + 1) lists ≡ front ++ a ∷ [] =
    in_turn_push n i lists ∙ ap (λ (x : Answer). front ++ x ∷ []) (sym here) in
    let one : c.from-refused.result ≡ one_if c.is_refusal.result =
    one_of_byte c.is_refusal.result c.from-refused.result c.from-refused.ensures in
    record {
      passed =
          rw (next, text_more front a)
          (passes_more (answers_text front) (line_of a) _ _ _ c.loop-i.invariant.passed
          c.in_default.ensures);
      refusal =
          rw (next, count_more front a)
          (rw (← c.loop-i.invariant.refusal, ← c.is_refusal.ensures, one) refl);
      few = omega (
        arith,
        c.loop-i.invariant.few,
        one,
        one_low c.is_refusal.result,
      );
    }

pub returns-in-Err-clause-passed : goal.returns-in-Err-clause-passed
returns-in-Err-clause-passed g c =
    let n = length c.args.posts.now in
    let lists = answers_of c.args.posts.now in
    let i = c.loop-i.i in
    let front : List Answer = in_turn n 0 i lists in
    let a = c.index-answer.result.now in
    let here : a ≡ answer_in n i lists =
    c.index-answer.ensures ∙ answer_here (λ p. p.answers.items) c.args.posts.now i
    c.index-posts-i.result _ c.requires.some (c.requires.there i c.loop-i-test.true) in
    let left = sink_of g.O.Sink c.pass.new.out in
    passes_longer (answers_text front ++ line_of a)
    (answers_text (in_turn n (0 + (i + 1)) (c.args.count - (i + 1)) lists))
    (answers_text (in_turn n 0 c.args.count lists)) _ left
    (texts_split n i c.args.count lists a c.loop-i-test.true here)
    (passes_part (answers_text front) (line_of a) _ _ left c.loop-i.invariant.passed
    c.in-Err.ensures)
