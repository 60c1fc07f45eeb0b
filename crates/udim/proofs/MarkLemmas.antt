-- Where is the first mark of a name?
use Rattle.std.proofs.Common.{◌≡◌, ℕ, zero, suc, ◌+◌, ◌<◌, ◌≤◌, Bool, true, false, refl, sym, ap, ◌∙◌}
use Rattle.std.proofs.Common.{List, [], ◌∷◌, ◌++◌, length, take, drop, arith}
use denote.Ref.{Bor}
use Rattle.std.specs.Prelude.{Option, Some, None, MatchOption, IfSome}
use Rattle.std.specs.Option.{option_map}
use Rattle.std.specs.Str.Pattern.{LacksTextAt, FindsText, SplitsAroundMatch}
use Rattle.std.proofs.Math.Seq.{take-append_seam}
use Rattle.std.proofs.lemmas.List.{take-append-drop}
use Rattle.std.proofs.lemmas.Slice.Eq.{bytes_eq-Decides}
use Rattle.udim.specs.Udim.{mark, begins_with_mark, mark_at}
use Rattle.udim.specs.Parts.{AreRoundMark}

-- a text that is the mark and more begins with it
begins : (text rest : List ℕ) → text ≡ mark ++ rest → begins_with_mark text ≡ true
begins text rest e =
    (bytes_eq-Decides mark (take (length mark) text)).1
    (sym (ap (take (length mark)) e ∙ take-append_seam mark rest))

-- a text that is not does not
begins_not : (text : List ℕ) → ((rest : List ℕ) → text ≡ mark ++ rest → ⊥)
    → begins_with_mark text ≡ false
begins_not text lacks = by_test (begins_with_mark text) refl
  where
    by_test : (b : Bool) → begins_with_mark text ≡ b → begins_with_mark text ≡ false
    by_test false e = e
    by_test true e =
        absurd
        (lacks (drop (length mark) text)
        (sym (take-append-drop (length mark) text)
        ∙ ap (λ (front : List ℕ). front ++ drop (length mark) text)
        (sym ((bytes_eq-Decides mark (take (length mark) text)).0 e))))

-- a name that lacks the mark at each place holds none
pub mark_lacking : (name : List ℕ) → ((i : ℕ) → i ≤ length name → LacksTextAt mark name i)
    → mark_at name ≡ None
unfolding mark_at
mark_lacking [] lacks = refl
mark_lacking (byte ∷ name) lacks =
    rw (begins_not (byte ∷ name) (lacks 0 (omega arith)))
    (ap (option_map suc) (mark_lacking name (λ i le. lacks (suc i) (omega arith))))

-- a mark after places without one is the first
mark_found : (name : List ℕ) (i : ℕ) → ((k : ℕ) → k < i → LacksTextAt mark name k)
    → (rest : List ℕ) → drop i name ≡ mark ++ rest → mark_at name ≡ Some i
unfolding mark_at
mark_found [] zero lacks rest e = absurd (cc)
mark_found [] (suc i) lacks rest e = absurd (cc)
mark_found (byte ∷ name) zero lacks rest e = rw (begins (byte ∷ name) rest e) refl
mark_found (byte ∷ name) (suc i) lacks rest e =
    rw (begins_not (byte ∷ name) (lacks 0 (omega arith)))
    (ap (option_map suc) (mark_found name i (λ k lt. lacks (suc k) (omega arith)) rest e))

-- a name that splits at the mark does so at its first one
parts_round : (name before behind : List ℕ)
    → SplitsAroundMatch (FindsText mark) name before behind → AreRoundMark name before behind
parts_round name before behind splits =
    let i = splits.0 in
    let j = splits.1 in
    let found : FindsText mark name (Some (i, j)) = splits.2 in
    let front : before ≡ take i name = splits.3 in
    let back : behind ≡ drop j name = splits.4 in
    let len : length before ≡ i = splits.6 in
    let there : mark_at name ≡ Some i =
    mark_found name i found.0 (drop j name) found.1.split in
    let ends : j ≡ i + length mark = found.1.ends in
    record {
      at = there ∙ ap (λ (n : ℕ). Some n) (sym len);
      front = front ∙ ap (λ (n : ℕ). take n name) (sym len);
      back = back ∙ ap (λ (n : ℕ). drop n name) (ends ∙ ap (λ (n : ℕ). n + length mark) (sym len));
    }

pub splits_round : (name : List ℕ) (parts : Option (Bor (List ℕ) × Bor (List ℕ)))
    → MatchOption parts (FindsText mark name None)
    (λ p. SplitsAroundMatch (FindsText mark) name p.0.now p.1.now)
    → IfSome parts (λ p. AreRoundMark name p.0.now p.1.now)
splits_round name None h = tt
splits_round name (Some (before, behind)) h = parts_round name before.now behind.now h
