-- What stays unchanged when text is appended?
use Rattle.std.proofs.Common.{◌≡◌, ℕ, ◌≤◌, List, ◌++◌, length, take, Result, Ok}
use Rattle.std.proofs.Common.{Err, is_ok, cond, true, OnErr, IsErr, sym, ap, ◌∙◌}
use Rattle.std.proofs.Common.{append_assoc, arith}
use Rattle.std.proofs.Math.Seq.{take-length, take-append_seam}
use Rattle.std.proofs.lemmas.List.{take-take, length-append, length-take}
use Rattle.std.proofs.lemmas.List.Concat.{flat_map-append}
use Rattle.short_text.specs.Words.{space}
use Rattle.short_text.specs.Number.{fields, number_behind}
use Rattle.short_text.specs.Appending.{Begins, Pushes}

-- a list begins with itself
pub begins_same : (old new : List ℕ) → new ≡ old → Begins old new
unfolding Begins
begins_same old new e = rw e (take-length old)

-- what begins with more than a list begins with that list
pub begins_more : (a text b c : List ℕ) → b ≡ a ++ text → Begins b c → Begins a c
unfolding Begins
begins_more a text b c e p =
    let few : length a ≤ length b = omega (arith, ap length e, length-append a text) in
    sym (take-take (length a) (length b) c few)
    ∙ ap (take (length a)) p
    ∙ ap (take (length a)) e
    ∙ take-append_seam a text

pub ruleset kept = (begins_same, begins_more)

-- what was there before stays, whether or not all text was appended
pub pushes_keep : {T E : Type 0} (text old new : List ℕ) (r : Result T E)
    → Pushes text old new r → Begins old new
unfolding Begins
pushes_keep text old new (Ok _) p = rw p (take-append_seam old text)
pushes_keep text old new (Err _) p = p

-- after success, all text was appended
pub pushes_all : {T E : Type 0} (text old new : List ℕ) (r : Result T E)
    → Pushes text old new r → is_ok r ≡ true → new ≡ old ++ text
pushes_all text old new (Ok _) p ok = p
pushes_all text old new (Err _) p ok = absurd cc

-- what a `Vec` says of a slice that was appended
pub pushes_slice : {T E : Type 0} (text old new : List ℕ) (r : Result T E)
    → new ≡ cond (is_ok r) (old ++ text) old → Pushes text old new r
pushes_slice text old new (Ok _) e = e
pushes_slice text old new (Err _) e = begins_same old new e

-- a text appended after another one
pub pushes_then : {T E : Type 0} (text more all old mid new : List ℕ) (r : Result T E)
    → text ++ more ≡ all → mid ≡ old ++ text → Pushes more mid new r → Pushes all old new r
pushes_then text more all old mid new (Ok _) whole e p =
    p
    ∙ ap (λ (xs : List ℕ). xs ++ more) e
    ∙ append_assoc old text more
    ∙ ap (λ (xs : List ℕ). old ++ xs) whole
pushes_then text more all old mid new (Err _) whole e p = begins_more old text mid new e p

-- more numbers appended to a word with numbers
pub more_fields : (word a b : List ℕ) → (word ++ fields a) ++ fields b ≡ word ++ fields (a ++ b)
more_fields word a b =
    append_assoc word (fields a) (fields b)
    ∙ ap (λ (xs : List ℕ). word ++ xs) (sym (flat_map-append (number_behind space) a b))

-- cutting after what was there before removes everything appended
pub cut_back : {T E S F : Type 0} (text old mid new : List ℕ) (n : ℕ)
    (pushed : Result S F) (r : Result T E) → n ≡ length old → Pushes text old mid pushed
    → OnErr r (new ≡ take n mid) → OnErr r (new ≡ old)
unfolding Begins
cut_back text old mid new n pushed (Ok _) e p cut = cut
cut_back text old mid new n pushed (Err _) e p cut =
    cut ∙ ap (λ (k : ℕ). take k mid) e ∙ pushes_keep text old mid pushed p

-- the appended text is no longer than the text
pub pushes_few : {T E : Type 0} (text old new : List ℕ) (r : Result T E)
    → Pushes text old new r → length old ≤ length new
unfolding Begins
pushes_few text old new r p =
    let keeps : take (length old) new ≡ old = pushes_keep text old new r p in
    omega (arith, ap length keeps, length-take (length old) new)

-- what begins with a list that begins with another begins with that one
pub begins_chain : (a b c : List ℕ) → Begins a b → Begins b c → Begins a c
unfolding Begins
begins_chain a b c p q =
    let few : length a ≤ length b = omega (arith, ap length p, length-take (length a) b) in
    sym (take-take (length a) (length b) c few) ∙ ap (take (length a)) q ∙ p

-- what the first text begins with, the longer one begins with too
pub begins_on : (a b c text : List ℕ) → Begins a b → c ≡ b ++ text → Begins a c
unfolding Begins
begins_on a b c text p e = begins_chain a b c p (rw e (take-append_seam b text))

-- an error after more text leaves the list that was there before
pub pushes_refused : {T E : Type 0} (text old mid new : List ℕ) (r : Result T E) → IsErr r
    → Begins old mid → Begins mid new → Pushes text old new r
pushes_refused text old mid new (Ok _) refused p q = absurd cc
pushes_refused text old mid new (Err _) refused p q = begins_chain old mid new p q

-- one part more of some values was appended
pub one_part : (out part after rest all new : List ℕ) → out ++ fields rest ≡ all
    → rest ≡ part ++ after → new ≡ out ++ fields part → new ++ fields after ≡ all
one_part out part after rest all new so_far split e =
    ap (λ (xs : List ℕ). xs ++ fields after) e
    ∙ append_assoc out (fields part) (fields after)
    ∙ ap (λ (xs : List ℕ). out ++ xs) (sym (flat_map-append (number_behind space) part after))
    ∙ ap (λ (xs : List ℕ). out ++ fields xs) (sym split)
    ∙ so_far
